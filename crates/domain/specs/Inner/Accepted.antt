-- What holds once the checks have passed. Definitions only.
use Rattle.std.specs.Prelude.{ℕ, ◌+◌, ◌*◌, ◌/◌, ◌≤◌, ◌<◌, ◌≡◌, true, List, length, get_or, Float}
use Rattle.std.specs.Float.{nan}
use Rattle.std.specs.Float.Ieee.{neg}
use Rattle.ranges.specs.Range.{inside, farthest, largest_finite, percentile_inside}
use Rattle.settings.specs.Inner.Settled.{Settled}
use Rattle.settings.specs.declared.BallPivotingConfig.{BallPivotingConfig}

-- every value is inside -bound to bound
abbrev pub ValuesWithin : Float → List Float → Type 0
ValuesWithin bound xs = (k : ℕ) → k < length xs → inside (neg bound) bound (get_or xs k nan) ≡ true

-- the coordinates of n points
pub record Cloud (n : ℕ) (points : List Float) : Type 0 where
  pub some : 0 < n
  pub few : n ≤ 4096
  pub threes : length points ≡ 3 * n
  pub near : ValuesWithin farthest points

-- work slices for n points
pub record WorkRoom (n words floats : ℕ) : Type 0 where
  pub words_enough : 24 * n + 64 ≤ words
  pub floats_enough : 4 * n + 64 ≤ floats

pub record AcceptedEstimate (points : List Float) (percentile : Float) (words floats : ℕ) : Type 0 where
  pub cloud : Cloud (length points / 3) points
  pub percentile_inside_lem : percentile_inside percentile ≡ true
  pub room : WorkRoom (length points / 3) words floats

-- 1 to 5
pub record AcceptedInput (points normals : List Float) (settings : BallPivotingConfig) : Type 0 where
  pub cloud : Cloud (length points / 3) points
  pub as_long : length normals ≡ length points
  pub finite : ValuesWithin largest_finite normals
  pub settled : Settled settings

pub record AcceptedReconstruct (points normals : List Float) (settings : BallPivotingConfig) (words floats : ℕ)
    : Type 0 where
  pub cloud : Cloud (length points / 3) points
  pub as_long : length normals ≡ length points
  pub finite : ValuesWithin largest_finite normals
  pub settled : Settled settings
  pub room : WorkRoom (length points / 3) words floats
