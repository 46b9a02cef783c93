-- The one claim about the main call: its whole result, for all input. Definitions only.
use Rattle.std.specs.Prelude.{ℕ, zero, suc, ◌<◌, ◌≡◌, Bool, true, List, [], ◌∷◌, eqb, length, get_or, drop, Float}
use Rattle.numbers.specs.Rounded.{f32}
use Rattle.domain.specs.Refusals.{reconstruct_refusal}
use Rattle.settings.specs.declared.BallPivotingConfig.{BallPivotingConfig}
use Rattle.lists.specs.Lists.{any}
use Rattle.patch.specs.Lay.{Face, face, State, seeds_of}
use Rattle.patch.specs.Shape.{touches, Shape}
use Rattle.ball_pivoting.specs.Reconstruct.{point_count, found, laid_of, reconstructed, faces_after}
use Rattle.clearing.specs.Swept.{swept}
use Rattle.ball_pivoting.specs.declared.Patch.{Patch}

-- the checks up to 7 pass
abbrev pub passes : List Float → List Float → BallPivotingConfig → ℕ → ℕ → Bool
passes points normals c words floats = eqb (reconstruct_refusal points normals c words floats).answer 0

-- the first k faces in a slice, three numbers each
unfoldable pub faces_in : ℕ → List ℕ → List Face
faces_in zero slice = []
faces_in (suc k) slice = face (get_or slice 0 0) (get_or slice 1 0) (get_or slice 2 0) ∷ faces_in k (drop 3 slice)

-- what comes back of the multi-radius path over n points: the faces fs, their number F, the number S of seeds,
-- the looks and the pivots
pub record Returned (n : ℕ) (s : State) (fs : List Face) (F S looks pivots : ℕ) : Type 0 where
  -- they are those of s, the definition's state when all radii are done
  pub faces_are : fs ≡ s.faces
  pub number_is : F ≡ length s.faces
  pub seeds_are : S ≡ seeds_of s
  pub looks_are : looks ≡ s.looks
  pub pivots_are : pivots ≡ s.pivots
  -- of them holds the one claim, with its field `points`: they touch exactly F + 2S points
  pub shape : Shape fs s.seed_flags F S looks pivots
  -- all of them points of the cloud
  pub inside : (x : ℕ) → any (touches x) fs ≡ true → x < n

-- `faces`, `words` and `floats` are the lent slices before the call, those with a mark after it
pub record Reconstructs
    (points normals : List Float) (c : BallPivotingConfig) (faces words : List ℕ) (floats : List Float)
    (p : Patch) (faces' words' : List ℕ) (floats' : List Float) : Type 0 where
  -- the answer, detail, counts and radii are the definition's
  pub result : p ≡ reconstructed points normals c (length faces) (length words) (length floats)
  -- and so is every lent slice
  pub faces_after_lem : faces' ≡ faces_after p (found c points) faces
  pub words_after : words' ≡ swept 0 (passes points normals c (length words) (length floats)) words
  pub floats_after : floats' ≡ swept (f32 0) (passes points normals c (length words) (length floats)) floats
  -- where the cloud is accepted and there are radii, the multi-radius path was taken,
  -- and of the faces in front of the slice and the counts that come back holds the one claim
  pub shape : p.answer ≡ 0 → 0 < p.radii_count
      → Returned (point_count points) (laid_of c points)
      (faces_in p.faces faces') p.faces p.seeds p.looks p.pivots
