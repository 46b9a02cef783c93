-- Turning down faces that a test calls bad, in the floats and in the rules. Definitions only.
use Rattle.std.specs.Prelude.{ℕ, ◌<◌, ◌≡◌, Bool, true, false, cond, not, ◌&&◌, List, length, get_or, Float}
use Rattle.std.proofs.Math.Option.{none, some}
use Rattle.std.specs.Float.{binary32}
use Rattle.std.specs.Float.Ieee.{of_bits, lt}
use Rattle.patch.specs.Lay.{Edge, Face, face, Rules}
use Rattle.patch.specs.Search.{Floats}
use Rattle.patch.specs.Shape.{no_face}

-- the face of a seed, and that of an edge and a point
abbrev pub seed_face : ℕ × ℕ × ℕ → Face
seed_face t = face t.0 t.1 t.2

abbrev pub pivot_face : Edge → ℕ → Face
pivot_face e k = face e.v1 e.v2 k

-- the same floats, but that bad faces are neither acceptable nor scored
unfoldable pub amend : {R : Type 0} → (Face → Bool) → Floats R → Floats R
amend bad a = record {
  near = a.near;
  close = a.close;
  fits = λ r i j k. not (bad (face i j k)) && a.fits r i j k;
  pivotable = a.pivotable;
  around = a.around;
  score = λ r e k. cond (bad (pivot_face e k)) none (a.score r e k);
}

-- a bad face has no score above 0
abbrev pub LowScores : {R : Type 0} → (Face → Bool) → Floats R → Type 0
LowScores {R = R} bad a =
    (r : R) (e : Edge) (k : ℕ) (x : Float)
    → bad (pivot_face e k) ≡ true → a.score r e k ≡ some x → lt (of_bits binary32 0) x ≡ false

-- the rules b are the rules a, but for bad seeds; neither pivots to a bad face
pub record Amends {R : Type 0} (bad : Face → Bool) (a b : Rules R) : Type 0 where
  pub pivots_same : (r : R) (used : List ℕ) (e : Edge) → b.pivot_of r used e ≡ a.pivot_of r used e
  pub pivots_good : (r : R) (used : List ℕ) (e : Edge) (k : ℕ)
      → a.pivot_of r used e ≡ some k → bad (pivot_face e k) ≡ false
  pub seeds_same : (r : R) (used : List ℕ)
      → ((t : ℕ × ℕ × ℕ) → a.seed_of r used ≡ some t → bad (seed_face t) ≡ false) → b.seed_of r used ≡ a.seed_of r used
  pub seeds_good : (r : R) (used : List ℕ) (t : ℕ × ℕ × ℕ)
      → b.seed_of r used ≡ some t → bad (seed_face t) ≡ false

-- of the faces fs, with a flag for each that says whether it is a seed, only seeds are bad
pub record OnlySeeds (bad : Face → Bool) (fs : List Face) (bs : List Bool) : Type 0 where
  pub flagged : length bs ≡ length fs
  pub each : (i : ℕ) → i < length fs → bad (get_or fs i no_face) ≡ true → get_or bs i false ≡ true
