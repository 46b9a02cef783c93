-- Some triple comes to the quality test of the search for a seed, while no point is used. Definitions only.
use Rattle.std.specs.Prelude.{ℕ, Bool, true, false, replicate}
use Rattle.std.proofs.Math.Option.{Option, none, some}
use Rattle.lists.specs.Lists.{up_from}
use Rattle.patch.specs.Search.{Floats, first_of}

-- the same floats, but that every triple which is judged is accepted
unfoldable pub accept_all : {R : Type 0} → Floats R → Floats R
accept_all a = record {
  near = a.near;
  close = a.close;
  fits = λ r i j k. true;
  pivotable = a.pivotable;
  around = a.around;
  score = a.score;
}

abbrev pub is_some : {A : Type 0} → Option A → Bool
is_some none = false
is_some (some x) = true

-- the search over n unused points, as it stands, comes to the quality test: it would find a seed if that test
-- always passed
unfoldable pub reaches : {R : Type 0} → Floats R → ℕ → R → Bool
reaches a n r = is_some (first_of (accept_all a) r (replicate n 0) (up_from 0 n) 1000)
