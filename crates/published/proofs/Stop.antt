-- The stop above 50,000 faces never comes where the patch has at most so many: faces are only ever added.
-- Assumes nothing.
use Prim.Native.Nat.{ℕ, zero, suc, ◌*◌, ◌≤◌}
use native.Mathlib.Omega.{arith}
use mathlib.Core.Path.{◌≡◌, refl, ap, ◌∙◌}
use mathlib.Core.Bool.{Bool, true, false}
use mathlib.Core.List.{List, [], ◌∷◌}
use mathlib.Core.Option.{Option, none, some}
use lib.ListN.{length, length-append}
use borrow.Author.Tests.{le-ltb}
use Rattle.lists.specs.Lists.{any}
use Rattle.patch.specs.Lay.{Edge, Rules, State, Pop, same, popped, met, pivoted, seeded, cleared, with_face, looked_at}
use Rattle.patch.specs.Lay.{look, next, run, begun, lay_one, lay_all, blank, patch, face}
use Rattle.published.specs.Published.{run_stopping, begun_stopping, all_stopping}

module _ {R : Type 0} (rules : Rules R) (pop : Pop) where
  -- ---- no step takes a face away
  met_grows : (e : Edge) (o : Option ℕ) (s : State) → length s.faces ≤ length (met e o s).faces
  unfolding met with_face
  met_grows e none s = omega arith
  met_grows e (some k) s = omega (arith, length-append s.faces (face e.v1 e.v2 k ∷ []))

  judged_grows : (r : R) (b : Bool) (e : Edge) (s : State)
      → length s.faces ≤ length (looked_at rules pop r b e s).faces
  unfolding looked_at pivoted
  judged_grows r true e s = omega arith
  judged_grows r false e s = met_grows e (rules.pivot_of r s.used e) s

  next_grows : (r : R) (es : List Edge) (s : State) → length s.faces ≤ length (next rules pop r es s).faces
  unfolding next look popped
  next_grows r [] s = omega arith
  next_grows r (x ∷ xs) s =
      judged_grows r (any (same (pop x xs).0) s.processed) (pop x xs).0 (popped (pop x xs).1 s)

  run_grows : (r : R) (m : ℕ) (s : State) → length s.faces ≤ length (run rules pop r m s).faces
  unfolding run
  run_grows r zero s = omega arith
  run_grows r (suc m) s =
      let once = next_grows r s.frontier s in
      let more = run_grows r m (next rules pop r s.frontier s) in
      omega (arith, once, more)

  begun_grows : (r : R) (n : ℕ) (o : Option (ℕ × ℕ × ℕ)) (s : State)
      → length s.faces ≤ length (begun rules pop r n o s).faces
  unfolding begun seeded with_face
  begun_grows r n none s = omega arith
  begun_grows r n (some t) s =
      let first = length-append s.faces (face t.0 t.1 t.2 ∷ []) in
      let more = run_grows r (3 * n) (seeded t s) in
      omega (arith, first, more)

  all_grows : (n : ℕ) (rs : List R) (s : State) → length s.faces ≤ length (lay_all rules pop n rs s).faces
  unfolding lay_all lay_one cleared
  all_grows n [] s = omega arith
  all_grows n (r ∷ rs) s =
      let one = begun_grows r n (rules.seed_of r s.used) (cleared s) in
      let more = all_grows n rs (begun rules pop r n (rules.seed_of r s.used) (cleared s)) in
      omega (arith, one, more)

  -- ---- so few faces at the end are few all along
  run_same : (r : R) (m : ℕ) (s : State) → length (run rules pop r m s).faces ≤ 50000
      → run_stopping rules pop r m s ≡ run rules pop r m s
  unfolding run_stopping run
  run_same r zero s few = refl
  run_same r (suc m) s few =
      let grows = run_grows r (suc m) s in
      let below : length s.faces ≤ 50000 = omega (arith, grows, few) in
      rw (le-ltb 50000 (length s.faces) below) (run_same r m (next rules pop r s.frontier s) few)

  begun_same : (r : R) (n : ℕ) (o : Option (ℕ × ℕ × ℕ)) (s : State)
      → length (begun rules pop r n o s).faces ≤ 50000 → begun_stopping rules pop r n o s ≡ begun rules pop r n o s
  unfolding begun_stopping begun
  begun_same r n none s few = refl
  begun_same r n (some t) s few = run_same r (3 * n) (seeded t s) few

  all_same : (n : ℕ) (rs : List R) (s : State) → length (lay_all rules pop n rs s).faces ≤ 50000
      → all_stopping rules pop n rs s ≡ lay_all rules pop n rs s
  unfolding all_stopping lay_all lay_one
  all_same n [] s few = refl
  all_same n (r ∷ rs) s few =
      let one = begun rules pop r n (rules.seed_of r s.used) (cleared s) in
      let grows = all_grows n rs one in
      ap (all_stopping rules pop n rs)
      (begun_same r n (rules.seed_of r s.used) (cleared s) (omega (arith, grows, few)))
      ∙ all_same n rs one few

  pub never_stopping : (n : ℕ) (rs : List R) → length (patch rules pop n rs).faces ≤ 50000
      → all_stopping rules pop n rs (blank n) ≡ patch rules pop n rs
  unfolding patch
  never_stopping n rs few = all_same n rs (blank n) few
