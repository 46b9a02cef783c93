-- What the code of a look and of a run cites: a look by cases, a run look by look, and the room that a look needs.
-- Assumes nothing.
use Prim.Native.Nat.{ℕ, suc, ◌+◌, ◌*◌, ◌≤◌, ◌<◌}
use mathlib.Core.Path.{◌≡◌, sym, ap, ◌∙◌}
use mathlib.Core.Logic.{⊎_elim}
use mathlib.Core.Bool.{Bool, true, false}
use mathlib.Core.List.{List, ◌∷◌}
use mathlib.Core.Option.{Option}
use native.Mathlib.Omega.{arith}
use lib.Dec.{eqb}
use borrow.Author.Tests.{eqb-true}
use lib.ListN.{length}
use Rattle.lists.specs.Lists.{bit, count, any}
use Rattle.patch.specs.Lay.{Edge, same, State, seeds_of, Rules, Pop, popped, met, pivoted, looked_at, look, next, run}
use Rattle.patch.specs.Fair.{Free}
use Rattle.lists.proofs.Bools.{either}
use Rattle.lists.proofs.Counts.{any_false, false_any, count_all, pigeons}
use Rattle.patch.proofs.Edges.{same_refl}
use Rattle.patch.specs.Inner.Invariant.{Inv}
use Rattle.patch.proofs.Looks.{clear_v1, clear_v2}
use Rattle.patch.proofs.Laying.{Room, room, entry_below}

module _ {R : Type 0} (rules : Rules R) (order : Pop) (r : R) where
  pub look_skip : (e : Edge) (rest : List Edge) (s : State) → any (same e) s.processed ≡ true → look rules order r e rest s ≡ popped rest s
  unfolding look looked_at
  look_skip e rest s h = ap (λ (b : Bool). looked_at rules order r b e (popped rest s)) h

  pub look_pivot : (e : Edge) (rest : List Edge) (s : State) (o : Option ℕ) → any (same e) s.processed ≡ false → rules.pivot_of r s.used e ≡ o
      → look rules order r e rest s ≡ pivoted e (met e o (popped rest s))
  unfolding look looked_at popped
  look_pivot e rest s o h q = ap (λ (b : Bool). looked_at rules order r b e (popped rest s)) h ∙ ap (λ (p : Option ℕ). pivoted e (met e p (popped rest s))) q

  pub run_more : (m : ℕ) (s : State) (x : Edge) (xs : List Edge) → s.frontier ≡ x ∷ xs → run rules order r (suc m) s
      ≡ run rules order r m (look rules order r (order x xs).0 (order x xs).1 s)
  unfolding run next
  run_more m s x xs h = ap (λ (l : List Edge). run rules order r m (next rules order r l s)) h

module _ (n : ℕ) (s : State) (inv : Inv n s) where
  -- an edge that a free point belongs to is not processed
  pub free_v1 : (g : Edge) → Free n s.used g.v1 → any (same g) s.processed ≡ false
  free_v1 g h = false_any (same g) s.processed (omega (arith, clear_v1 n s inv g h, inv.edgewise g))

  pub free_v2 : (g : Edge) → Free n s.used g.v2 → any (same g) s.processed ≡ false
  free_v2 g h = false_any (same g) s.processed (omega (arith, clear_v2 n s inv g h, inv.edgewise g))

  -- where an unused point is left, a face more and its entries fit
  module _ (k : ℕ) (free : Free n s.used k) where
    at_k : (x : ℕ) → eqb x k ≡ true → count (eqb x) inv.points ≡ 0
    at_k x t = ap (λ (y : ℕ). count (eqb y) inv.points) (eqb-true x k t) ∙ sym (inv.flags k) ∙ free.unused

    listed_once : (x : ℕ) → count (eqb x) (k ∷ inv.points) ≤ 1
    listed_once x = ⊎_elim
        (λ (t : eqb x k ≡ true). let o : bit (eqb x k) ≡ 1 = ap bit t in omega (arith, at_k x t))
        (λ (t : eqb x k ≡ false). let o : bit (eqb x k) ≡ 0 = ap bit t in omega (arith, (inv.pointwise x).once))
        (either (eqb x k))

    listed_below : (x : ℕ) → 1 ≤ count (eqb x) (k ∷ inv.points) → x < n
    listed_below x h = ⊎_elim
        (λ (t : eqb x k ≡ true). let q = eqb-true x k t in omega (arith, free.below))
        (λ (t : eqb x k ≡ false). let o : bit (eqb x k) ≡ 0 = ap bit t in (inv.pointwise x).used_below (omega arith))
        (either (eqb x k))

    pub face_room : (length s.faces + 2 * seeds_of s + 1 ≤ n) × (s.looks + length s.frontier + 3 ≤ 3 * n)
    face_room = let few = pigeons n (k ∷ inv.points) listed_once listed_below in omega (arith, inv.points_count, inv.looked)

  module _ (e : Edge) (rest : List Edge) (pop : (p : Edge → Bool) → count p s.frontier ≡ bit (p e) + count p rest) where
    -- the popped entry's points are points of the cloud
    pub popped_below : (e.v1 < n) × (e.v2 < n)
    popped_below = entry_below n s inv e (omega (arith, pop (same e), ap bit (same_refl e)))

    -- what holds of the lists' lengths once it is out
    pub popped_room : Room n (popped rest s)
    unfolding popped
    popped_room =
        let r = room n s inv in
        let out : length s.frontier ≡ suc (length rest) = omega (arith, pop (λ x. true), count_all s.frontier, count_all rest) in
        record {
          faces = r.faces;
          used = r.used;
          entries = omega (arith, r.entries);
          processed = r.processed;
          looks = omega
              (arith, inv.looked, r.faces);
          pivots = r.pivots;
        }

    -- if it is not processed, no other entry of its edge waits
    pub popped_alone : any (same e) s.processed ≡ false → any (same e) rest ≡ false
    popped_alone h = false_any (same e) rest (omega (arith, inv.edgewise e, pop (same e), ap bit (same_refl e), any_false (same e) s.processed h))
