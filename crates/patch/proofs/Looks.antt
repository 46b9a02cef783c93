-- A radius that begins, a seed and each kind of look keep the invariant. Assumes nothing.
use Prim.Native.Nat.{ℕ, suc, ◌+◌, ◌*◌, ◌≤◌}
use mathlib.Core.Path.{◌≡◌, refl, sym, ap, ◌∙◌}
use mathlib.Core.Logic.{⊎_elim, ◌≢◌}
use mathlib.Core.Bool.{Bool, true, false}
use mathlib.Core.List.{List, [], ◌∷◌}
use mathlib.Core.Option.{none, some}
use native.Mathlib.Omega.{arith}
use lib.Dec.{eqb}
use borrow.Author.Tests.{eqb-true}
use lib.ListN.{length, length-append}
use Rattle.lists.specs.Lists.{bit, count, any}
use Rattle.patch.specs.Lay.{Edge, edge, same, Face, face, points_of, edges_of, State, with_face, cleared, seeded, popped, met, pivoted}
use Rattle.patch.specs.Fair.{Free, FreeSeed}
use Rattle.patch.specs.Shape.{touches, has, new_points, Laid}
use Rattle.lists.proofs.Bools.{either, true_not_false}
use Rattle.lists.proofs.Counts.{bit_le, bit_true, any_true, any_false, true_any, false_any, count_ext, count_all}
use Rattle.patch.proofs.Edges.{same_refl, same_congr, Distinct, not_both, which, touches_which, laid_congr, laid_v1, laid_v2}
use Rattle.patch.specs.Inner.Invariant.{waiting, Inv}
use Rattle.patch.proofs.Inv.{edge_skip, edge_clear, touched_used}
use Rattle.patch.proofs.Steps.{still, missed, Comes, grown, entries_length}

-- entries waiting, less three for each face: one fewer with each look
abbrev pub Falls : State → State → Type 0
Falls s t = suc (length t.frontier) + 3 * length s.faces ≡ length s.frontier + 3 * length t.faces

-- after a look at s
pub record Looked (n : ℕ) (s t : State) : Type 0 where
  pub inv : Inv n t
  pub falls : Falls s t

module _ (n : ℕ) (s : State) (inv : Inv n s) where
  -- a point that is not used is listed nowhere and touched by no face
  unlisted : (x : ℕ) → Free n s.used x → count (eqb x) inv.points ≡ 0
  unlisted x h = sym (inv.flags x) ∙ h.unused

  untouched : (x : ℕ) → Free n s.used x → count (touches x) s.faces ≡ 0
  untouched x h = (inv.pointwise x).unused_untouched (unlisted x h)

  -- an edge that a free point belongs to is an edge of no face
  pub clear_v1 : (e : Edge) → Free n s.used e.v1 → count (has e) s.faces ≡ 0
  clear_v1 e h = omega (arith, laid_v1 e s.faces, untouched e.v1 h)

  pub clear_v2 : (e : Edge) → Free n s.used e.v2 → count (has e) s.faces ≡ 0
  clear_v2 e h = omega (arith, laid_v2 e s.faces, untouched e.v2 h)

  -- a point that a face touches is listed
  listed : (x : ℕ) → 1 ≤ count (touches x) s.faces → 1 ≤ count (eqb x) inv.points
  listed x h = touched_used n x _ _ (inv.pointwise x) h

  -- the entry e was popped
  module _ (e : Edge) (rest : List Edge) (pop : (p : Edge → Bool) → count p s.frontier ≡ bit (p e) + count p rest) where
    abbrev hand : List Edge
    hand = e ∷ []

    from_hand : (p : Edge → Bool) → count p s.frontier ≡ count p hand + count p rest
    from_hand p = omega (arith, pop p)

    one_out : length s.frontier ≡ suc (length rest)
    one_out = omega (arith, pop (λ x. true), count_all s.frontier, count_all rest)

    pub skip_looked : any (same e) s.processed ≡ true → (looks pivots : ℕ) → looks ≡ suc s.looks → pivots ≡ s.pivots
        → Looked n s (record {
          faces = s.faces;
          seed_flags = s.seed_flags;
          used = s.used;
          frontier = rest;
          processed = s.processed;
          looks = looks;
          pivots = pivots;
        })
    skip_looked seen looks pivots l q =
        let z : bit (waiting s.processed e) ≡ 0 = rw seen in
        record {
          inv =
              still n s inv rest s.processed looks pivots
              (λ g. edge_skip (count (has g) s.faces) (count (same g) rest) (count (same g) s.processed) (count (same g) inv.edges) (bit (same g e))
              (omega (arith, inv.edgewise g, pop (same g))))
              (omega (arith, inv.processed_few))
              (omega (arith, inv.looked, one_out))
              (omega (arith, inv.pivoted, pop (waiting s.processed)));
          falls = omega (arith, one_out);
        }

    module _ (unseen : any (same e) s.processed ≡ false) where
      fresh : (g : Edge) → count (same g) s.processed + count (same g) hand ≤ 1
      fresh g = ⊎_elim
          (λ (t : same g e ≡ true). let c = count_ext (same g) (same e) (same_congr g e t) s.processed in let o : bit (same g e)
          ≡ 1 = ap bit t in omega (arith, any_false (same e) s.processed unseen))
          (λ (t : same g e ≡ false). let o : bit (same g e) ≡ 0 = ap bit t in omega (arith, inv.edgewise g))
          (either (same g e))

      pub miss_looked : Looked n s (pivoted e (met e none (popped rest s)))
      unfolding pivoted met popped
      miss_looked = record {
        inv = missed n s inv hand rest from_hand fresh _ _ (omega arith) (omega arith);
        falls = omega (arith, one_out);
      }

      laid_e : 1 ≤ count (has e) s.faces
      laid_e = let self : bit (same e e) ≡ 1 = ap bit (same_refl e) in omega (arith, inv.edgewise e, pop (same e))

      module _ (k : ℕ) (free : Free n s.used k) where
        abbrev next_face : Face
        next_face = face e.v1 e.v2 k

        touched_1 : 1 ≤ count (touches e.v1) s.faces
        touched_1 = omega (arith, laid_e, laid_v1 e s.faces)

        touched_2 : 1 ≤ count (touches e.v2) s.faces
        touched_2 = omega (arith, laid_e, laid_v2 e s.faces)

        apart : (x : ℕ) → 1 ≤ count (touches x) s.faces → k ≢ x
        apart x h q = let c : count (touches k) s.faces
            ≡ count (touches x) s.faces = ap (λ (m : ℕ). count (touches m) s.faces) q in omega (arith, untouched k free)

        pub distinct : Distinct next_face
        distinct = record {
          ab = λ q. let c : count (has (edge e.v1 e.v1)) s.faces
              ≡ count (has e) s.faces = ap (λ (m : ℕ). count (has (edge e.v1 m)) s.faces) q in omega (arith, laid_e, inv.straight e.v1);
          bc = λ q. apart e.v2 touched_2 (sym q);
          ca = apart e.v1 touched_1;
        }

        laid : Laid false s.faces next_face
        unfolding new_points has
        laid = record {
          different = (distinct.ab, distinct.bc, distinct.ca);
          seed_new = λ h. absurd (true_not_false h refl);
          other_new = λ h. rw (
            true_any (touches e.v1) s.faces touched_1,
            true_any (touches e.v2) s.faces touched_2,
            false_any (touches k)
                s.faces (untouched k free),
          );
          other_shares = λ h. (
            e,
            true_any (same e) (edges_of next_face) (let self : bit (same e e) ≡ 1 = ap bit (same_refl e) in omega arith),
            true_any (has e)
                s.faces laid_e,
          );
        }

        new_clear : (g : Edge) → 1 ≤ count (same g) (edge e.v2 k ∷ edge k e.v1 ∷ []) → count (has g) s.faces ≡ 0
        new_clear g h = ⊎_elim
            (λ (t : same g (edge e.v2 k) ≡ true). laid_congr g (edge e.v2 k) t s.faces ∙ clear_v2 (edge e.v2 k) free)
            (λ (t : same g (edge e.v2 k) ≡ false). let z : bit (same g (edge e.v2 k))
            ≡ 0 = ap bit t in laid_congr g (edge k e.v1) (bit_true (omega arith)) s.faces ∙ clear_v1 (edge k e.v1) free)
            (either (same g (edge e.v2 k)))

        comes : Comes n s inv hand rest from_hand fresh false (k ∷ []) next_face
        unfolding touches
        comes = record {
          distinct = distinct;
          laid = laid;
          new = edge e.v2 k ∷ edge k e.v1 ∷ [];
          new_many = refl;
          new_clear = new_clear;
          split = λ p. omega arith;
          ks_many = refl;
          ks_once = λ x. let b = bit_le (eqb x k) in omega arith;
          ks_free = λ x m. rw (eqb-true x k (bit_true (omega arith))) free;
          ks_touched = λ x m. true_any (eqb x) (points_of next_face) (omega arith);
          others_used = λ x z t. ⊎_elim
              (λ (u : eqb x e.v1 ≡ true). rw (eqb-true x e.v1 u) (listed e.v1 touched_1))
              (⊎_elim
              (λ (u : eqb x e.v2 ≡ true). rw (eqb-true x e.v2 u) (listed e.v2 touched_2))
              (λ (u : eqb x k ≡ true). let o : bit (eqb x k) ≡ 1 = ap bit u in absurd (omega arith)))
              (touches_which x next_face t);
        }

        pub grow_looked : Looked n s (pivoted e (met e (some k) (popped rest s)))
        unfolding pivoted met with_face popped
        grow_looked = record {
          inv = grown n s inv hand rest from_hand fresh false (k ∷ []) next_face comes _ _ (omega arith) (omega arith);
          falls = omega (
            arith,
            one_out,
            entries_length n s inv hand rest from_hand fresh false (k ∷ []) next_face comes,
            length-append s.faces
                (next_face ∷ []),
          );
        }

-- ---- a radius begins
pub clear_inv : (n : ℕ) (s : State) → Inv n s → s.frontier ≡ [] → Inv n (cleared s)
unfolding cleared
clear_inv n s inv idle = still n s inv [] [] s.looks s.pivots
    (λ g. edge_clear (count (has g) s.faces) (count (same g) s.frontier) (count (same g) s.processed) (count (same g) inv.edges) (inv.edgewise g))
    (omega arith)
    (omega (arith, inv.looked, ap length idle))
    (omega (arith, inv.pivoted, ap (count (waiting s.processed)) idle))

-- ---- a seed, laid when no entry waits
module _ (n : ℕ) (s : State) (inv : Inv n s) (idle : s.frontier ≡ []) (t : ℕ × ℕ × ℕ) (free : FreeSeed n s.used t) where
  abbrev first_face : Face
  first_face = face t.0 t.1 t.2

  abbrev ks : List ℕ
  ks = t.0 ∷ t.1 ∷ t.2 ∷ []

  -- a point is at most one of the three
  one_point : (x : ℕ) → count (eqb x) ks ≤ 1
  one_point x =
      let p = not_both (eqb x t.0) (eqb x t.1) (λ u v. free.differ.0 (sym (eqb-true x t.0 u) ∙ eqb-true x t.1 v)) in
      let q = not_both (eqb x t.1) (eqb x t.2) (λ u v. free.differ.1 (sym (eqb-true x t.1 u) ∙ eqb-true x t.2 v)) in
      let r = not_both (eqb x t.2) (eqb x t.0) (λ u v. free.differ.2 (sym (eqb-true x t.2 u) ∙ eqb-true x t.0 v)) in
      omega arith

  seed_free : (x : ℕ) → 1 ≤ count (eqb x) ks → Free n s.used x
  seed_free x h = ⊎_elim
      (λ (u : eqb x t.0 ≡ true). rw (eqb-true x t.0 u) free.first)
      (⊎_elim
      (λ (u : eqb x t.1 ≡ true). rw (eqb-true x t.1 u) free.second)
      (λ (u : eqb x t.2 ≡ true). rw (eqb-true x t.2 u) free.third))
      (which (eqb x t.0) (eqb x t.1) (eqb x t.2) h)

  seed_clear : (g : Edge) → 1 ≤ count (same g) (edges_of first_face) → count (has g) s.faces ≡ 0
  seed_clear g h = ⊎_elim
      (λ (u : same g (edge t.0 t.1) ≡ true). laid_congr g (edge t.0 t.1) u s.faces ∙ clear_v1 n s inv (edge t.0 t.1) free.first)
      (⊎_elim
      (λ (u : same g (edge t.1 t.2) ≡ true). laid_congr g (edge t.1 t.2) u s.faces ∙ clear_v1 n s inv (edge t.1 t.2) free.second)
      (λ (u : same g (edge t.2 t.0) ≡ true). laid_congr g (edge t.2 t.0) u s.faces ∙ clear_v1 n s inv (edge t.2 t.0) free.third))
      (which (same g (edge t.0 t.1)) (same g (edge t.1 t.2)) (same g (edge t.2 t.0)) h)

  seed_laid : Laid true s.faces first_face
  unfolding new_points
  seed_laid = record {
    different = free.differ;
    seed_new = λ h. rw (
      false_any (touches t.0) s.faces (untouched n s inv t.0 free.first),
      false_any (touches t.1) s.faces
          (untouched n s inv t.1 free.second),
      false_any (touches t.2) s.faces (untouched n s inv t.2 free.third),
    );
    other_new = λ h. absurd (true_not_false refl h);
    other_shares = λ h. absurd (true_not_false refl h);
  }

  no_hand : (p : Edge → Bool) → count p (cleared s).frontier ≡ count p [] + count p []
  unfolding cleared
  no_hand p = refl

  no_mark : (g : Edge) → count (same g) (cleared s).processed + count (same g) [] ≤ 1
  unfolding cleared
  no_mark g = omega arith

  seed_comes : Comes n (cleared s) (clear_inv n s inv idle) [] [] no_hand no_mark true ks first_face
  unfolding cleared touches
  seed_comes = record {
    distinct = record { ab = free.differ.0; bc = free.differ.1; ca = free.differ.2 };
    laid = seed_laid;
    new = edges_of first_face;
    new_many = refl;
    new_clear = seed_clear;
    split = λ p. omega arith;
    ks_many = refl;
    ks_once = one_point;
    ks_free = seed_free;
    ks_touched = λ x m. true_any (eqb x) (points_of first_face) m;
    others_used = λ x z u. absurd (omega (arith, any_true (eqb x) (points_of first_face) u));
  }

  pub seed_inv : Inv n (seeded t (cleared s))
  unfolding seeded with_face cleared
  seed_inv = grown n (cleared s) (clear_inv n s inv idle) [] [] no_hand no_mark true ks first_face seed_comes s.looks s.pivots (omega arith) (omega arith)

  pub seed_frontier : length (seeded t (cleared s)).frontier + 3 * length s.faces ≡ 3 * length (seeded t (cleared s)).faces
  unfolding seeded with_face cleared
  seed_frontier = omega (
    arith,
    entries_length n (cleared s) (clear_inv n s inv idle) [] [] no_hand no_mark true ks first_face seed_comes,
    length-append s.faces
        (first_face ∷ []),
  )
