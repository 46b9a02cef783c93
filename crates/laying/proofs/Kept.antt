-- What survives a change of the work slice. Assumes nothing.
use Prim.Native.Nat.{ℕ, ◌+◌, ◌*◌, ◌≤◌, ◌<◌}
use mathlib.Core.Path.{◌≡◌, refl, sym, ap, ◌∙◌, subst}
use mathlib.Core.Logic.{⊎_elim}
use mathlib.Core.Bool.{true, false}
use mathlib.Core.List.{List, [], ◌∷◌}
use native.Mathlib.Nat.{le_of_eq}
use native.Mathlib.Omega.{arith}
use borrow.Author.Tests.{eqb-true, eqb-false, eq-eqb}
use lib.Dec.{eqb}
use lib.ListN.{length, take, drop, get_or, set, length-set, length-drop, drop_of_length-le}
use lib.Seq.{get_or-set_same, get_or-set_other, length-take-le}
use lib.Ieee.{Float}
use Rattle.grid.proofs.Near.{indexed_kept}
use Rattle.spatial_hash.specs.Inner.Near.{Hashed}
use Rattle.spatial_hash.specs.Inner.Buckets.{is_out}
use Rattle.spatial_hash.proofs.Kept.{linked_behind, hashed_all_behind, all_hashed}
use Rattle.lists.specs.Lists.{bit, count, unused}
use Rattle.patch.specs.Lay.{Edge, State, marked}
use Rattle.lists.proofs.Bools.{either}
use Rattle.spatial_hash.specs.declared.Hash.{Hash}
use Rattle.decisions.specs.declared.Scene.{Scene}
use Rattle.nearby.specs.Inner.Ready.{SceneKept}
use Rattle.nearby.proofs.Keeping.{held_kept, hashed_search}
use Rattle.laying_steps.specs.declared.Counts.{Counts}
use Rattle.regions.specs.Inner.Regions.{used_in}
use Rattle.laying_words.specs.Inner.Words.{WordsSized, OnlyIn}
use Rattle.laying_steps.specs.Inner.Work.{HoldsState}
use Rattle.laying_words.proofs.Slices.{before_same, after_same, only_wider}
use Rattle.laying.specs.Inner.Laying.{AllSearchable, LayingSearchable, Without}

-- ---- neither the index nor the words that hold a state were changed
pub record Beside (n : ℕ) (w u : List ℕ) : Type 0 where
  pub index : take (4 * n) u ≡ take (4 * n) w
  pub held : (at k : ℕ) → 5 * n ≤ at → at + k ≤ 9 * n → take k (drop at u) ≡ take k (drop at w)
  pub length_same : length u ≡ length w

pub beside_both : {n : ℕ} {w u v : List ℕ} → Beside n w u → Beside n u v → Beside n w v
beside_both a b = record { index = b.index ∙ a.index; held = λ at k h l. b.held at k h l ∙ a.held at k h l; length_same = b.length_same ∙ a.length_same }

-- a search changes nothing but the list of neighbours
pub beside_search : {s : Scene} {w : List ℕ} (u : List ℕ) → SceneKept s w u → length u ≡ length w → Beside s.n w u
beside_search {s} {w} u k l = record {
  index = k.before;
  held = λ at m h _. after_same {lo = 4 * s.n} {hi = 5 * s.n} (record { before = k.before; after = k.after; length_same = l }) at m h;
  length_same = l;
}

-- what takes points out of the hash, nothing but its words
pub beside_without : {hash : Hash} {pts : List Float} {n : ℕ} {ks w : List ℕ} (u : List ℕ) → Without hash pts n ks w u → length u ≡ length w → Beside n w u
beside_without {n = n} {w = w} u x l =
    let only : OnlyIn (9 * n) (length w) w u = record {
      before = x.before;
      after = drop_of_length-le u (le_of_eq l) ∙ sym (drop_of_length-le w (le_of_eq refl));
      length_same = l;
    } in
    record { index = before_same only 0 (4 * n) (omega arith); held = λ at k _ h. before_same only at k h; length_same = l }

pub holds_beside : {n : ℕ} {w u lent : List ℕ} {t : State} {c : Counts} {slice : List ℕ} → Beside n w u → c.first + c.frontier ≤ 3 * n
    → HoldsState n lent t c w slice → HoldsState n lent t c u slice
holds_beside {n} {c = c} b few h = record {
  faces_count = h.faces_count;
  seeds_count = h.seeds_count;
  frontier_count = h.frontier_count;
  looks = h.looks;
  pivots = h.pivots;
  used = b.held (5 * n) n (omega arith) (omega arith) ∙ h.used;
  frontier = b.held (6 * n + c.first) c.frontier (omega arith) (omega arith) ∙ h.frontier;
  first_most = h.first_most;
  faces = h.faces;
}

-- ---- the ground

pub sized : {s : Scene} {hash : Hash} {pts : List Float} {w : List ℕ} → LayingSearchable s hash pts w → WordsSized s.n w
sized g = record { some = g.some; few = g.held.few; long = g.held.work_long }

module _ {s : Scene} {hash : Hash} {pts : List Float} {w : List ℕ} (u : List ℕ) (g : LayingSearchable s hash pts w) where
  searchable_after : Hashed hash pts s.n u → take (4 * s.n) u ≡ take (4 * s.n) w → length u ≡ length w → LayingSearchable s hash pts u
  searchable_after x e l = record { some = g.some; held = held_kept u g.held l; indexed = indexed_kept u g.indexed l e; hashed = x }

  pub searchable_searched : SceneKept s w u → length u ≡ length w → LayingSearchable s hash pts u
  searchable_searched k l = searchable_after (hashed_search {s = s} u g.hashed l k) k.before l

  -- a step that uses no point
  pub searchable_same : OnlyIn (5 * s.n) (9 * s.n) w u → used_in s.n u ≡ used_in s.n w → LayingSearchable s hash pts u
  searchable_same o e = searchable_after
      (record {
        linked = linked_behind hash pts s.n (9 * s.n) w u (omega arith) o.after o.length_same g.hashed.linked;
        unused_in = λ j h free. ap (λ (ls : List ℕ). is_out s.n ls j) o.after ∙ g.hashed.unused_in j h
            (subst (λ (l : List ℕ). unused l j ≡ true) e free);
      })
      (before_same o 0 (4 * s.n) (omega arith))
      o.length_same

-- the points ks are out and used
marked_unused : (ks used : List ℕ) (j : ℕ) → ((k : ℕ) → 1 ≤ count (eqb k) ks → k < length used) → unused (marked used ks) j ≡ true → (unused used j ≡ true)
    × (count (eqb j) ks ≡ 0)
unfolding marked
marked_unused [] used j below free = (free, refl)
marked_unused (k ∷ ks) used j below free =
    let r = marked_unused ks (set used k 1) j (λ i h. simp length-set (below i (omega arith))) free in
    ⊎_elim
    (λ (t : eqb j k ≡ true).
    let e = eqb-true j k t in
    let own = below k (rw (eq-eqb k k refl) (omega arith)) in
    let one : get_or (set used k 1) j 0 ≡ 1 = ap (λ (i : ℕ). get_or (set used k 1) i 0) e ∙ get_or-set_same used k 1 0 own in
    absurd (omega (arith, eqb-true (get_or (set used k 1) j 0) 0 r.0)))
    (λ (t : eqb j k ≡ false).
    let ne = eqb-false j k t in
    let same : get_or (set used k 1) j 0 ≡ get_or used j 0 = get_or-set_other used k j 1 0 (λ (e : j ≡ k). ne e) in
    (subst (λ (x : ℕ). eqb x 0 ≡ true) same r.0, omega (arith, ap bit t, r.1)))
    (either (eqb j k))

pub searchable_laid : {s : Scene} {hash : Hash} {pts : List Float} {ks w v : List ℕ} (x : List ℕ) → LayingSearchable s hash pts w
    → Without hash pts s.n ks w v → length v ≡ length w → OnlyIn (5 * s.n) (9 * s.n) v x
    → used_in s.n x ≡ marked (used_in s.n w) ks → ((k : ℕ) → 1 ≤ count (eqb k) ks → k < s.n) → LayingSearchable s hash pts x
searchable_laid {s} {hash} {pts} {ks} {w} {v} x g out l o used below =
    let size : length (used_in s.n w) ≡ s.n = length-take-le s.n (drop (5 * s.n) w) (simp length-drop (omega (arith, g.held.work_long))) in
    searchable_after x g
    (record {
      linked = linked_behind hash pts s.n (9 * s.n) v x (omega arith) o.after o.length_same out.linked;
      unused_in = λ j h free.
          let r = marked_unused ks (used_in s.n w) j (λ k q. omega (arith, below k q)) (subst (λ (u : List ℕ). unused u j ≡ true) used free) in
          ap (λ (ls : List ℕ). is_out s.n ls j) o.after ∙ out.others j h r.1 ∙ g.hashed.unused_in j h r.0;
    })
    (before_same o 0 (4 * s.n) (omega arith) ∙ (beside_without v out l).index)
    (o.length_same ∙ l)

-- ---- before any point is laid
module _ {s : Scene} {hash : Hash} {pts : List Float} {w : List ℕ} (u : List ℕ) where
  -- only words between the index and a place before the hash were changed
  all_searchable_only : (a : ℕ) → a ≤ 9 * s.n → OnlyIn (4 * s.n) a w u → AllSearchable s hash pts w → AllSearchable s hash pts u
  all_searchable_only a h o g = record {
    some = g.some;
    held = held_kept u g.held o.length_same;
    indexed = indexed_kept u g.indexed o.length_same o.before;
    hashed = hashed_all_behind hash pts s.n a w u h o.after o.length_same g.hashed;
  }

  pub searchable_begun : AllSearchable s hash pts w → OnlyIn (5 * s.n) (6 * s.n) w u → LayingSearchable s hash pts u
  searchable_begun g o =
      let v = all_searchable_only (6 * s.n) (omega arith) (only_wider (4 * s.n) (6 * s.n) (omega arith) (omega arith) o) g in
      record { some = v.some; held = v.held; indexed = v.indexed; hashed = all_hashed v.hashed }

pub all_searchable_searched : {s : Scene} {w : List ℕ} (u : List ℕ) → SceneKept s w u → length u ≡ length w → {hash : Hash} {pts : List Float}
    → AllSearchable s hash pts w → AllSearchable s hash pts u
all_searchable_searched {s} u k l = all_searchable_only u (5 * s.n) (omega arith) (record { before = k.before; after = k.after; length_same = l })

-- a list that is not empty
pub record Waiting (l : List Edge) : Type 0 where
  pub first : Edge
  pub others : List Edge
  pub is : l ≡ first ∷ others

pub waiting : (l : List Edge) → 0 < length l → Waiting l
waiting [] h = absurd (omega arith)
waiting (x ∷ xs) h = record { first = x; others = xs; is = refl }

pub none_waits : (l : List Edge) → length l ≡ 0 → l ≡ []
none_waits [] h = refl
none_waits (x ∷ xs) h = absurd (omega arith)
