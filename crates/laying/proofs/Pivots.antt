-- A pivot over an edge that was popped: what the search asks, and what is laid. Assumes nothing.
use Prim.Native.Nat.{ℕ, suc, ◌+◌, ◌*◌, ◌≤◌, ◌<◌}
use mathlib.Core.Path.{◌≡◌, refl, sym, ap, ◌∙◌, subst}
use mathlib.Core.Bool.{Bool, true, false}
use mathlib.Core.List.{List, [], ◌∷◌}
use mathlib.Core.Option.{Option, none, some}
use native.Mathlib.Omega.{arith}
use borrow.Author.Tests.{eqb-true, eq-eqb}
use lib.Dec.{eqb}
use lib.ListN.{length, take}
use lib.Ieee.{Float}
use Rattle.std.specs.Prelude.{Option as Outcome, Some, None}
use Rattle.lists.specs.Inner.Found.{option_found, option_sought}
use Rattle.lists.proofs.Found.{sought_found}
use Rattle.lists.specs.Lists.{bit, count, any}
use Rattle.patch.specs.Lay.{Edge, edge, same, State, popped, met, pivoted, with_face, marked, look, next}
use Rattle.patch.specs.Fair.{Free, Fair}
use Rattle.patch.specs.Frontier.{no_edge, waiting_after, pop_of}
use Rattle.lists.proofs.Counts.{bit_true, count_all}
use Rattle.patch.specs.Inner.Invariant.{Inv}
use Rattle.patch.proofs.Looks.{Looked, distinct}
use Rattle.patch.proofs.Laying.{Room as Fits, look_looked}
use Rattle.patch.proofs.Look.{look_skip, look_pivot, free_v1, free_v2, face_room, popped_below, popped_room, popped_alone}
use Rattle.patch.proofs.Pops.{pop_of_keeps}
use Rattle.patch.proofs.Searching.{searching_fair}
use Rattle.spatial_hash.specs.declared.Hash.{Hash}
use Rattle.spatial_hash.specs.Inner.Near.{Removed}
use Rattle.decisions.specs.declared.Scene.{Scene}
use Rattle.decisions.specs.Decisions.{floats_of}
use Rattle.decisions.proofs.Within.{within}
use Rattle.nearby.specs.Inner.Ready.{SceneKept, used_in_scene}
use Rattle.laying_steps.specs.declared.Counts.{Counts}
use Rattle.laying_words.specs.Inner.Words.{OnlyIn}
use Rattle.laying_steps.specs.Inner.Work.{HoldsState, Takes, NoEntryWaits, Open, Misses, FrontierReady, FaceRoom}
use Rattle.laying_steps.proofs.Work.{ready}
use Rattle.laying.specs.Inner.Laying.{LayingSearchable, Without, rules_of, pivot_over, look_under, LaysState, EntryOpened, Pivoting}
use Rattle.laying.proofs.Kept.{Beside, beside_both, beside_search, beside_without, holds_beside, sized, searchable_searched, searchable_laid}

-- seeds and pivots are free points
pub fair : (s : Scene) (pts : List Float) → Fair s.n (rules_of s pts)
fair s pts = searching_fair s.n (floats_of s pts) (within s pts)

-- the point that was met is used
met_used : (e : Edge) (k : ℕ) (t : State) → (pivoted e (met e (some k) t)).used ≡ marked t.used (k ∷ [])
unfolding pivoted met with_face
met_used e k t = refl

-- ---- an entry is popped

-- once x is out, the rest waits
pub out : (rule : ℕ) (x : Edge) (xs : List Edge) (t : State) → t.frontier ≡ x ∷ xs → (p : Edge → Bool) → count p t.frontier ≡ bit (p x)
    + count p (waiting_after no_edge rule x xs)
out rule x xs t wait p = ap (count p) wait ∙ pop_of_keeps rule x xs p

pub entry_below : {n : ℕ} (x : Edge) (xs : List Edge) (t : State) → t.frontier ≡ x ∷ xs → Inv n t → (x.v1 < n) × (x.v2 < n)
entry_below {n} x xs t wait inv = popped_below n t inv x xs (λ p. ap (count p) wait)

-- the definition's look
module _ (rule : ℕ) (s : Scene) (pts : List Float) (r : Float) (x : Edge) (xs : List Edge) (t : State) (wait : t.frontier ≡ x ∷ xs) where
  looked_is : look_under rule s pts r t ≡ look (rules_of s pts) (pop_of rule) r x (waiting_after no_edge rule x xs) t
  unfolding next
  looked_is = ap (λ (l : List Edge). next (rules_of s pts) (pop_of rule) r l t) wait

  pub looked_skip : any (same x) t.processed ≡ true → look_under rule s pts r t ≡ popped (waiting_after no_edge rule x xs) t
  looked_skip g = looked_is ∙ look_skip (rules_of s pts) (pop_of rule) r x (waiting_after no_edge rule x xs) t g

  pub looked_open : any (same x) t.processed ≡ false → look_under rule s pts r t ≡ pivot_over s pts r x (popped (waiting_after no_edge rule x xs) t)
  unfolding popped
  looked_open g = looked_is ∙ look_pivot (rules_of s pts) (pop_of rule) r x (waiting_after no_edge rule x xs) t ((rules_of s pts).pivot_of r t.used x) g refl

  pub looked_looked : Inv s.n t → Looked s.n t (look_under rule s pts r t)
  looked_looked inv = subst (λ (z : State). Looked s.n t z) (sym looked_is)
      (look_looked s.n (rules_of s pts) (pop_of rule) (fair s pts) (pop_of_keeps rule) r t inv x xs wait)

-- ---- within a look
module _ {n : ℕ} {e : Edge} {t : State} (o : EntryOpened n e t) where
  abbrev rest : List Edge
  rest = o.rest

  left_out : (p : Edge → Bool) → count p o.before.frontier ≡ bit (p e) + count p rest
  left_out = o.out

  used_same : o.before.used ≡ t.used
  unfolding popped
  used_same = ap (λ (z : State). z.used) (sym o.left)

  opened_fits : Fits n t
  opened_fits = subst (λ (z : State). Fits n z) (sym o.left) (popped_room n o.before o.inv e rest left_out)

  opened_alone : NoEntryWaits e t
  unfolding popped
  opened_alone = subst (λ (z : State). NoEntryWaits e z) (sym o.left)
      (record { unprocessed = o.fresh; none_waits = popped_alone n o.before o.inv e rest left_out o.fresh })

  module _ (k : ℕ) (free : Free n t.used k) where
    free_before : Free n o.before.used k
    free_before = subst (λ (used : List ℕ). Free n used k) (sym used_same) free

    opened_open : Open e k t
    unfolding popped
    opened_open =
        let d = distinct n o.before o.inv e rest left_out o.fresh k free_before in
        let z : (g : Edge) → any (same g) t.processed
        ≡ any (same g) o.before.processed = λ g. ap (λ (y : State). any (same g) y.processed) o.left in
        record {
          alone = opened_alone;
          not_first = d.ca;
          not_second = λ q. d.bc (sym q);
          second = z (edge e.v2 k) ∙ free_v2 n o.before o.inv (edge e.v2 k) free_before;
          third = z (edge k e.v1) ∙ free_v1 n o.before o.inv (edge k e.v1) free_before;
        }

    opened_room : t.looks + length t.frontier + 3 ≤ 3 * n
    unfolding popped
    opened_room =
        let l : length t.frontier ≡ length rest = ap (λ (z : State). length z.frontier) o.left in
        let m : t.looks ≡ suc o.before.looks = ap (λ (z : State). z.looks) o.left in
        omega (arith, left_out (λ g. true), count_all o.before.frontier, count_all rest, (face_room n o.before o.inv k free_before).1)

-- ---- the pivot

-- a removed point
pub without_one : {hash : Hash} {pts : List Float} {n k : ℕ} {w u : List ℕ} → Removed hash pts n w u k → Without hash pts n (k ∷ []) w u
without_one {k = k} x = record {
  linked = x.linked;
  others = λ j h none. x.others j h (λ (e : j ≡ k). let one : bit (eqb j k) ≡ 1 = ap bit (eq-eqb j k e) in omega arith);
  before = x.before;
}

-- one after another
pub without_three : {hash : Hash} {pts : List Float} {n i j k : ℕ} {w u v x : List ℕ} → Removed hash pts n w u i → Removed hash pts n u v j
    → Removed hash pts n v x k → Without hash pts n (i ∷ j ∷ k ∷ []) w x
without_three a b c = record {
  linked = c.linked;
  others = λ p h none. (without_one c).others p h (omega arith) ∙ (without_one b).others p h (omega arith) ∙ (without_one a).others p h (omega arith);
  before = c.before ∙ b.before ∙ a.before;
}

module _ {s : Scene} {hash : Hash} {pts : List Float} (r : Float) {c : Counts} {w slice : List ℕ} {a b : ℕ} (p : Pivoting s hash pts c w slice (edge a b)) where
  pub edge_below : (a < s.n) × (b < s.n)
  edge_below = popped_below s.n p.opened.before p.opened.inv (edge a b) p.opened.rest p.opened.out

  pivot_ready : FrontierReady s.n c w
  pivot_ready = ready s.n p.lent p.state c w slice (sized p.searchable) p.holds (opened_fits p.opened)

  pub few_pivots : c.pivots ≤ 8192
  few_pivots = omega (arith, pivot_ready.pivots, pivot_ready.sized.few)

  module _ {found : Outcome ℕ} {u : List ℕ} (is : found ≡ option_found ((rules_of s pts).pivot_of r (used_in_scene s w) (edge a b))) (kept : SceneKept s w u)
      (long : length u ≡ length w) where
    point_met : (lent : List ℕ) (t : State) (o : Option ℕ) → HoldsState s.n lent t c w slice → found ≡ option_found o
        → (rules_of s pts).pivot_of r t.used (edge a b) ≡ o
    point_met lent t o h f =
        ap (λ (used : List ℕ). (rules_of s pts).pivot_of r used (edge a b)) (sym h.used)
        ∙ sym (sought_found ((rules_of s pts).pivot_of r (used_in_scene s w) (edge a b))) ∙ ap option_sought (sym is ∙ f) ∙ sought_found o

    free_met : {k : ℕ} (lent : List ℕ) (t : State) → HoldsState s.n lent t c w slice → found ≡ Some k → Free s.n t.used k
    free_met {k} lent t h f = (fair s pts).pivots r t.used (edge a b) k (point_met lent t (some k) h f)

    pub free_point : {k : ℕ} → found ≡ Some k → Free s.n p.state.used k
    free_point f = free_met p.lent p.state p.holds f

    pub searched : LayingSearchable s hash pts u
    searched = searchable_searched u p.searchable kept long

    pub pivot_missed : {next : Counts} → found ≡ None → Misses c next
        → LaysState s hash pts (EntryOpened s.n (edge a b)) (pivot_over s pts r (edge a b)) c w slice next u slice
    unfolding met
    pivot_missed {next} f misses = record {
      takes = λ lent t o h. subst (λ (z : Option ℕ). HoldsState s.n lent (pivoted (edge a b) (met (edge a b) z t)) next u slice)
          (sym (point_met lent t none h f))
          (misses s.n u slice lent (edge a b) t (opened_alone o) (holds_beside (beside_search u kept long) pivot_ready.frontier h));
      searchable = searched;
      length_same = long;
    }

    -- the point that was met is out
    module _ {k : ℕ} {v : List ℕ} (f : found ≡ Some k) (removed : Removed hash pts s.n u v k) (same : length v ≡ length u) where
      aside : Beside s.n w v
      aside = beside_both (beside_search u kept long) (beside_without v (without_one removed) same)

      pub pivot_room : FaceRoom s.n c v a b k
      pivot_room = record {
        ready = ready s.n p.lent p.state c v slice
            (record { some = p.searchable.some; few = p.searchable.held.few; long = omega (arith, p.searchable.held.work_long) })
            (holds_beside aside pivot_ready.frontier p.holds) (opened_fits p.opened);
        entries = omega (arith, p.holds.frontier_count, p.holds.first_most, p.holds.looks, opened_room p.opened k (free_point f));
        first = edge_below.0;
        second = edge_below.1;
        third = (free_point f).below;
      }

      pub pivot_laid : {next : Counts} {x back : List ℕ}
          → Takes s.n (Open (edge a b) k) (λ t. pivoted (edge a b) (met (edge a b) (some k) t)) c v slice next x back → OnlyIn (5 * s.n) (9 * s.n) v x
          → LaysState s hash pts (EntryOpened s.n (edge a b)) (pivot_over s pts r (edge a b)) c w slice next x back
      pivot_laid {next} {x} {back} takes only = record {
        takes = λ lent t o h. subst (λ (z : Option ℕ). HoldsState s.n lent (pivoted (edge a b) (met (edge a b) z t)) next x back)
            (sym (point_met lent t (some k) h f)) (laid lent t o h);
        searchable = searchable_laid x searched (without_one removed) same only
            (used_one ∙ ap (λ (used : List ℕ). marked used (k ∷ [])) (sym p.holds.used ∙ sym used_kept)) (λ j q. one_below j q);
        length_same = only.length_same ∙ same ∙ long;
      }
        where
          laid : (lent : List ℕ) (t : State) → EntryOpened s.n (edge a b) t → HoldsState s.n lent t c w slice
              → HoldsState s.n lent (pivoted (edge a b) (met (edge a b) (some k) t)) next x back
          laid lent t o h = takes lent t (opened_open o k (free_met lent t h f)) (holds_beside aside pivot_ready.frontier h)

          used_one : used_in_scene s x ≡ marked p.state.used (k ∷ [])
          used_one = (laid p.lent p.state p.opened p.holds).used ∙ met_used (edge a b) k p.state

          used_kept : used_in_scene s u ≡ used_in_scene s w
          used_kept = ap (take s.n) kept.after

          one_below : (j : ℕ) → 1 ≤ count (eqb j) (k ∷ []) → j < s.n
          one_below j q = let e = eqb-true j k (bit_true (omega arith)) in omega (arith, (free_point f).below)
