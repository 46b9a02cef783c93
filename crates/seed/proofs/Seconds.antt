-- The second points of a first one are those that pass a filter, and may be searched in two parts. Assumes nothing.
use Prim.Native.Nat.{ℕ, ◌*◌, ◌≤◌, ◌<◌}
use mathlib.Core.Path.{◌≡◌, refl, sym, ap, ◌∙◌}
use mathlib.Core.Logic.{◌⊎◌, ⊎_elim}
use mathlib.Core.Bool.{Bool, true, false, ◌&&◌}
use mathlib.Core.List.{List, [], ◌∷◌, ◌++◌}
use mathlib.Core.Option.{Option, none, some}
use native.Mathlib.Nat.{min-le_left}
use native.Mathlib.Omega.{arith}
use lib.ListN.{length, take, drop, length-take, take-append-drop}
use lib.Seq.{take-take, take_all}
use lib.Dec.{ltb}
use lib.Ieee.{Float, lt}
use borrow.Author.Tests.{ltb-true, ltb-false}
use Rattle.std.specs.Prelude.{Option as Outcome, Some, None}
use Rattle.lists.specs.Inner.Found.{option_found}
use Rattle.lists.proofs.Found.{found_none}
use Rattle.vector.specs.declared.Point3f.{Point3f}
use Rattle.points.specs.Points.{point_at}
use Rattle.lists.specs.Lists.{unused}
use Rattle.lists.specs.Members.{only}
use Rattle.lists.proofs.Bools.{either, and_both}
use Rattle.lists.proofs.Members.{only_both}
use Rattle.grid.specs.declared.Cell.{Cell}
use Rattle.grid.specs.Grid.{range_of, neighbors}
use Rattle.grid.specs.Inner.Looking.{order_of}
use Rattle.grid.specs.Inner.Index.{earlier}
use Rattle.grid.proofs.Near.{neighbors_below}
use Rattle.patch.specs.Search.{Floats, second_of}
use Rattle.decisions.specs.declared.Scene.{Scene}
use Rattle.decisions.specs.Decisions.{reach, apart, around, floats_of}
use Rattle.nearby.specs.declared.Filter.{Filter}
use Rattle.nearby.specs.Inner.Ready.{used_in_scene, neighbors_listed}
use Rattle.nearby.specs.Inner.Narrow.{in_reach, in_cells, cell_at, passes_filter, insert_passing, Nearby, Filters, Collected, Narrowed}
use Rattle.nearby.proofs.Ordered.{insert_all_is}
use Rattle.nearby.proofs.Earlier.{earlier_strict, order_of_sorted, order_of_count, neighbors_only}
use Rattle.nearby.proofs.Narrowing.{in_reach_lem, in_unused, out_of_reach}
use Rattle.seedless.specs.Inner.Parts.{with_second, with_first}
use Rattle.seedless.proofs.Laws.{or_else, second_step, second_end}
use Rattle.seed.specs.Inner.Seconds.{passing, with_seconds, SecondsTried}
use Rattle.seed.proofs.Laws.{else_hit}
use Rattle.seed.proofs.LeftOut.{second_only, second_thirds, second_out, third_out}

-- ---- one list of second points after another

else_else : {A : Type 0} (x y z : Option A) → or_else (or_else x y) z ≡ or_else x (or_else y z)
else_else none y z = refl
else_else (some u) y z = refl

module _ {R : Type 0} (floats : Floats R) (r : R) (used : List ℕ) (i : ℕ) (ks : List ℕ) where
  second_append : (xs ys : List ℕ) → second_of floats r used i ks (xs ++ ys) ≡ or_else (second_of floats r used i ks xs) (second_of floats r used i ks ys)
  second_append [] ys = sym (ap (λ (o : Option (ℕ × ℕ × ℕ)). or_else o (second_of floats r used i ks ys)) (second_end floats r used i ks))
  second_append (x ∷ xs) ys =
      second_step floats r used i ks x (xs ++ ys)
      ∙ ap (or_else (with_second floats r used i ks x)) (second_append xs ys)
      ∙ sym (else_else (with_second floats r used i ks x) (second_of floats r used i ks xs) (second_of floats r used i ks ys))
      ∙ sym (ap (λ (o : Option (ℕ × ℕ × ℕ)). or_else o (second_of floats r used i ks ys)) (second_step floats r used i ks x xs))

  pub second_parts : (m : ℕ) (js : List ℕ) → second_of floats r used i ks js
      ≡ or_else (second_of floats r used i ks (take m js)) (second_of floats r used i ks (drop m js))
  second_parts m js = ap (second_of floats r used i ks) (sym (take-append-drop m js)) ∙ second_append (take m js) (drop m js)

-- ---- what passes the filter of a first point are its neighbours but for some that it can't choose

module _ (s : Scene) (pts : List Float) (used : List ℕ) (f : Filter) where
  passing_nearby : {p q : Point3f} {radius : Float} (a : ℕ) → p ≡ point_at pts a → Filters s p q radius f
      → Nearby pts used a radius (neighbors s.indexed s.grid pts s.n q radius) (passing s pts used f)
  unfolding passes_filter
  passing_nearby {q = q} {radius = radius} a ep i =
      let xs : List ℕ = order_of s.indexed s.grid pts s.n in record {
        limit = f.limit;
        limits = i.limits;
        same = sym (only_both (in_reach pts used f.center f.limit) (in_cells s.indexed s.grid pts f.range f.cell) xs)
            ∙ ap (λ (z : Point3f). only (in_reach pts used z f.limit) (only (in_cells s.indexed s.grid pts f.range f.cell) xs)) (i.center_is ∙ ep)
            ∙ ap (λ (z : ℕ). only (in_reach pts used (point_at pts a) f.limit) (only (in_cells s.indexed s.grid pts z f.cell) xs)) i.range_is
            ∙ ap (λ (z : Cell). only (in_reach pts used (point_at pts a) f.limit) (only (in_cells s.indexed s.grid pts (range_of s.grid radius) z) xs))
            i.cell_is
            ∙ ap (only (in_reach pts used (point_at pts a) f.limit)) (sym (neighbors_only s.indexed s.grid pts s.n q radius));
      }

-- whoever was left out is used or too far away
left_out : {pts : List Float} {used ks js : List ℕ} {a : ℕ} {r : Float} (x : Nearby pts used a r ks js) (k : ℕ) → in_reach pts used (point_at pts a) x.limit k
    ≡ false
    → (unused used k ≡ false) ⊎ (lt r (apart pts k a) ≡ true)
left_out {pts} {used} {a = a} {r = r} x k h = out_of_reach pts used r a k x.limit x.limits h

-- such a part of the neighbours gives what all of them give
nearby_first : (s : Scene) (pts : List Float) (r : Float) (used : List ℕ) (i : ℕ) (ks : List ℕ)
    → Nearby pts used i (reach r) (neighbors s.indexed s.grid pts s.n (point_at pts i) (reach r)) ks
    → second_of (floats_of s pts) r used i ks ks ≡ with_first (floats_of s pts) r used i
unfolding with_first floats_of around
nearby_first s pts r used i ks x =
    let all : List ℕ = neighbors s.indexed s.grid pts s.n (point_at pts i) (reach r) in
    let test : ℕ → Bool = in_reach pts used (point_at pts i) x.limit in
    let below = neighbors_below s.indexed s.grid pts s.n (point_at pts i) (reach r) in
    ap (λ (l : List ℕ). second_of (floats_of s pts) r used i l l) x.same
    ∙ second_only (floats_of s pts) r used test s.n i (λ j h t. second_out s pts r used i j (left_out x j t)) (only test all) all below
    ∙ second_thirds (floats_of s pts) r used test s.n i (λ j k h t. third_out s pts r used i k j (left_out x k t)) all below all

module _ (s : Scene) (pts : List Float) (r : Float) (used : List ℕ) (f : Filter) (i : ℕ) (fs : Filters s (point_at pts i) (point_at pts i) (reach r) f) where
  abbrev ks : List ℕ
  ks = passing s pts used f

  abbrev among : List ℕ → Option (ℕ × ℕ × ℕ)
  among js = second_of (floats_of s pts) r used i ks js

  passing_first : among ks ≡ with_first (floats_of s pts) r used i
  passing_first = nearby_first s pts r used i ks (passing_nearby s pts used f i refl fs)

  -- all second points
  pub seconds_all : {found : Outcome (ℕ × ℕ × ℕ)} → SecondsTried s pts r used f i 0 s.n found → found ≡ option_found (with_first (floats_of s pts) r used i)
  seconds_all t = t.same ∙ ap option_found (ap among (take_all s.n ks t.few) ∙ passing_first)

  -- some at the beginning that give a seed
  pub seconds_hit : {found : Outcome (ℕ × ℕ × ℕ)} {to : ℕ} {x : ℕ × ℕ × ℕ} → SecondsTried s pts r used f i 0 to found → found ≡ Some x → Some x
      ≡ option_found (with_first (floats_of s pts) r used i)
  seconds_hit {to = to} {x = x} t e =
      sym (ap option_found (sym passing_first ∙ second_parts (floats_of s pts) r used i ks to ks) ∙ else_hit (among (take to ks)) (among (drop to ks)) x
      (sym t.same ∙ e))

  -- the others, where those give none
  pub seconds_rest : {found : Outcome (ℕ × ℕ × ℕ)} {from : ℕ} → SecondsTried s pts r used f i from s.n found
      → with_seconds s pts r used f i 0 from ≡ none → found ≡ option_found (with_first (floats_of s pts) r used i)
  seconds_rest {from = from} t e =
      t.same
      ∙ ap (λ (l : List ℕ). option_found (among (drop from l))) (take_all s.n ks t.few)
      ∙ ap option_found (sym (ap (λ (o : Option (ℕ × ℕ × ℕ)). or_else o (among (drop from ks))) e) ∙ sym
      (second_parts (floats_of s pts) r used i ks from ks) ∙ passing_first)

pub seconds_none : {s : Scene} {pts : List Float} {r : Float} {used : List ℕ} {f : Filter} {i from to : ℕ} {found : Outcome (ℕ × ℕ × ℕ)}
    → SecondsTried s pts r used f i from to found → found ≡ None → with_seconds s pts r used f i from to ≡ none
seconds_none {s} {pts} {r} {used} {f} {i} {from} {to} t e = found_none (with_seconds s pts r used f i from to) (sym t.same ∙ e)

-- ---- what `try_seconds` finds

-- the narrowed points are those that pass
module _ {s : Scene} {pts : List Float} {f : Filter} {w u v : List ℕ} {found count : ℕ} (c : Collected s pts f f.center w u found)
    (n : Narrowed s pts f u v found count) where
  narrowed_passing : neighbors_listed s v count ≡ passing s pts (used_in_scene s w) f
  unfolding passes_filter
  narrowed_passing =
      let p : Point3f = f.center in
      n.same
      ∙ ap (λ (l : List ℕ). insert_passing (earlier s.indexed (cell_at s.grid pts)) (passes_filter s pts (take s.n l) f) [] (neighbors_listed s u found))
      c.kept.after
      ∙ insert_all_is (earlier_strict s.indexed (cell_at s.grid pts))
      (λ (k : ℕ). in_reach pts (used_in_scene s w) p f.limit k && in_cells s.indexed s.grid pts f.range f.cell k) s.n
      (order_of s.indexed s.grid pts s.n) (neighbors_listed s u found)
      (order_of_sorted s.indexed s.grid pts s.n) (order_of_count s.indexed s.grid pts s.n) c.once c.below
      (λ k h t. let i = (and_both {p = in_reach pts (used_in_scene s w) p f.limit k} t).0 in let near = in_reach_lem pts (used_in_scene s w) p
      f.limit k i in c.complete k h (in_unused pts (used_in_scene s w) p f.limit k i) near near)

  not_more : length (neighbors_listed s v count) ≤ count
  not_more = let e = length-take count (drop (4 * s.n) v) in let l = min-le_left count (length (drop (4 * s.n) v)) in omega arith

  -- before the lesser of two places, or before the one
  before_lesser : (to end : ℕ) → end ≤ to → end ≤ count → (end < count → end ≡ to) → neighbors_listed s v end ≡ take to (neighbors_listed s v count)
  before_lesser to end ht hc he =
      sym (take-take end count (drop (4 * s.n) v) hc)
      ∙ ⊎_elim
      (λ (t : ltb end count ≡ true). ap (λ (m : ℕ). take m (neighbors_listed s v count)) (he (ltb-true end count t)))
      (λ (t : ltb end count ≡ false). let h = ltb-false end count t in take_all end (neighbors_listed s v count) (omega (arith, not_more)) ∙ sym
      (take_all to (neighbors_listed s v count) (omega (arith, not_more))))
      (either (ltb end count))

  pub seconds_tried : {r : Float} {i from to end : ℕ} {x : Outcome (ℕ × ℕ × ℕ)} → end ≤ to → end ≤ count → (end < count → end ≡ to) → x
      ≡ option_found (second_of (floats_of s pts) r (used_in_scene s v) i (neighbors_listed s v count) (drop from (neighbors_listed s v end)))
      → SecondsTried s pts r (used_in_scene s w) f i from to x
  seconds_tried {r} {i} {from} {to} {end} ht hc he e = record {
    same = e
        ∙ ap (λ (l : List ℕ). option_found (second_of (floats_of s pts) r (used_in_scene s v) i (neighbors_listed s v count) (drop from l)))
        (before_lesser to end ht hc he)
        ∙ ap (λ (l : List ℕ). option_found
        (second_of (floats_of s pts) r (take s.n l) i (neighbors_listed s v count) (drop from (take to (neighbors_listed s v count)))))
        (n.kept.after ∙ c.kept.after)
        ∙ ap (λ (l : List ℕ). option_found (second_of (floats_of s pts) r (used_in_scene s w) i l (drop from (take to l)))) narrowed_passing;
    few = let z = ap length narrowed_passing in omega (arith, not_more, n.most, c.most);
  }
