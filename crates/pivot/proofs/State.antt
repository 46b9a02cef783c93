-- What the search for a pivot's point finds in the lent slices is the definition's. Assumes nothing.
use Prim.Native.Nat.{ℕ, ◌<◌}
use mathlib.Core.Path.{◌≡◌, refl, sym, ap, ◌∙◌}
use mathlib.Core.Logic.{⊎_elim}
use mathlib.Core.Bool.{Bool, true, false, cond, not, ◌&&◌, ◌||◌}
use mathlib.Core.List.{List}
use mathlib.Core.Option.{Option, none, some}
use native.Mathlib.Omega.{arith}
use lib.Dec.{ltb}
use lib.ListN.{take}
use lib.Ieee.{Float, lt}
use borrow.Author.Tests.{ltb-true, lt-ltb}
use Rattle.std.specs.Prelude.{Option as Outcome, Some, None}
use Rattle.lists.specs.Inner.Found.{option_sought}
use Rattle.numbers.specs.Rounded.{f32}
use Rattle.vector.specs.declared.Point3f.{Point3f}
use Rattle.points.specs.Points.{point_at}
use Rattle.grid.specs.declared.Cell.{Cell}
use Rattle.grid.specs.Grid.{in_range, range_of, neighbors}
use Rattle.grid.specs.Inner.Looking.{order_of}
use Rattle.grid.specs.Inner.Index.{cell_in, Cells, earlier}
use Rattle.bounds.specs.Inner.Within.{Limit}
use Rattle.lists.specs.Lists.{bit}
use Rattle.patch.specs.Lay.{edge}
use Rattle.patch.specs.Search.{score_of, best_of}
use Rattle.lists.proofs.Bools.{either}
use Rattle.decisions.specs.declared.Scene.{Scene}
use Rattle.decisions.specs.Decisions.{apart, middle, around, score_at, floats_of}
use Rattle.nearby.specs.declared.Filter.{Filter}
use Rattle.nearby.specs.Inner.Ready.{used_in_scene, neighbors_listed}
use Rattle.lists.specs.Members.{only, In}
use Rattle.nearby.specs.Inner.Narrow.{in_reach, in_cells, cell_at, Filters, Collected}
use Rattle.nearby.proofs.Ordered.{Strict}
use Rattle.nearby.proofs.Earlier.{earlier_strict, order_of_sorted, order_of_count, neighbors_only}
use Rattle.nearby.proofs.Narrowing.{earlier_kept, in_reach_lem, in_unused, out_of_reach}
use Rattle.pivot.specs.Inner.Found.{MetPoint}
use Rattle.pivot.specs.Inner.Best.{is_before_best, leader, score_in}
use Rattle.pivot.proofs.Leading.{any_order, in_order_lem}
use Rattle.pivot.proofs.LeftOut.{first_far, second_far, score_out}

-- the tests over the kept cells are those of the points' own
pub test_kept : (s : Scene) (pts : List Float) (w : List ℕ) (f : Filter) (k : ℕ) (x top : Float) (best : Outcome ℕ) → Cells s.grid pts s.n w → k < s.n
    → MetPoint s best
    → ((not s.indexed || in_range f.range f.cell (cell_in w s.n k))
    && (lt top x || is_before_best (earlier s.indexed (cell_in w s.n)) k (option_sought best)))
    ≡ (in_cells s.indexed s.grid pts f.range f.cell k && (lt top x || is_before_best (earlier s.indexed (cell_at s.grid pts)) k (option_sought best)))
unfolding in_cells
test_kept s pts w f k x top best c h m = rw (c k h, before_kept best m)
  where
    before_kept : (best : Outcome ℕ) → MetPoint s best → is_before_best (earlier s.indexed (cell_in w s.n)) k (option_sought best)
        ≡ is_before_best (earlier s.indexed (cell_at s.grid pts)) k (option_sought best)
    before_kept None m = refl
    before_kept (Some j) m = earlier_kept s.indexed s.grid pts s.n w c k j h (m j refl)

-- a point with a score is among the collected ones
scored_in : (s : Scene) (pts : List Float) (r : Float) (f : Filter) (w u : List ℕ) (found a b : ℕ) {q : Point3f} → Limit r f.limit → f.center
    ≡ point_at pts a → q ≡ point_at pts b → Collected s pts f q w u found
    → (k : ℕ) (x : Float) → score_in s pts r (used_in_scene s w) f (edge a b) k ≡ some x → k < s.n → In k (neighbors_listed s u found)
unfolding score_in
scored_in s pts r f w u found a b {q} l ea eb c k x e h =
    let near = reached a f.center ea (first_far s pts r (used_in_scene s w) a b k) in
    let too = reached b q eb (second_far s pts r (used_in_scene s w) a b k) in
    c.complete k h (in_unused pts (used_in_scene s w) f.center f.limit k near) (in_reach_lem pts (used_in_scene s w) f.center f.limit k near)
    (in_reach_lem pts (used_in_scene s w) q f.limit k too)
  where
    nothing : score_of (floats_of s pts) r (used_in_scene s w) (edge a b) k ≡ none → ⊥
    nothing o = go (in_cells s.indexed s.grid pts f.range f.cell k) (rw (o) at e)
      where
        go : (t : Bool) → cond {A = Option Float} t none none ≡ some x → ⊥
        go true h = let z : ◌≡◌ {A = ℕ} 0 1 = cc in omega arith
        go false h = let z : ◌≡◌ {A = ℕ} 0 1 = cc in omega arith

    -- it is in reach of each end of the edge
    reached : (i : ℕ) (p : Point3f) → p ≡ point_at pts i → (lt r (apart pts k i) ≡ true → score_at s pts r (edge a b) k ≡ none)
        → in_reach pts (used_in_scene s w) p f.limit k ≡ true
    reached i p ep far = ⊎_elim
        (λ (t : in_reach pts (used_in_scene s w) p f.limit k ≡ true). t)
        (λ (t : in_reach pts (used_in_scene s w) p f.limit k ≡ false). absurd
        (nothing (score_out s pts r (used_in_scene s w) a b k i far (out_of_reach pts (used_in_scene s w) r i k f.limit l (rw (← ep) t)))))
        (either (in_reach pts (used_in_scene s w) p f.limit k))

pub best_around : (s : Scene) (pts : List Float) (r : Float) (f : Filter) (w u : List ℕ) (found a b : ℕ) {p q m : Point3f} → p ≡ point_at pts a → q
    ≡ point_at pts b → m ≡ middle p q → Filters s p m r f → Collected s pts f q w u found
    → leader (earlier s.indexed (cell_at s.grid pts)) (score_in s pts r (used_in_scene s u) f (edge a b)) (neighbors_listed s u found) (f32 0) none
    ≡ best_of (floats_of s pts) r (used_in_scene s w) (edge a b) ((floats_of s pts).around r (edge a b)) (f32 0) none
best_around s pts r f w u found a b {p} {q} {m} ep eq em i c =
    ap (λ (l : List ℕ). leader less (score_in s pts r (take s.n l) f (edge a b)) (neighbors_listed s u found) (f32 0) none) c.kept.after
    ∙ any_order strict (score_in s pts r (used_in_scene s w) f (edge a b)) (neighbors_listed s u found) order
    (λ k x e h. let n = order_of_count s.indexed s.grid pts s.n k in let o : bit (ltb k s.n)
    ≡ 1 = ap bit (lt-ltb k s.n (c.below k h)) in omega arith)
    (λ k x e h. scored_in s pts r f w u found a b i.limits (i.center_is ∙ ep) eq c k x e (inside k h))
    ∙ ordered
    ∙ ap (λ (l : List ℕ). best_of (floats_of s pts) r (used_in_scene s w) (edge a b) l (f32 0) none) around_is
  where
    less : ℕ → ℕ → Bool
    less = earlier s.indexed (cell_at s.grid pts)

    strict : Strict less
    strict = earlier_strict s.indexed (cell_at s.grid pts)

    order : List ℕ
    order = order_of s.indexed s.grid pts s.n

    near : ℕ → Bool
    near = in_cells s.indexed s.grid pts f.range f.cell

    inside : (k : ℕ) → In k order → k < s.n
    inside k h = ⊎_elim
        (λ (t : ltb k s.n ≡ true). ltb-true k s.n t)
        (λ (t : ltb k s.n ≡ false). absurd
        (let n = order_of_count s.indexed s.grid pts s.n k in let z : bit (ltb k s.n) ≡ 0 = ap bit t in omega arith))
        (either (ltb k s.n))

    ordered : leader less (score_in s pts r (used_in_scene s w) f (edge a b)) order (f32 0) none
        ≡ best_of (floats_of s pts) r (used_in_scene s w) (edge a b) (only near order) (f32 0) none
    ordered = unfold score_in in in_order_lem strict (floats_of s pts) r (used_in_scene s w) (edge a b) near order (order_of_sorted s.indexed s.grid pts s.n)
        (f32 0) none (λ k h. refl)

    around_is : only near order ≡ (floats_of s pts).around r (edge a b)
    around_is = unfold floats_of around in
        ap (λ (z : ℕ). only (in_cells s.indexed s.grid pts z f.cell) order) i.range_is
        ∙ ap (λ (z : Cell). only (in_cells s.indexed s.grid pts (range_of s.grid r) z) order) i.cell_is
        ∙ sym (neighbors_only s.indexed s.grid pts s.n m r)
        ∙ ap (λ (t : Point3f). neighbors s.indexed s.grid pts s.n t r) (em ∙ ap (λ (t : Point3f). middle t q) ep ∙ ap (middle (point_at pts a)) eq)
