-- The last radius decides whether some triple was judged; where a face is found, on either path, one was; and where
-- none is laid no point is used. Assumes nothing.
use Prim.Native.Nat.{ℕ, zero, suc, ◌-◌, ◌≤◌, ◌<◌}
use mathlib.Core.Path.{◌≡◌, refl, sym, ap, ◌∙◌, subst}
use mathlib.Core.Bool.{Bool, true}
use mathlib.Core.List.{List, [], ◌∷◌}
use native.Mathlib.Omega.{arith}
use lib.Dec.{T, eqb}
use lib.ListN.{length, get_or}
use lib.Seq.{get_or-take}
use lib.Ieee.{Float, nan, le}
use borrow.Author.Tests.{eq-eqb}
use Rattle.vector.specs.Inner.Numbers.{Finite}
use Rattle.points.specs.Points.{point_at}
use Rattle.settings.specs.declared.BallPivotingConfig.{BallPivotingConfig}
use Rattle.settings.specs.Inner.Settled.{Settled}
use Rattle.sorting.specs.Each.{All}
use Rattle.sorting.specs.Inner.Rising.{Rising}
use Rattle.lists.specs.Lists.{count, any, unused}
use Rattle.patch.specs.Lay.{Face, State, blank, patch}
use Rattle.patch.specs.Frontier.{pop_of}
use Rattle.patch.specs.Shape.{touches}
use Rattle.patch.specs.Inner.Invariant.{Rest}
use Rattle.patch.proofs.Laying.{lay_all_rest, blank_rest}
use Rattle.patch.proofs.Pops.{pop_of_keeps}
use Rattle.patch.proofs.Searching.{searching_fair}
use Rattle.laying_steps.specs.declared.Counts.{Counts}
use Rattle.laying_steps.specs.Inner.Work.{HoldsState}
use Rattle.spatial_hash.specs.declared.Hash.{Hash}
use Rattle.decisions.specs.declared.Scene.{Scene}
use Rattle.decisions.specs.Decisions.{floats_of}
use Rattle.decisions.proofs.Within.{within}
use Rattle.radii.specs.Inner.Steps as radii
use Rattle.radii.specs.declared.Radii.{Radii}
use Rattle.laying.specs.Inner.Laying.{LayingSearchable, rules_of}
use Rattle.plain.specs.Reached.{plain_reached}
use Rattle.plain.proofs.Reached.{plain_reached_lem}
use Rattle.reaching.specs.Reaching.{reaches}
use Rattle.reaching.specs.Triple.{Grows, Each, Pairwise, last_from}
use Rattle.reaching.proofs.Deciding.{last_decides, last_at_lem, faces_reached}
use Rattle.reaching.proofs.Growing.{floats_grow}
use Rattle.reaching.proofs.Rising.{radii_rising}
use Rattle.reaching.proofs.Positive.{cell_positive}
use Rattle.judged.specs.Inner.Triples.{Fresh}
use Rattle.ball_pivoting.specs.Reconstruct.{point_count, spatial_index_of, scene_of, radii_of, laid_of, laid, plainly, found_at, found, reached_at, judged_at}
use Rattle.ball_pivoting.specs.Reconstruct.{reason_by, reason}

-- ---- where no face is laid no point is used
no_faces_count : (p : Face → Bool) (fs : List Face) → length fs ≡ 0 → count p fs ≡ 0
no_faces_count p [] h = refl
no_faces_count p (f ∷ fs) h = absurd (omega arith)

not_some : (x : ℕ) → (1 ≤ x → ⊥) → x ≡ 0
not_some zero h = refl
not_some (suc x) h = absurd (h (omega arith))

no_faces_unused : (n : ℕ) (t : State) → Rest n t → length t.faces ≡ 0 → (k : ℕ) → unused t.used k ≡ true
no_faces_unused n t rest e k =
    let points = rest.inv.points in
    let touched = no_faces_count (touches k) t.faces e in
    let none : count (eqb k) points ≡ 0 = not_some (count (eqb k) points) (λ h. omega (arith, (rest.inv.pointwise k).used_touched h)) in
    eq-eqb (get_or t.used k 0) 0 (rest.inv.flags k ∙ none)

pub fresh_after : {s : Scene} {hash : Hash} {pts : List Float} {lent : List ℕ} {c : Counts} {w slice : List ℕ} (rule : ℕ) (rs : List Float)
    → HoldsState s.n lent (patch (rules_of s pts) (pop_of rule) s.n rs) c w slice
    → LayingSearchable s hash pts w → c.faces ≡ 0 → Fresh s hash pts w
unfolding patch
fresh_after {s} {pts = pts} rule rs h g z =
    let n = s.n in
    let rest = lay_all_rest n (rules_of s pts) (pop_of rule) (searching_fair n (floats_of s pts) (within s pts)) (pop_of_keeps rule) rs (blank n) (blank_rest n) in
    record {
      held = g.held;
      cells = g.indexed.cells;
      hashed = g.hashed;
      none_used = λ k. subst (λ (l : List ℕ). unused l k ≡ true) (sym h.used) (no_faces_unused n _ rest (sym h.faces_count ∙ z) k);
    }

-- ---- the last radius decides
module _ (c : BallPivotingConfig) (pts : List Float) (settled : Settled c) where
  grow : (r t : Float) → T (le r t) → Grows (floats_of (scene_of c pts) pts) r t
  unfolding scene_of spatial_index_of
  grow r t h = floats_grow (scene_of c pts) pts (cell_positive c settled) r t h

  each_grows : (r : Float) (rs : List Float) → All (λ (y : Float). T (le r y)) rs → Each (Grows (floats_of (scene_of c pts) pts) r) rs
  each_grows r [] a = tt
  each_grows r (s ∷ rs) a = (grow r s a.0, each_grows r rs a.1)

  in_order_lem : (rs : List Float) → Rising rs → Pairwise (Grows (floats_of (scene_of c pts) pts)) rs
  in_order_lem [] a = tt
  in_order_lem (r ∷ rs) a = (each_grows r rs a.0, in_order_lem rs a.1)

  rising_decides : (r : Float) (rs : List Float) → Rising (r ∷ rs) → any (reached_at c pts) (r ∷ rs) ≡ reached_at c pts (last_from r rs)
  unfolding reached_at
  rising_decides r rs o = last_decides (floats_of (scene_of c pts) pts) (point_count pts) r rs (in_order_lem (r ∷ rs) o)

  -- of a cloud whose coordinates are numbers, with settings in range, on the multi-radius path
  module _ (some : 0 < point_count pts) (numbers : (i : ℕ) → i < point_count pts → Finite (point_at pts i)) where
    pub last_judged : (r : Float) (rs : List Float) → radii_of c pts ≡ r ∷ rs → judged_at c pts (radii_of c pts) ≡ reached_at c pts (last_from r rs)
    unfolding judged_at radii_of
    last_judged r rs e =
        let o : Rising (radii_of c pts) = radii_rising c (spatial_index_of c pts) pts (point_count pts) numbers some settled in
        ap (judged_at c pts) e ∙ rising_decides r rs (subst Rising e o)

    -- the reason that is asked at the last of the listed radii
    module _ (s : Scene) (g : Radii) (is : s ≡ scene_of c pts) (h : radii.RadiiListed (radii_of c pts) g) where
      abbrev largest : Float
      largest = get_or g.list (g.count - 1) nan

      largest_is : (r : Float) (rs : List Float) → radii_of c pts ≡ r ∷ rs → largest ≡ last_from r rs
      largest_is r rs q =
          let many : g.count ≡ length (r ∷ rs) = h.counted ∙ ap length q in
          let at : g.count - 1 ≡ length rs = omega arith in
          let inside : length rs < g.count = omega arith in
          ap (λ (k : ℕ). get_or g.list k nan) at
          ∙ sym (get_or-take g.count g.list (length rs) nan inside)
          ∙ ap (λ (xs : List Float). get_or xs (length rs) nan) (h.kept ∙ q)
          ∙ last_at_lem nan r rs

      reached_largest : (rs : List Float) → radii_of c pts ≡ rs → (rs ≡ [] → ⊥) → reached_at c pts largest ≡ judged_at c pts (radii_of c pts)
      reached_largest [] q there = absurd (there refl)
      reached_largest (r ∷ rs) q there = ap (reached_at c pts) (largest_is r rs q) ∙ sym (last_judged r rs q)

      pub reason_laid : (g.count ≡ 0 → ⊥) → reason_by s.n (reaches (floats_of s pts) s.n largest) ≡ reason c pts
      unfolding reason reached_at scene_of
      reason_laid some_radii =
          ap (λ (t : Scene). reason_by t.n (reaches (floats_of t pts) t.n largest)) is
          ∙ ap (reason_by (point_count pts)) (reached_largest (radii_of c pts) refl (λ q. some_radii (h.counted ∙ ap length q)))

pub reason_plain : (c : BallPivotingConfig) (pts : List Float) → radii_of c pts ≡ [] → reason_by (point_count pts) (plain_reached pts c.radius) ≡ reason c pts
unfolding reason judged_at
reason_plain c pts e = sym (ap (λ (rs : List Float). reason_by (point_count pts) (judged_at c pts rs)) e)

-- ---- what is found was judged
module _ (c : BallPivotingConfig) (pts : List Float) where
  laid_judged : 1 ≤ length (laid_of c pts).faces → any (reached_at c pts) (radii_of c pts) ≡ true
  unfolding laid_of reached_at
  laid_judged h = faces_reached (floats_of (scene_of c pts) pts) (point_count pts) (pop_of c.frontier_rule) (radii_of c pts) h

  judged_at_lem : (rs : List Float) → radii_of c pts ≡ rs → 1 ≤ length (found_at c pts rs).faces → judged_at c pts rs ≡ true
  unfolding found_at judged_at laid plainly
  judged_at_lem [] e h = plain_reached_lem pts c.radius h
  judged_at_lem (r ∷ rs) e h = subst (λ (l : List Float). any (reached_at c pts) l ≡ true) e (laid_judged h)

  -- if a face is found, on either path, some triple was judged
  pub found_judged : 1 ≤ length (found c pts).faces → judged_at c pts (radii_of c pts) ≡ true
  unfolding found
  found_judged h = judged_at_lem (radii_of c pts) refl h
