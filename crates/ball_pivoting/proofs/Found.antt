-- What the two paths find is what the definition finds. Assumes nothing.
use Prim.Native.Nat.{ℕ, ◌-◌, ◌≤◌, ◌<◌}
use mathlib.Core.Path.{◌≡◌, refl, sym, ap, ◌∙◌, subst}
use mathlib.Core.Bool.{true}
use mathlib.Core.List.{List, [], ◌∷◌}
use native.Mathlib.Omega.{arith}
use lib.ListN.{length, take, get_or}
use lib.Ieee.{Float, nan}
use Rattle.settings.specs.declared.BallPivotingConfig.{BallPivotingConfig}
use Rattle.settings.specs.Inner.Settled.{Settled}
use Rattle.grid.specs.Inner.Index.{CellsIndexed}
use Rattle.lists.specs.Lists.{any}
use Rattle.patch.specs.Lay.{State, patch, blank}
use Rattle.patch.specs.Frontier.{pop_of}
use Rattle.patch.specs.Search.{searching}
use Rattle.patch.specs.Shape.{touches}
use Rattle.patch.specs.Fair.{Shaped}
use Rattle.lists.proofs.Counts.{any_true}
use Rattle.patch.proofs.Inv.{touched_used}
use Rattle.patch.specs.Inner.Invariant.{Rest}
use Rattle.patch.proofs.Laying.{lay_all_rest, blank_rest}
use Rattle.patch.proofs.Pops.{pop_of_keeps}
use Rattle.patch.proofs.Searching.{searching_fair}
use Rattle.spatial_hash.specs.declared.Hash.{Hash}
use Rattle.spatial_hash.specs.Inner.Near.{Built}
use Rattle.decisions.specs.declared.Scene.{Scene}
use Rattle.decisions.specs.Decisions.{floats_of}
use Rattle.decisions.proofs.Within.{within}
use Rattle.radii.specs.Radii.{adaptive_radii}
use Rattle.radii.specs.Inner.Steps as radii
use Rattle.radii.specs.declared.Radii.{Radii}
use Rattle.origins.specs.Inner.Following.{marks_from}
use Rattle.laying.specs.Inner.Laying.{AllSearchable, rules_of}
use Rattle.laying.proofs.Claim.{laid_shape, laid_few}
use Rattle.cell_sizes.proofs.Anew.{indexed_built}
use Rattle.plain.specs.Reached.{plain_reached}
use Rattle.plain.proofs.Plain.{plain_most}
use Rattle.reaching.specs.Reaching.{reaches}
use Rattle.ball_pivoting.specs.Reconstruct.{point_count, scene_of, radii_of, laid_of, laid, plainly, Found, found_at, found, reason_by, reason}
use Rattle.ball_pivoting.specs.Inner.Parts.{CloudSized, WorkReady, marks_of, Finds}
use Rattle.ball_pivoting.specs.declared.Finding.{Finding}
use Rattle.ball_pivoting.proofs.Judged.{reason_laid, reason_plain}

-- the patch of the multi-radius path has the shape, for every cloud and all settings
pub shape_of : (c : BallPivotingConfig) (pts : List Float) → Shaped (laid_of c pts)
unfolding laid_of scene_of
shape_of c pts = laid_shape c.frontier_rule (scene_of c pts) pts (radii_of c pts)

-- and its faces touch only points of the cloud
pub touched_inside : (c : BallPivotingConfig) (pts : List Float) (x : ℕ) → any (touches x) (laid_of c pts).faces ≡ true → x < point_count pts
unfolding laid_of scene_of patch
touched_inside c pts x t =
    let n : ℕ = point_count pts in
    let floats = floats_of (scene_of c pts) pts in
    let rest : Rest n (laid_of c pts) = lay_all_rest n (searching floats n) (pop_of c.frontier_rule) (searching_fair n floats (within (scene_of c pts) pts))
    (pop_of_keeps c.frontier_rule) (radii_of c pts) (blank n) (blank_rest n) in
    let w = rest.inv.pointwise x in
    w.used_below (touched_used n x _ _ w (any_true (touches x) (laid_of c pts).faces t))

-- ---- the points are indexed and hashed

pub all_searchable : {s : Scene} {hash : Hash} {pts : List Float} {w u v : List ℕ} → s.n ≡ point_count pts → CloudSized pts w
    → CellsIndexed s.grid pts s.n u → Built hash pts s.n u v → AllSearchable s hash pts v
all_searchable e z x b = record {
  some = omega (arith, z.some);
  held = record { few = x.few; points_long = omega (arith, z.threes); work_long = omega (arith, x.room, b.length_same) };
  indexed = indexed_built x b;
  hashed = b.hashed;
}

-- ---- the radii

ready_at : (c : BallPivotingConfig) (pts : List Float) (w : List ℕ) (w₀ : List ℕ) (f : List Float) {hash : Hash} → WorkReady c pts w₀ f
    → AllSearchable (scene_of c pts) hash pts w → radii.RadiiReady c (scene_of c pts).grid hash pts (scene_of c pts).n w f
unfolding scene_of
ready_at c pts w w₀ f h g = record {
  some = g.some;
  indexed = g.indexed;
  hashed = g.hashed;
  room = h.floats_enough;
  percentiles = h.percentiles;
  additional = h.additional;
}

pub radii_ready : (c : BallPivotingConfig) (pts : List Float) (s : Scene) (w w₀ : List ℕ) (f : List Float) {hash : Hash} → s ≡ scene_of c pts
    → WorkReady c pts w₀ f → AllSearchable s hash pts w → radii.RadiiReady c s.grid hash pts s.n w f
radii_ready c pts s w w₀ f {hash} e h =
    subst (λ (t : Scene). AllSearchable t hash pts w → radii.RadiiReady c t.grid hash pts t.n w f) (sym e) (ready_at c pts w w₀ f h)

-- the radii are the definition's
pub listed_at : (c : BallPivotingConfig) (pts : List Float) (s : Scene) (r : Radii) → s ≡ scene_of c pts
    → radii.RadiiListed (adaptive_radii c s.grid pts s.n) r → radii.RadiiListed (radii_of c pts) r
unfolding radii_of scene_of
listed_at c pts s r e h = subst (λ (t : Scene). radii.RadiiListed (adaptive_radii c t.grid pts t.n) r) e h

-- no radii are listed
no_radii : (xs : List Float) (r : Radii) → radii.RadiiListed xs r → r.count ≡ 0 → xs ≡ []
no_radii xs r h e = sym h.kept ∙ ap (λ (k : ℕ). take k r.list) e

pub listed_none : (xs : List Float) (r : Radii) → radii.RadiiListed xs r → r.count ≡ 0 → radii.RadiiListed [] r
listed_none xs r h e = subst (λ (l : List Float). radii.RadiiListed l r) (no_radii xs r h e) h

pub listed_self : (xs : List Float) (r : Radii) → radii.RadiiListed xs r → radii.RadiiListed (take r.count r.list) r
listed_self xs r h = subst (λ (l : List Float). radii.RadiiListed l r) (sym h.kept) h

-- ---- what is found

pub found_plain : (c : BallPivotingConfig) (pts : List Float) → radii_of c pts ≡ [] → found c pts ≡ plainly c pts
unfolding found found_at
found_plain c pts e = ap (found_at c pts) e

pub found_laid : (c : BallPivotingConfig) (pts xs : List Float) → radii_of c pts ≡ xs → (xs ≡ [] → ⊥) → found c pts ≡ laid (laid_of c pts)
unfolding found found_at
found_laid c pts [] e some = absurd (some refl)
found_laid c pts (x ∷ xs) e some = ap (found_at c pts) e

-- without radii there are no marks
marks_none : (c : BallPivotingConfig) (pts : List Float) → radii_of c pts ≡ [] → marks_of c pts ≡ []
unfolding marks_of marks_from
marks_none c pts e =
    let n = point_count pts in
    ap (λ (rs : List Float). marks_from (searching (floats_of (scene_of c pts) pts) n) (pop_of c.frontier_rule) n rs (blank n)) e

-- at most 10,000 faces are found over 4,096 points, so a face slice of 30,000 is never too short
pub found_most : (c : BallPivotingConfig) (pts : List Float) → point_count pts ≤ 4096 → length (found c pts).faces ≤ 10000
unfolding found found_at laid plainly laid_of scene_of
found_most c pts few = go (radii_of c pts)
  where
    go : (rs : List Float) → length (found_at c pts rs).faces ≤ 10000
    go [] = plain_most pts c.radius
    go (r ∷ rs) = omega (arith, few, laid_few c.frontier_rule (scene_of c pts) pts (radii_of c pts))

module _ (c : BallPivotingConfig) (pts : List Float) (s : Scene) (g : Radii) (lent : List ℕ) (r : Finding) (slice : List ℕ) (e : s ≡ scene_of c pts) where
  -- by way of the scene's own index and number of points
  pub finds_plain : radii.RadiiListed (radii_of c pts) g → g.count ≡ 0
      → Finds (reason_by (point_count pts) (plain_reached pts c.radius)) (plainly c pts) [] [] lent r slice
      → Finds (reason c pts) (found c pts) (radii_of c pts) (marks_of c pts) lent r slice
  finds_plain h none f =
      let no : radii_of c pts ≡ [] = no_radii (radii_of c pts) g h none in
      subst (λ (why : ℕ). Finds why (found c pts) (radii_of c pts) (marks_of c pts) lent r slice) (reason_plain c pts no)
      (rw (found_plain c pts no, marks_none c pts no, no) f)

  -- the state and the marks at some radii, over a scene
  abbrev at : Scene → List Float → State
  at t xs = patch (rules_of t pts) (pop_of c.frontier_rule) t.n xs

  abbrev marks_at : Scene → List Float → List ℕ
  marks_at t xs = marks_from (rules_of t pts) (pop_of c.frontier_rule) t.n xs (blank t.n)

  pub finds_laid : Settled c → {w : List ℕ} → CloudSized pts w → radii.RadiiListed (radii_of c pts) g → (g.count ≡ 0 → ⊥)
      → Finds (reason_by s.n (reaches (floats_of s pts) s.n (get_or g.list (g.count - 1) nan))) (laid (at s (take g.count g.list)))
      (take g.count g.list) (marks_at s (take g.count g.list)) lent r slice
      → Finds (reason c pts) (found c pts) (radii_of c pts) (marks_of c pts) lent r slice
  unfolding laid_of scene_of marks_of
  finds_laid settled z h some f =
      let why = reason c pts in
      let there : radii_of c pts ≡ [] → ⊥ = λ q. some (h.counted ∙ ap length q) in
      let told : Finds why (laid (at s (take g.count g.list))) (take g.count g.list) (marks_at s (take g.count g.list)) lent r slice =
      subst (λ (y : ℕ). Finds y (laid (at s (take g.count g.list))) (take g.count g.list) (marks_at s (take g.count g.list)) lent r slice)
      (reason_laid c pts settled z.some z.numbers s g e h some) f in
      let one : Finds why (laid (at s (radii_of c pts))) (radii_of c pts) (marks_at s (radii_of c pts)) lent r slice = subst
      (λ (xs : List Float). Finds why (laid (at s xs)) xs (marks_at s xs) lent r slice) h.kept told in
      let two : Finds why (laid (laid_of c pts)) (radii_of c pts) (marks_of c pts) lent r slice = subst
      (λ (t : Scene). Finds why (laid (at t (radii_of c pts))) (radii_of c pts) (marks_at t (radii_of c pts)) lent r slice) e one in
      subst (λ (x : Found). Finds why x (radii_of c pts) (marks_of c pts) lent r slice) (sym (found_laid c pts (radii_of c pts) refl there)) two
