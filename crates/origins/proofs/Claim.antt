-- The claims about parents, places and the turned patch, for every patch that the definition lays, in any order of
-- popping that loses and repeats no entry; then under our rules. Assumes nothing.
use Prim.Native.Nat.{ℕ, suc, ◌+◌, ◌<◌}
use mathlib.Core.Path.{◌≡◌, refl, sym, ap, ap₂, ◌∙◌, subst}
use mathlib.Core.Bool.{Bool, true}
use mathlib.Core.List.{List, [], ◌∷◌}
use native.Mathlib.Omega.{arith}
use lib.ListN.{length, get_or, replicate}
use lib.Seq.{ext_get_or}
use Rattle.lists.specs.Lists.{count, any}
use Rattle.lists.proofs.Counts.{any_true}
use Rattle.patch.specs.Lay.{edge, Face, State, seeds_of, Rules, Pop, blank, patch}
use Rattle.patch.specs.Frontier.{pop_of}
use Rattle.patch.specs.Shape.{touches, has, Shape}
use Rattle.patch.specs.Search.{Floats, searching}
use Rattle.patch.specs.Fair.{Fair, Keeps, NeighborsWithin, Shaped}
use Rattle.patch.specs.Inner.Invariant.{Rest}
use Rattle.patch.proofs.Inv.{touched_used}
use Rattle.patch.proofs.Laying.{lay_all_rest, blank_rest, patch_shape}
use Rattle.patch.proofs.Pops.{pop_of_keeps}
use Rattle.patch.proofs.Searching.{searching_fair}
use Rattle.origins.specs.Origins.{PopEntry, pop_entry_of, Trace, trace, trace_of, pairs}
use Rattle.origins.specs.Turned.{runs, turned_from, turned, Traced, OneWay}
use Rattle.origins.specs.Pass.{parents_from, parents_pass, parent_at, brought_after, place_of, origins_from, origins_pass}
use Rattle.origins.specs.Inner.Following.{Follows, KeepsEntries, parent_of, marks_from}
use Rattle.origins.proofs.Running.{Running, patch_running}
use Rattle.origins.proofs.Turning.{turned_once}
use Rattle.origins.proofs.Tracing.{Known, trace_known, trace_state, trace_parents, pop_entry_of_follows, pop_entry_of_keeps}
use Rattle.origins.proofs.Passing.{pass_parents, pass_length}
use Rattle.origins.proofs.Places.{places_length, place_is}
use Rattle.origins.proofs.Shapes.{turned_shape, turned_inside, turned_congr}

-- parents and places one after the other, as the pass writes them
pass_pairs : (marks : List ℕ) (k : ℕ) (brought : List ℕ) (fs : List Face) (places : List ℕ) → length places ≡ length fs
    → ((i : ℕ) → i < length fs → get_or places i 0 ≡ place_of marks (k + i))
    → pairs (parents_from k brought fs) places ≡ origins_from marks k brought fs
unfolding pairs parents_from origins_from
pass_pairs marks k brought [] places l h = refl
pass_pairs marks k brought (f ∷ fs) [] l h = absurd (omega arith)
pass_pairs marks k brought (f ∷ fs) (q ∷ places) l h =
    let z : k + 0 ≡ k = omega arith in
    let here : q ≡ place_of marks k = h 0 (omega arith) ∙ ap (place_of marks) z in
    let ih = pass_pairs marks (k + 1) (brought_after k brought f) fs places (omega arith) (λ i b. h (suc i) (omega arith) ∙ ap (place_of marks) (index i)) in
    ap₂ (λ (x : ℕ) (l : List ℕ). parent_at k brought f ∷ x ∷ l) here ih
  where
    index : (i : ℕ) → k + suc i ≡ k + 1 + i
    index i = omega arith

-- the shape of a patch is that of the turned one, whatever the parents
pub shape_turned : (parents : List ℕ) (fs : List Face) (flags : List Bool) (F S looks pivots : ℕ) → Shape fs flags F S looks pivots
    → Shape (turned parents fs) flags F S looks pivots
unfolding turned
shape_turned parents fs flags F S looks pivots h = turned_shape (λ i. get_or parents i 0) fs flags F S looks pivots h

-- and so are the points that it touches
pub inside_turned : (parents : List ℕ) (n : ℕ) (fs : List Face) → ((x : ℕ) → any (touches x) fs ≡ true → x < n) → (x : ℕ) → any (touches x) (turned parents fs)
    ≡ true → x < n
unfolding turned
inside_turned parents n fs h = turned_inside (λ i. get_or parents i 0) n fs h

module _ {R : Type 0} (n : ℕ) (rules : Rules R) (pop : Pop) (popEntry : PopEntry) (fair : Fair n rules) (keeps : Keeps pop) (follows : Follows popEntry pop)
    (keeps-entries : KeepsEntries popEntry) (rs : List R) where
  abbrev s : State
  s = patch rules pop n rs

  abbrev t : Trace
  t = trace rules pop popEntry n rs

  -- the numbers change nothing
  pub state_same : t.state ≡ s
  state_same = trace_state rules pop popEntry follows keeps-entries n rs

  shape : Shaped s
  shape = patch_shape n rules pop fair keeps rs

  running : Running s
  running = patch_running rules pop keeps n rs

  pub patch_inside : (x : ℕ) → any (touches x) s.faces ≡ true → x < n
  unfolding patch
  patch_inside x h =
      let rest : Rest n s = lay_all_rest n rules pop fair keeps rs (blank n) (blank_rest n) in
      let w = rest.inv.pointwise x in
      w.used_below (touched_used n x _ _ w (any_true (touches x) s.faces h))

  known : Known s.seed_flags s.faces s.frontier t.entries t.parents
  known = subst (λ (u : State). Known u.seed_flags u.faces u.frontier t.entries t.parents) state_same
      (trace_known rules pop popEntry follows keeps-entries n rs)

  -- a seed names itself; every other parent comes earlier and shares the pivoted edge in the same direction
  pub patch_traced : Traced s.faces s.seed_flags t.parents
  patch_traced = record {
    long = known.long;
    seeds = λ i b. (known.noted i b).seed;
    earlier = λ i b h. ((known.noted i b).other h).0;
    shares = λ i b h. ((known.noted i b).other h).1;
  }

  -- it is the first face in which an edge runs as the face's first
  pub parents_told : (i : ℕ) → i < length s.faces → get_or t.parents i 0 ≡ parent_of s.faces i
  parents_told = subst (λ (u : State). (i : ℕ) → i < length u.faces → get_or t.parents i 0 ≡ parent_of u.faces i) state_same
      (trace_parents rules pop popEntry follows keeps-entries n fair keeps rs)

  -- one pass over the faces finds them
  pub parents_pass_lem : t.parents ≡ parents_pass n s.faces
  parents_pass_lem = ext_get_or 0 t.parents (parents_pass n s.faces) (known.long ∙ sym (pass_length s shape running n patch_inside))
      (λ i b.
      let l : i < length s.faces = omega (arith, known.long) in
      parents_told i l ∙ sym (pass_parents s shape running n patch_inside i l))

  -- and with the numbers of faces after each radius the places
  pub origins_pass_lem : pairs t.parents t.places ≡ origins_pass (marks_from rules pop n rs (blank n)) n s.faces
  origins_pass_lem =
      ap (λ (l : List ℕ). pairs l t.places) parents_pass_lem
      ∙ pass_pairs (marks_from rules pop n rs (blank n)) 0 (replicate n 0) s.faces t.places
      (places_length rules pop popEntry follows keeps-entries n rs)
      (λ i b. place_is rules pop popEntry follows keeps-entries n rs i b ∙ ap (place_of (marks_from rules pop n rs (blank n))) (start i))
    where
      start : (i : ℕ) → i ≡ 0 + i
      start i = omega arith

  -- the turned patch
  abbrev ts : List Face
  ts = turned t.parents s.faces

  ts_told : ts ≡ turned_from (parent_of s.faces) 0 s.faces
  unfolding turned
  ts_told = turned_congr (λ i. get_or t.parents i 0) (parent_of s.faces) 0 s.faces (λ i b. parents_told i (omega arith))

  -- an edge that lies in two faces runs once each way, and all that is said of the patch holds
  pub patch_one_way : OneWay ts s.seed_flags (length s.faces) (seeds_of s) s.looks s.pivots
  patch_one_way = record {
    once = subst (λ (l : List Face). (x y : ℕ) → count (has (edge x y)) l ≡ 2 → (count (runs x y) l ≡ 1) × (count (runs y x) l ≡ 1)) (sym ts_told)
        (turned_once s shape running);
    shape = shape_turned t.parents s.faces s.seed_flags (length s.faces) (seeds_of s) s.looks s.pivots shape;
  }

-- ---- under our rules, whatever the floats say
module _ {R : Type 0} (n : ℕ) (floats : Floats R) (within : NeighborsWithin n floats) (rule : ℕ) (rs : List R) where
  abbrev pub rules : Rules R
  rules = searching floats n

  fair : Fair n rules
  fair = searching_fair n floats within

  pub our_state : (trace_of rules rule n rs).state ≡ patch rules (pop_of rule) n rs
  our_state = state_same n rules (pop_of rule) (pop_entry_of rule) fair (pop_of_keeps rule) (pop_entry_of_follows rule) (pop_entry_of_keeps rule) rs

  pub our_traced : Traced (patch rules (pop_of rule) n rs).faces (patch rules (pop_of rule) n rs).seed_flags (trace_of rules rule n rs).parents
  our_traced = patch_traced n rules (pop_of rule) (pop_entry_of rule) fair (pop_of_keeps rule) (pop_entry_of_follows rule) (pop_entry_of_keeps rule) rs

  pub our_parents : (trace_of rules rule n rs).parents ≡ parents_pass n (patch rules (pop_of rule) n rs).faces
  our_parents = parents_pass_lem n rules (pop_of rule) (pop_entry_of rule) fair (pop_of_keeps rule) (pop_entry_of_follows rule) (pop_entry_of_keeps rule) rs

  pub our_origins : pairs (trace_of rules rule n rs).parents (trace_of rules rule n rs).places
      ≡ origins_pass (marks_from rules (pop_of rule) n rs (blank n)) n (patch rules (pop_of rule) n rs).faces
  our_origins = origins_pass_lem n rules (pop_of rule) (pop_entry_of rule) fair (pop_of_keeps rule) (pop_entry_of_follows rule) (pop_entry_of_keeps rule) rs

  pub our-one-way :
      OneWay (turned (trace_of rules rule n rs).parents (patch rules (pop_of rule) n rs).faces) (patch rules (pop_of rule) n rs).seed_flags
      (length (patch rules (pop_of rule) n rs).faces) (seeds_of (patch rules (pop_of rule) n rs)) (patch rules (pop_of rule) n rs).looks
      (patch rules (pop_of rule) n rs).pivots
  our-one-way = patch_one_way n rules (pop_of rule) (pop_entry_of rule) fair (pop_of_keeps rule) (pop_entry_of_follows rule) (pop_entry_of_keeps rule) rs
