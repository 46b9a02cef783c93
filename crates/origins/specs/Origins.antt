-- Laying with the record of where each face came from: its parent's number and its radius's place in the list, both
-- from 0. Definitions only.
use Rattle.std.specs.Prelude.{ℕ, zero, suc, ◌-◌, ◌*◌, List, [], ◌∷◌, ◌++◌, map, length, get_or, drop, replicate}
use Rattle.std.proofs.Math.Option.{Option, none, some}
use Rattle.patch.specs.Lay.{Edge, State, Rules, Pop, cleared, seeded, look, blank}
use Rattle.patch.specs.Frontier.{no_edge, waiting_after, pop_of}

-- an entry of the frontier, and the number of the face that pushed it
pub record Entry : Type 0 where
  pub along : Edge
  pub by : ℕ

abbrev pub entry : ℕ → Edge → Entry
entry j e = record { along = e; by = j }

-- without the numbers
abbrev pub edges_in : List Entry → List Edge
edges_in xs = map (λ x. x.along) xs

-- an order of popping, over entries
abbrev pub PopEntry : Type 0
PopEntry = Entry → List Entry → Entry × List Entry

-- the rule's order, as it is over edges
abbrev pub pop_entry_of : ℕ → PopEntry
pop_entry_of rule x xs = (x, waiting_after (entry 0 no_edge) rule x xs)

pub record Trace : Type 0 where
  -- as the definition of laying has it
  pub state : State
  -- its frontier, with the numbers
  pub entries : List Entry
  -- of each face its parent and the place of its radius
  pub parents : List ℕ
  pub places : List ℕ

-- at the radius r, which has this place in the list
module _ {R : Type 0} (rules : Rules R) (pop : Pop) (popEntry : PopEntry) (r : R) (place : ℕ) where
  -- a look at the entry x: a face that it lays has the face that pushed x for its parent, and what it pushes has the
  -- number of the face laid
  unfoldable pub look_trace : Entry → List Entry → Trace → Trace
  look_trace x rest t =
      let before = length t.state.faces in
      let after = look rules pop r x.along (edges_in rest) t.state in
      let laid = length after.faces - before in
      record {
        state = after;
        entries = rest ++ map (entry before) (drop (length rest) after.frontier);
        parents = t.parents ++ replicate laid x.by;
        places = t.places ++ replicate laid place;
      }

  -- a look, if an entry waits
  unfoldable pub next_trace : List Entry → Trace → Trace
  next_trace [] t = t
  next_trace (x ∷ xs) t = look_trace (popEntry x xs).0 (popEntry x xs).1 t

  -- at most so many looks
  unfoldable pub run_trace : ℕ → Trace → Trace
  run_trace zero t = t
  run_trace (suc m) t = run_trace m (next_trace t.entries t)

  -- a seed is its own parent
  unfoldable pub seeded_trace : ℕ × ℕ × ℕ → Trace → Trace
  seeded_trace v t =
      let before = length t.state.faces in
      let after = seeded v (cleared t.state) in
      record {
        state = after;
        entries = map (entry before) after.frontier;
        parents = t.parents ++ (before ∷ []);
        places = t.places ++ (place ∷ []);
      }

  -- from the seed, if there is one, until no entry waits
  unfoldable pub begun_trace : ℕ → Option (ℕ × ℕ × ℕ) → Trace → Trace
  begun_trace n none t = record {
    state = cleared t.state;
    entries = [];
    parents = t.parents;
    places = t.places;
  }
  begun_trace n (some v) t = run_trace (3 * n) (seeded_trace v t)

-- all radii in turn, the first of which has this place: a radius that lays nothing counts
unfoldable pub trace_from : {R : Type 0} → Rules R → Pop → PopEntry → ℕ → ℕ → List R → Trace → Trace
trace_from rules pop popEntry n place [] t = t
trace_from rules pop popEntry n place (r ∷ rs) t =
    let after = begun_trace rules pop popEntry r place n (rules.seed_of r t.state.used) t in
    trace_from rules pop popEntry n (suc place) rs after

-- before the first radius
abbrev pub blank_trace : ℕ → Trace
blank_trace n = record { state = blank n; entries = []; parents = []; places = [] }

unfoldable pub trace : {R : Type 0} → Rules R → Pop → PopEntry → ℕ → List R → Trace
trace rules pop popEntry n rs = trace_from rules pop popEntry n 0 rs (blank_trace n)

-- under a rule
abbrev pub trace_of : {R : Type 0} → Rules R → ℕ → ℕ → List R → Trace
trace_of rules rule n rs = trace rules (pop_of rule) (pop_entry_of rule) n rs

-- parent and place of each face, two numbers a face
unfoldable pub pairs : List ℕ → List ℕ → List ℕ
pairs [] places = []
pairs (p ∷ parents) [] = []
pairs (p ∷ parents) (q ∷ places) = p ∷ q ∷ pairs parents places

-- the first k parents, or places, in a slice that has two numbers a face
unfoldable pub parents_in : ℕ → List ℕ → List ℕ
parents_in zero slice = []
parents_in (suc k) slice = get_or slice 0 0 ∷ parents_in k (drop 2 slice)

unfoldable pub places_in : ℕ → List ℕ → List ℕ
places_in zero slice = []
places_in (suc k) slice = get_or slice 1 0 ∷ places_in k (drop 2 slice)
