-- What the lent slices and the counts hold of a state of the laying, and what each part of a step asks and
-- changes. Definitions only.
use Rattle.std.specs.Prelude.{ℕ, ◌+◌, ◌*◌, ◌≤◌, ◌<◌, ◌≡◌, ◌≢◌, false, cond, Option, Some, None}
use Rattle.std.specs.Prelude.{List, [], ◌∷◌, map, length}
use Rattle.regions.specs.Inner.Regions.{used_in}
use Rattle.lists.specs.Lists.{bit, any}
use Rattle.patch.specs.Lay.{Edge, edge, same, State, Pop, seeds_of, popped, cleared, pivoted, blank}
use Rattle.patch.specs.Inner.Entries.{encode}
use Rattle.patch.specs.View.{written}
use Rattle.laying_words.specs.Inner.Words.{entries_in, flag, WordsSized}
use Rattle.laying_steps.specs.declared.Counts.{Counts}
use Rattle.laying_steps.specs.declared.Entry.{Entry}

-- the word of an entry
abbrev pub entry_of : List Edge → Edge → ℕ
entry_of processed e = encode e + bit (any (same e) processed) * flag

-- a state s, held by counts, work slice and face slice; `lent` is the face slice as it was lent
pub record HoldsState (n : ℕ) (lent : List ℕ) (s : State) (c : Counts) (w slice : List ℕ) : Type 0 where
  pub faces_count : c.faces ≡ length s.faces
  pub seeds_count : c.seeds ≡ seeds_of s
  pub frontier_count : c.frontier ≡ length s.frontier
  pub looks : c.looks ≡ s.looks
  pub pivots : c.pivots ≡ s.pivots
  pub used : used_in n w ≡ s.used
  pub frontier : entries_in n c.first c.frontier w ≡ map (entry_of s.processed) s.frontier
  -- no more entries stand before the first than were popped
  pub first_most : c.first ≤ c.looks
  pub faces : slice ≡ written s.faces lent

-- a function that turns c, w and slice into r, u and back takes the step, from each held state of which `asked` holds
abbrev pub Takes : ℕ → (State → Type 0) → (State → State) → Counts → List ℕ → List ℕ → Counts → List ℕ → List ℕ → Type 0
Takes n asked step c w slice r u back = (lent : List ℕ) (s : State) → asked s → HoldsState n lent s c w slice
    → HoldsState n lent (step s) r u back

-- the laying begins, with any face slice
abbrev pub Begins : ℕ → Counts → List ℕ → Type 0
Begins n r u = (lent : List ℕ) → HoldsState n lent (blank n) r u lent

-- the step that begins a radius changes the counts alone, and entries stand from the front on
abbrev pub Clears : Counts → Counts → Type 0
Clears c r = (r.first ≡ 0) × ((n : ℕ) (w slice lent : List ℕ) (s : State) → HoldsState n lent s c w slice
    → HoldsState n lent (cleared s) r w slice)

-- an entry comes out as the order of popping says
abbrev pub Pops : Pop → ℕ → Counts → List ℕ → ℕ → Counts → List ℕ → Type 0
Pops pop n c w entry r u = (lent slice : List ℕ) (s : State) (x : Edge) (xs : List Edge) → HoldsState n lent s c w slice
    → s.frontier ≡ x ∷ xs
    → (entry ≡ entry_of s.processed (pop x xs).0) × HoldsState n lent (popped (pop x xs).1 s) r u slice

-- r tells of an entry's word its edge, and none if that is processed
abbrev pub TellsEntry : ℕ → Option Entry → Type 0
TellsEntry word r = (processed : List Edge) (e : Edge) → e.v1 < 4096 → e.v2 < 4096 → word ≡ entry_of processed e
    → r ≡ cond (any (same e) processed) None (Some record { a = e.v1; b = e.v2 })

-- ---- what is asked of a state, so that the flags stay right

-- the edge e is not processed, and no entry of it waits
pub record NoEntryWaits (e : Edge) (s : State) : Type 0 where
  pub unprocessed : any (same e) s.processed ≡ false
  pub none_waits : any (same e) s.frontier ≡ false

-- nor are the edges processed that join it to the point k
pub record Open (e : Edge) (k : ℕ) (s : State) : Type 0 where
  pub alone : NoEntryWaits e s
  pub not_first : k ≢ e.v1
  pub not_second : k ≢ e.v2
  pub second : any (same (edge e.v2 k)) s.processed ≡ false
  pub third : any (same (edge k e.v1)) s.processed ≡ false

-- at the beginning of a radius
abbrev pub NoneProcessed : State → Type 0
NoneProcessed s = s.processed ≡ []

-- the step that ends a pivot which met no point changes the counts alone
abbrev pub Misses : Counts → Counts → Type 0
Misses c r = (n : ℕ) (w slice lent : List ℕ) (e : Edge) (s : State) → NoEntryWaits e s → HoldsState n lent s c w slice
    → HoldsState n lent (pivoted e s) r w slice

-- ---- what is asked of the counts and the slices
pub record FrontierReady (n : ℕ) (c : Counts) (w : List ℕ) : Type 0 where
  pub sized : WordsSized n w
  pub faces : c.faces ≤ n
  pub seeds : c.seeds ≤ n
  pub frontier : c.first + c.frontier ≤ 3 * n
  pub looks : c.looks ≤ 3 * n
  pub pivots : c.pivots ≤ 2 * n

-- room for a face of three of the points
pub record FaceRoom (n : ℕ) (c : Counts) (w : List ℕ) (a b k : ℕ) : Type 0 where
  pub ready : FrontierReady n c w
  pub entries : c.first + c.frontier + 3 ≤ 3 * n
  pub first : a < n
  pub second : b < n
  pub third : k < n
