-- Entries, used points and faces as words of the lent slices, and what changes there. Definitions only.
use Rattle.std.specs.Prelude.{ℕ, ◌+◌, ◌-◌, ◌≤◌, ◌<◌, ◌≡◌, List, [], ◌∷◌, ◌++◌, length, get_or, take, drop}
use Rattle.regions.specs.Inner.Regions.{used_at, used_in, frontier_at, frontier_end, words_length}
use Rattle.patch.specs.Lay.{Edge, edge, Face, marked}
use Rattle.patch.specs.Frontier.{after_pop}
use Rattle.patch.specs.Inner.Entries.{encode}
use Rattle.patch.specs.View.{written}

-- the entries in the work slice w, for n points
abbrev pub entries_in : ℕ → ℕ → ℕ → List ℕ → List ℕ
entries_in n first count w = take count (drop (frontier_at n + first) w)

-- what the word of an entry has above its edge, if the edge is processed: an edge's number is less, its points
-- being below 4096
abbrev pub flag : ℕ
flag = 16777216

-- room for the words of n points
pub record WordsSized (n : ℕ) (w : List ℕ) : Type 0 where
  pub some : 0 < n
  pub few : n ≤ 4096
  pub long : words_length n ≤ length w

-- ---- what is changed: w before, u after

-- only the words from `lo` up to `hi`
pub record OnlyIn (lo hi : ℕ) (w u : List ℕ) : Type 0 where
  pub before : take lo u ≡ take lo w
  pub after : drop hi u ≡ drop hi w
  pub length_same : length u ≡ length w

-- an entry is taken out of the heap of `count` ones from `first` on
pub record Taken (n first count : ℕ) (w u : List ℕ) (entry : ℕ) : Type 0 where
  pub top : entry ≡ get_or (entries_in n first count w) 0 0
  pub rest : entries_in n first (count - 1) u ≡ after_pop 0 (entries_in n first count w)
  pub only : OnlyIn (frontier_at n) (frontier_end n) w u

-- words go to the end of the frontier, wherever it begins
pub record Pushed (n end : ℕ) (words w u : List ℕ) : Type 0 where
  pub entries : (first count : ℕ) → first + count ≡ end
      → entries_in n first (count + length words) u ≡ entries_in n first count w ++ words
  pub only : OnlyIn (frontier_at n) (frontier_end n) w u

-- the word of an edge with a mark above it
abbrev pub word_of : ℕ → Edge → ℕ
word_of mark e = encode e + mark

-- the words of a face's edges, in the order in which they are pushed, the first with a mark above it and the
-- others with none
abbrev pub words_of : ℕ → Face → List ℕ
words_of mark f = word_of mark (edge f.a f.b) ∷ word_of 0 (edge f.b f.c) ∷ word_of 0 (edge f.c f.a) ∷ []

pub record WordsMarked (n : ℕ) (ks w u : List ℕ) : Type 0 where
  pub flags : used_in n u ≡ marked (used_in n w) ks
  pub only : OnlyIn (used_at n) (frontier_at n) w u

-- the face f goes behind `count` faces
abbrev pub WroteFace : ℕ → Face → List ℕ → List ℕ → Type 0
WroteFace count f slice back = (lent : List ℕ) (fs : List Face) → length fs ≡ count → slice ≡ written fs lent
    → back ≡ written (fs ++ (f ∷ [])) lent
