-- Laying a patch (`advanced_ball_pivoting`), whatever the floats decide and whichever entry is popped.
-- Definitions only.
use Rattle.std.specs.Prelude.{ℕ, zero, suc, ◌*◌, Bool, true, false, cond, ◌&&◌, ◌||◌, List, [], ◌∷◌, ◌++◌, eqb, set, replicate}
use Rattle.std.proofs.Math.Option.{Option, none, some}
use Rattle.lists.specs.Lists.{count, any}

-- two points of one face, and an entry of the frontier; points are numbers
pub record Edge : Type 0 where
  pub v1 : ℕ
  pub v2 : ℕ

-- the same two points, direction aside
unfoldable pub same : Edge → Edge → Bool
same e f = (eqb e.v1 f.v1 && eqb e.v2 f.v2) || (eqb e.v1 f.v2 && eqb e.v2 f.v1)

pub record Face : Type 0 where
  pub a : ℕ
  pub b : ℕ
  pub c : ℕ

abbrev pub edge : ℕ → ℕ → Edge
edge a b = record { v1 = a; v2 = b }

abbrev pub face : ℕ → ℕ → ℕ → Face
face a b c = record { a = a; b = b; c = c }

abbrev pub points_of : Face → List ℕ
points_of f = f.a ∷ f.b ∷ f.c ∷ []

-- its edges, in the order in which they are pushed
abbrev pub edges_of : Face → List Edge
edges_of f = edge f.a f.b ∷ edge f.b f.c ∷ edge f.c f.a ∷ []

pub record State : Type 0 where
  -- the faces in the order in which they were laid, and of each whether it is a seed
  pub faces : List Face
  pub seed_flags : List Bool
  -- of each point whether it is used, 0 or 1
  pub used : List ℕ
  -- the entries that wait, and the edges pivoted over at this radius
  pub frontier : List Edge
  pub processed : List Edge
  pub looks : ℕ
  pub pivots : ℕ

-- S: how many seeds were laid
abbrev pub seeds_of : State → ℕ
seeds_of s = count (λ b. b) s.seed_flags

-- what the floats decide, R being the radii
pub record Rules (R : Type 0) : Type 0 where
  -- the seed at a radius, given the used points
  pub seed_of : R → List ℕ → Option (ℕ × ℕ × ℕ)
  -- the point that the ball meets when it is pivoted over an edge
  pub pivot_of : R → List ℕ → Edge → Option ℕ

-- the order of popping: from a frontier that is not empty, given as its first entry and the others, the entry
-- popped and the frontier then
abbrev pub Pop : Type 0
Pop = Edge → List Edge → Edge × List Edge

-- the edges of a face go to the end of the frontier one by one, unless processed (`add_triangle_edges_to_frontier`)
unfoldable pub push : List Edge → List Edge → List Edge → List Edge
push processed frontier [] = frontier
push processed frontier (e ∷ es) = push processed (cond (any (same e) processed) frontier (frontier ++ (e ∷ []))) es

-- the points ks are used from now on
unfoldable pub marked : List ℕ → List ℕ → List ℕ
marked used [] = used
marked used (k ∷ ks) = marked (set used k 1) ks

-- the face f is laid, as a seed or not: it takes the unused points ks, and its edges are pushed
unfoldable pub with_face : Bool → List ℕ → Face → State → State
with_face seed ks f s = record {
  faces = s.faces ++ (f ∷ []);
  seed_flags = s.seed_flags ++ (seed ∷ []);
  used = marked s.used ks;
  frontier = push s.processed s.frontier (edges_of f);
  processed = s.processed;
  looks = s.looks;
  pivots = s.pivots;
}

-- a radius begins: no entry waits and no edge is processed; the used points carry over
unfoldable pub cleared : State → State
cleared s = record {
  faces = s.faces;
  seed_flags = s.seed_flags;
  used = s.used;
  frontier = [];
  processed = [];
  looks = s.looks;
  pivots = s.pivots;
}

unfoldable pub seeded : ℕ × ℕ × ℕ → State → State
seeded t s = with_face true (t.0 ∷ t.1 ∷ t.2 ∷ []) (face t.0 t.1 t.2) s

-- an entry is popped, and the rest wait: a look, whatever comes of it
unfoldable pub popped : List Edge → State → State
popped rest s = record {
  faces = s.faces;
  seed_flags = s.seed_flags;
  used = s.used;
  frontier = rest;
  processed = s.processed;
  looks = suc s.looks;
  pivots = s.pivots;
}

-- the pivot over e met no point, or the point k
unfoldable pub met : Edge → Option ℕ → State → State
met e none s = s
met e (some k) s = with_face false (k ∷ []) (face e.v1 e.v2 k) s

-- the pivot over e is over: only now is e processed, so that its face has pushed it again
unfoldable pub pivoted : Edge → State → State
pivoted e s = record {
  faces = s.faces;
  seed_flags = s.seed_flags;
  used = s.used;
  frontier = s.frontier;
  processed = s.processed ++ (e ∷ []);
  looks = s.looks;
  pivots = suc s.pivots;
}

module _ {R : Type 0} (rules : Rules R) (pop : Pop) (r : R) where
  -- e was popped: a processed edge is skipped, any other is pivoted over
  unfoldable pub looked_at : Bool → Edge → State → State
  looked_at true e s = s
  looked_at false e s = pivoted e (met e (rules.pivot_of r s.used e) s)

  -- one look, at the entry e
  unfoldable pub look : Edge → List Edge → State → State
  look e rest s = looked_at (any (same e) s.processed) e (popped rest s)

  -- a look, if an entry waits
  unfoldable pub next : List Edge → State → State
  next [] s = s
  next (x ∷ xs) s = look (pop x xs).0 (pop x xs).1 s

  -- at most so many looks
  unfoldable pub run : ℕ → State → State
  run zero s = s
  run (suc m) s = run m (next s.frontier s)

  -- from the seed, if there is one, until no entry waits: over n points 3n looks are never too few, see `finished`
  unfoldable pub begun : ℕ → Option (ℕ × ℕ × ℕ) → State → State
  begun n none s = s
  begun n (some t) s = run (3 * n) (seeded t s)

-- one radius, over n points
unfoldable pub lay_one : {R : Type 0} → Rules R → Pop → ℕ → R → State → State
lay_one rules pop n r s = begun rules pop r n (rules.seed_of r s.used) (cleared s)

-- all radii in turn
unfoldable pub lay_all : {R : Type 0} → Rules R → Pop → ℕ → List R → State → State
lay_all rules pop n [] s = s
lay_all rules pop n (r ∷ rs) s = lay_all rules pop n rs (lay_one rules pop n r s)

-- before the first radius: no point is used
abbrev pub blank : ℕ → State
blank n = record {
  faces = [];
  seed_flags = [];
  used = replicate n 0;
  frontier = [];
  processed = [];
  looks = 0;
  pivots = 0;
}

unfoldable pub patch : {R : Type 0} → Rules R → Pop → ℕ → List R → State
patch rules pop n rs = lay_all rules pop n rs (blank n)
