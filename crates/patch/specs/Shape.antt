-- The shape of a patch: the one claim about it. Definitions only.
use Rattle.std.specs.Prelude.{ℕ, ◌+◌, ◌*◌, ◌≤◌, ◌<◌, ◌≡◌, ◌↔◌, ◌≢◌, Bool, true, false, not, List, eqb, length, get_or, take}
use Rattle.lists.specs.Lists.{count, any}
use Rattle.patch.specs.Lay.{Edge, same, Face, face, points_of, edges_of}

-- the face has the point x
unfoldable pub touches : ℕ → Face → Bool
touches x f = any (eqb x) (points_of f)

-- the edge e, direction aside, lies in the face
unfoldable pub has : Edge → Face → Bool
has e f = any (same e) (edges_of f)

-- how many points of the face no earlier face has
unfoldable pub new_points : List Face → Face → ℕ
new_points earlier f = count (λ x. not (any (touches x) earlier)) (points_of f)

-- stands for a face that is not there, and is never read
abbrev pub no_face : Face
no_face = face 0 0 0

-- there are exactly k things with the property P, told apart by the test `alike`
pub record Exactly {A : Type 0} (k : ℕ) (alike : A → A → Bool) (P : A → Type 0) : Type 0 where
  pub list : List A
  pub once : (x : A) → count (alike x) list ≤ 1
  pub complete : (x : A) → (1 ≤ count (alike x) list) ↔ P x
  pub many : length list ≡ k

-- a face after those earlier: a seed, or another
pub record Laid (seed : Bool) (earlier : List Face) (f : Face) : Type 0 where
  -- it has three different points
  pub different : (f.a ≢ f.b) × (f.b ≢ f.c) × (f.c ≢ f.a)
  -- no earlier face has any point of a seed
  pub seed_new : seed ≡ true → new_points earlier f ≡ 3
  -- any other face brings in exactly one point that no earlier face has
  pub other_new : seed ≡ false → new_points earlier f ≡ 1
  -- and shares an edge with an earlier one
  pub other_shares : seed ≡ false → (e : Edge) × (has e f ≡ true) × (any (has e) earlier ≡ true)

-- The one claim about a patch: its faces fs in the order in which they were laid, of each a flag that says
-- whether it is a seed, the number F of the faces, the number S of the seeds, the looks and the pivots.
pub record Shape (fs : List Face) (flags : List Bool) (F S looks pivots : ℕ) : Type 0 where
  pub number : F ≡ length fs
  pub flagged : length flags ≡ F
  pub seeds : S ≡ count (λ b. b) flags
  -- each face, after those with a lower number
  pub each : (i : ℕ) → i < F → Laid (get_or flags i false) (take i fs) (get_or fs i no_face)
  -- how much was reached: the faces touch exactly F + 2S points
  pub points : Exactly (F + 2 * S) eqb (λ x. any (touches x) fs ≡ true)
  -- there are exactly 2F + S edges, direction aside
  pub edges : Exactly (2 * F + S) same (λ e. any (has e) fs ≡ true)
  -- each of them lies in one face or two
  pub one_or_two : (e : Edge) → any (has e) fs ≡ true → (1 ≤ count (has e) fs) × (count (has e) fs ≤ 2)
  pub looks_count : looks ≡ 3 * F
  pub pivots_count : pivots ≡ 2 * F + S
