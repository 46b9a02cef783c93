-- What is asked of an order of popping over entries, and the parent of a face as the faces alone tell it. For laws
-- inside. Definitions only.
use Rattle.std.specs.Prelude.{ℕ, suc, ◌+◌, ◌≡◌, Bool, true, false, List, [], ◌∷◌, length}
use Rattle.lists.specs.Lists.{bit, count}
use Rattle.patch.specs.Lay.{Face, State, Rules, Pop, lay_one}
use Rattle.orders.specs.Order.{face_at}
use Rattle.origins.specs.Origins.{Entry, PopEntry, edges_in}
use Rattle.origins.specs.Turned.{runs}

-- it is the order over edges, whatever the numbers
pub record Follows (popEntry : PopEntry) (pop : Pop) : Type 0 where
  pub first : (x : Entry) (xs : List Entry) → (popEntry x xs).0.along ≡ (pop x.along (edges_in xs)).0
  pub rest : (x : Entry) (xs : List Entry) → edges_in (popEntry x xs).1 ≡ (pop x.along (edges_in xs)).1

-- and it loses and repeats no entry
abbrev pub KeepsEntries : PopEntry → Type 0
KeepsEntries popEntry =
    (x : Entry) (xs : List Entry) (p : Entry → Bool)
    → count p (x ∷ xs) ≡ bit (p (popEntry x xs).0) + count p (popEntry x xs).1

-- the number of the first face that passes
unfoldable pub find : (Face → Bool) → List Face → ℕ
find p [] = 0
find p (f ∷ fs) = elim (p f) [ true ↦ 0 | false ↦ suc (find p fs) ]

-- the first face in which an edge runs as the first one of face i: for a seed itself
unfoldable pub parent_of : List Face → ℕ → ℕ
parent_of fs i = find (runs (face_at fs i).a (face_at fs i).b) fs

-- how many faces there are after each radius
unfoldable pub marks_from : {R : Type 0} → Rules R → Pop → ℕ → List R → State → List ℕ
marks_from rules pop n [] s = []
marks_from rules pop n (r ∷ rs) s =
    let t = lay_one rules pop n r s in
    length t.faces ∷ marks_from rules pop n rs t
