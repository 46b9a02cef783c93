-- Faces that come back hang to their parents by their first edge: it runs the same way in both as they were laid, and
-- once each way where they are turned. Assumes nothing.
use Prim.Native.Nat.{ℕ, ◌+◌, ◌≤◌, ◌<◌}
use mathlib.Core.Path.{◌≡◌, refl, sym, ap, ◌∙◌}
use mathlib.Core.Bool.{Bool, true, false, not}
use mathlib.Core.List.{List}
use native.Mathlib.Omega.{arith}
use lib.ListN.{length, get_or}
use Rattle.lists.specs.Lists.{bit}
use Rattle.patch.specs.Lay.{Face, State, edge}
use Rattle.patch.specs.Shape.{has}
use Rattle.patch.specs.Fair.{Shaped}
use Rattle.patch.proofs.Edges.{Distinct}
use Rattle.orders.specs.Order.{face_at, swapped}
use Rattle.origins.specs.Sides.{looks_out, looks_in}
use Rattle.origins.specs.Turned.{runs, turned_face, turned_from, turned, Traced}
use Rattle.origins.proofs.Directed.{has_runs, swapped_runs, runs_has}
use Rattle.origins.proofs.Looking.{other_in, in_not_out}
use Rattle.origins.proofs.Shapes.{turned_at}
use Rattle.origins_outcome.specs.Outcome.{Hangs}

bit_true : (b : Bool) → bit b ≡ 1 → b ≡ true
bit_true true h = refl
bit_true false h = absurd (omega arith)

bit_false : (b : Bool) → bit b ≡ 0 → b ≡ false
bit_false true h = absurd (omega arith)
bit_false false h = refl

bit_most : (b : Bool) → bit b ≤ 1
bit_most true = omega arith
bit_most false = omega arith

-- an edge that runs from x to y doesn't run from y to x, and is one of the face's, told either way
module _ (g : Face) (d : Distinct g) (x y : ℕ) (h : runs x y g ≡ true) where
  back : runs y x g ≡ false
  back =
      let b : bit (runs x y g) ≡ 1 = ap bit h in
      bit_false (runs y x g) (omega (arith, has_runs g d x y, bit_most (has (edge x y) g)))

  has_back : has (edge y x) g ≡ true
  has_back =
      let b : bit (runs x y g) ≡ 1 = ap bit h in
      let n : bit (runs y x g) ≡ 0 = ap bit back in
      bit_true (has (edge y x) g) (omega (arith, has_runs g d y x))

swapped_distinct : (g : Face) → Distinct g → Distinct (swapped g)
swapped_distinct g d = record { ab = λ e. d.ab (sym e); bc = λ e. d.ca (sym e); ca = λ e. d.bc (sym e) }

-- of a face and its parent one is turned and the other is not
turned_hangs : (out : Bool) (f g : Face) → Distinct g → runs f.a f.b g ≡ true
    → Hangs true (turned_face out f) (turned_face (not out) g)
turned_hangs true f g d h = record { shares = has_back g d f.a f.b h; direction = back g d f.a f.b h }
turned_hangs false f g d h =
    let other : runs f.b f.a (swapped g) ≡ true = swapped_runs g f.b f.a ∙ h in
    record {
      shares = has_back (swapped g) (swapped_distinct g d) f.b f.a other;
      direction = back (swapped g) (swapped_distinct g d) f.b f.a other;
    }

module _ (s : State) (parents : List ℕ) (shaped : Shaped s) (traced : Traced s.faces s.seed_flags parents)
    (i : ℕ) (l : i < length s.faces) (other : get_or s.seed_flags i false ≡ false) where
  abbrev parent : ℕ → ℕ
  parent k = get_or parents k 0

  pub hangs_laid : Hangs false (face_at s.faces i) (face_at s.faces (parent i))
  hangs_laid =
      let f : Face = face_at s.faces i in
      let h = traced.shares i l other in
      record { shares = runs_has f.a f.b (face_at s.faces (parent i)) h; direction = h }

  face_at_lem : (k : ℕ) → k < length s.faces
      → face_at (turned_from parent 0 s.faces) k ≡ turned_face (looks_in parent k) (face_at s.faces k)
  face_at_lem k m =
      turned_at parent 0 s.faces k m
      ∙ (let z : 0 + k ≡ k = omega arith in ap (λ (j : ℕ). turned_face (looks_in parent j) (face_at s.faces k)) z)

  pub hangs_turned : Hangs true (face_at (turned parents s.faces) i) (face_at (turned parents s.faces) (parent i))
  unfolding turned
  hangs_turned =
      let p : ℕ = parent i in
      let e = traced.earlier i l other in
      let k : p < length s.faces = omega arith in
      let d = (shaped.each p k).different in
      let a : face_at (turned_from parent 0 s.faces) i ≡ turned_face (looks_out parent p) (face_at s.faces i) =
      face_at_lem i l ∙ ap (λ (b : Bool). turned_face b (face_at s.faces i)) (other_in parent i e) in
      let b : face_at (turned_from parent 0 s.faces) p ≡ turned_face (not (looks_out parent p)) (face_at s.faces p) =
      face_at_lem p k ∙ ap (λ (t : Bool). turned_face t (face_at s.faces p)) (in_not_out parent p) in
      rw (a, b) (turned_hangs (looks_out parent p) (face_at s.faces i) (face_at s.faces p)
      (record { ab = d.0; bc = d.1; ca = d.2 }) (traced.shares i l other))
