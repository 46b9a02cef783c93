-- Edges with their direction: a face of three different points has an edge one way or the other, and swapping its first
-- two points turns all three. Assumes nothing.
use Prim.Native.Nat.{ℕ, ◌+◌}
use mathlib.Core.Path.{◌≡◌, refl, sym, ap, ◌∙◌}
use mathlib.Core.Logic.{◌⊎◌, inl, inr, ⊎_elim, ◌≢◌}
use mathlib.Core.Bool.{Bool, true, false, ◌&&◌, ◌||◌}
use native.Mathlib.Omega.{arith}
use lib.Dec.{eqb, ltb}
use borrow.Author.Tests.{eqb-true, eq-eqb}
use Rattle.lists.specs.Lists.{bit, count, any}
use Rattle.patch.specs.Lay.{Edge, edge, same, Face, edges_of}
use Rattle.patch.specs.Shape.{has}
use Rattle.lists.proofs.Bools.{and_both}
use Rattle.lists.proofs.Counts.{any_true, true_any, any_bit, count_mono}
use Rattle.patch.proofs.Edges.{Distinct, ab_of, bc_of, ca_of, one_edge, has_bit, which}
use Rattle.orders.specs.Order.{swapped}
use Rattle.origins.specs.Turned.{exactly, runs}

-- not from a point to itself
abbrev pub Proper : Edge → Type 0
Proper g = g.v1 ≢ g.v2

both_ways : (p q : Bool) → (p ≡ true → q ≡ true → ⊥) → bit (p || q) ≡ bit p + bit q
both_ways true true h = absurd (h refl refl)
both_ways true false h = refl
both_ways false true h = refl
both_ways false false h = refl

and_comm : (p q : Bool) → bit (p && q) ≡ bit (q && p)
and_comm true true = refl
and_comm true false = refl
and_comm false true = refl
and_comm false false = refl

same_runs : (x y : ℕ) (g : Edge) → Proper g → bit (same (edge x y) g) ≡ bit (exactly x y g) + bit (exactly y x g)
unfolding same
same_runs x y g d =
    let p = eqb x g.v1 && eqb y g.v2 in
    let q = eqb x g.v2 && eqb y g.v1 in
    let e = both_ways p q (λ s t.
    let a = and_both {p = eqb x g.v1} {q = eqb y g.v2} s in
    let b = and_both {p = eqb x g.v2} {q = eqb y g.v1} t in
    d (sym (eqb-true x g.v1 a.0) ∙ eqb-true x g.v2 b.0)) in
    let c = and_comm (eqb x g.v2) (eqb y g.v1) in
    omega arith

module _ (f : Face) (d : Distinct f) (x y : ℕ) where
  edge_count : count (same (edge x y)) (edges_of f) ≡ count (exactly x y) (edges_of f) + count (exactly y x) (edges_of f)
  edge_count =
      let a = same_runs x y (ab_of f) d.ab in
      let b = same_runs x y (bc_of f) d.bc in
      let c = same_runs x y (ca_of f) d.ca in
      omega arith

  runs_count : bit (runs x y f) ≡ count (exactly x y) (edges_of f)
  unfolding runs
  runs_count = any_bit (exactly x y) (edges_of f) (omega (arith, edge_count, one_edge f d (edge x y)))

-- an edge lies in the face one way or the other
pub has_runs : (f : Face) (d : Distinct f) (x y : ℕ) → bit (has (edge x y) f) ≡ bit (runs x y f) + bit (runs y x f)
has_runs f d x y = omega (arith, has_bit f d (edge x y), edge_count f d x y, runs_count f d x y, runs_count f d y x)

-- turned, it runs the other way
pub swapped_runs : (f : Face) (x y : ℕ) → runs x y (swapped f) ≡ runs y x f
unfolding runs any
swapped_runs f x y =
    let a = and_comm (eqb x f.b) (eqb y f.a) in
    let b = and_comm (eqb x f.a) (eqb y f.c) in
    let c = and_comm (eqb x f.c) (eqb y f.b) in
    let e : count (exactly x y) (edges_of (swapped f)) ≡ count (exactly y x) (edges_of f) = omega arith in
    ap (ltb 0) e

-- which edge of the face it is
pub record Is (x y : ℕ) (g : Edge) : Type 0 where
  pub from : x ≡ g.v1
  pub to : y ≡ g.v2

pub exactly_is : (x y : ℕ) (g : Edge) → exactly x y g ≡ true → Is x y g
exactly_is x y g h = let a = and_both {p = eqb x g.v1} {q = eqb y g.v2} h in record { from = eqb-true x g.v1 a.0; to = eqb-true y g.v2 a.1 }

pub runs_which : (x y : ℕ) (f : Face) → runs x y f ≡ true → Is x y (ab_of f) ⊎ (Is x y (bc_of f) ⊎ Is x y (ca_of f))
unfolding runs
runs_which x y f h = ⊎_elim
    (λ t. inl (exactly_is x y (ab_of f) t))
    (⊎_elim (λ t. inr (inl (exactly_is x y (bc_of f) t))) (λ t. inr (inr (exactly_is x y (ca_of f) t))))
    (which (exactly x y (ab_of f)) (exactly x y (bc_of f)) (exactly x y (ca_of f)) (any_true (exactly x y) (edges_of f) h))

-- its first two points
pub runs_first : (f : Face) → runs f.a f.b f ≡ true
unfolding runs
runs_first f =
    let o : bit (exactly f.a f.b (ab_of f)) ≡ 1 = rw (eq-eqb f.a f.a refl, eq-eqb f.b f.b refl) in
    true_any (exactly f.a f.b) (edges_of f) (omega arith)

exactly_same : (x y : ℕ) (g : Edge) → exactly x y g ≡ true → same (edge x y) g ≡ true
unfolding same
exactly_same x y g h = rw h

pub runs_has : (x y : ℕ) (f : Face) → runs x y f ≡ true → has (edge x y) f ≡ true
unfolding runs has
runs_has x y f h =
    true_any (same (edge x y)) (edges_of f)
    (omega (arith, any_true (exactly x y) (edges_of f) h, count_mono (exactly x y) (same (edge x y)) (exactly_same x y) (edges_of f)))
