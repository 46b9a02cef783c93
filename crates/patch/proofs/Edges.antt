-- Edges, direction aside: `same` is an equivalence, a face of three different points has an edge at most once, and a
-- face that has an edge touches its points. Assumes nothing.
use Prim.Native.Nat.{ℕ, ◌+◌, ◌≤◌, min, max}
use mathlib.Core.Path.{◌≡◌, refl, sym, ap, ap₂, ◌∙◌}
use mathlib.Core.Logic.{◌⊎◌, inl, inr, ⊎_elim, ◌≢◌}
use mathlib.Core.Bool.{Bool, true, false, ◌&&◌, ◌||◌}
use mathlib.Core.List.{List}
use native.Mathlib.Omega.{arith}
use lib.Dec.{eqb}
use borrow.Author.Tests.{eqb-true, eqb-false, eq-eqb, ne_eqb}
use Rattle.lists.specs.Lists.{bit, count, any}
use Rattle.patch.specs.Lay.{Edge, edge, same, Face, points_of, edges_of}
use Rattle.patch.specs.Shape.{touches, has}
use Rattle.lists.proofs.Bools.{either, not-true, true_not_false, and_both}
use Rattle.lists.proofs.Counts.{bit_le, any_true, any_false, false_any, any_bit, count_mono, count_ext}

-- ---- two numbers, direction aside
in_first : (x y a b : ℕ) → min x y ≡ min a b → max x y ≡ max a b → x ≢ a → x ≢ b → ⊥
in_first x y a b l h p q = omega arith

in_second : (x y a b : ℕ) → min x y ≡ min a b → max x y ≡ max a b → y ≢ a → y ≢ b → ⊥
in_second x y a b l h p q = omega arith

third : (a b c : ℕ) → min a b ≡ min b c → max a b ≡ max b c → c ≡ a
third a b c l h = omega arith

flat : (x a b : ℕ) → min x x ≡ min a b → max x x ≡ max a b → a ≡ b
flat x a b l h = omega arith

-- ---- the test
pub record Key (e f : Edge) : Type 0 where
  pub low : min e.v1 e.v2 ≡ min f.v1 f.v2
  pub high : max e.v1 e.v2 ≡ max f.v1 f.v2

straight_key : (a b c d : ℕ) → a ≡ c → b ≡ d → (min a b ≡ min c d) × (max a b ≡ max c d)
straight_key a b c d p q = (ap₂ min p q, ap₂ max p q)

crossed_key : (a b c d : ℕ) → a ≡ d → b ≡ c → (min a b ≡ min c d) × (max a b ≡ max c d)
crossed_key a b c d p q = omega arith

or_either : {p q : Bool} → (p || q) ≡ true → (p ≡ true) ⊎ (q ≡ true)
or_either {p = true} {q} h = inl refl
or_either {p = false} {q = true} h = inr refl
or_either {p = false} {q = false} h = absurd (true_not_false refl (sym h))

pub same_key : (e f : Edge) → same e f ≡ true → Key e f
unfolding same
same_key e f h = ⊎_elim
    (λ (t : (eqb e.v1 f.v1 && eqb e.v2 f.v2) ≡ true).
    let b = and_both t in
    let k = straight_key e.v1 e.v2 f.v1 f.v2 (eqb-true _ _ b.0) (eqb-true _ _ b.1) in
    record { low = k.0; high = k.1 })
    (λ (t : (eqb e.v1 f.v2 && eqb e.v2 f.v1) ≡ true).
    let b = and_both t in
    let k = crossed_key e.v1 e.v2 f.v1 f.v2 (eqb-true _ _ b.0) (eqb-true _ _ b.1) in
    record { low = k.0; high = k.1 })
    (or_either h)

pub key_same : (e f : Edge) → Key e f → same e f ≡ true
unfolding same
key_same e f k = ⊎_elim
    (λ (t : eqb e.v1 f.v1 ≡ true).
    let p = eqb-true e.v1 f.v1 t in
    let q : e.v2 ≡ f.v2 = omega (arith, k.low, k.high) in
    rw (t, eq-eqb e.v2 f.v2 q))
    (λ (t : eqb e.v1 f.v1 ≡ false).
    let p = eqb-false e.v1 f.v1 t in
    let q : e.v1 ≡ f.v2 = omega (arith, k.low, k.high) in
    let r : e.v2 ≡ f.v1 = omega (arith, k.low, k.high) in
    rw (t, eq-eqb e.v1 f.v2 q, eq-eqb e.v2 f.v1 r))
    (either (eqb e.v1 f.v1))

pub same_refl : (e : Edge) → same e e ≡ true
same_refl e = key_same e e (record { low = refl; high = refl })

pub same_sym : (e f : Edge) → same e f ≡ true → same f e ≡ true
same_sym e f h = let k = same_key e f h in key_same f e (record { low = sym k.low; high = sym k.high })

pub same_trans : (e f g : Edge) → same e f ≡ true → same f g ≡ true → same e g ≡ true
same_trans e f g h i =
    let k = same_key e f h in
    let l = same_key f g i in
    key_same e g (record { low = k.low ∙ l.low; high = k.high ∙ l.high })

pub same_congr : (e f : Edge) → same e f ≡ true → (g : Edge) → same e g ≡ same f g
same_congr e f h g = ⊎_elim
    (λ (t : same f g ≡ true). same_trans e f g h t ∙ sym t)
    (λ (t : same f g ≡ false). not-true (λ (u : same e g ≡ true). true_not_false (same_trans f e g (same_sym e f h) u) t) ∙ sym t)
    (either (same f g))

pub same_false : (e f : Edge) → same e f ≡ false → same f e ≡ false
same_false e f h = not-true (λ (t : same f e ≡ true). true_not_false (same_sym f e t) h)

-- ---- an edge in a face
pub record Distinct (f : Face) : Type 0 where
  pub ab : f.a ≢ f.b
  pub bc : f.b ≢ f.c
  pub ca : f.c ≢ f.a

abbrev pub ab_of : Face → Edge
ab_of f = edge f.a f.b

abbrev pub bc_of : Face → Edge
bc_of f = edge f.b f.c

abbrev pub ca_of : Face → Edge
ca_of f = edge f.c f.a

-- an edge is at most one of the three
pub not_both : (p q : Bool) → (p ≡ true → q ≡ true → ⊥) → bit p + bit q ≤ 1
not_both true true h = absurd (h refl refl)
not_both true false h = omega arith
not_both false true h = omega arith
not_both false false h = omega arith

module _ (f : Face) (d : Distinct f) (e : Edge) where
  ab_bc : bit (same e (ab_of f)) + bit (same e (bc_of f)) ≤ 1
  ab_bc = not_both (same e (ab_of f)) (same e (bc_of f)) (λ h i.
      let k = same_key e (ab_of f) h in
      let l = same_key e (bc_of f) i in
      d.ca (third f.a f.b f.c (sym k.low ∙ l.low) (sym k.high ∙ l.high)))

  bc_ca : bit (same e (bc_of f)) + bit (same e (ca_of f)) ≤ 1
  bc_ca = not_both (same e (bc_of f)) (same e (ca_of f)) (λ h i.
      let k = same_key e (bc_of f) h in
      let l = same_key e (ca_of f) i in
      d.ab (third f.b f.c f.a (sym k.low ∙ l.low) (sym k.high ∙ l.high)))

  ca_ab : bit (same e (ca_of f)) + bit (same e (ab_of f)) ≤ 1
  ca_ab = not_both (same e (ca_of f)) (same e (ab_of f)) (λ h i.
      let k = same_key e (ca_of f) h in
      let l = same_key e (ab_of f) i in
      d.bc (third f.c f.a f.b (sym k.low ∙ l.low) (sym k.high ∙ l.high)))

  pub one_edge : count (same e) (edges_of f) ≤ 1
  one_edge =
      let p = ab_bc in
      let q = bc_ca in
      let r = ca_ab in
      let b = bit_le (same e (bc_of f)) in
      omega arith

  pub has_bit : bit (has e f) ≡ count (same e) (edges_of f)
  unfolding has
  has_bit = any_bit (same e) (edges_of f) one_edge

-- which of the three
pub which : (p q r : Bool) → 1 ≤ bit p + (bit q + (bit r + 0)) → (p ≡ true) ⊎ ((q ≡ true) ⊎ (r ≡ true))
which true q r h = inl refl
which false true r h = inr (inl refl)
which false false true h = inr (inr refl)
which false false false h = absurd (omega arith)

pub has_which : (e : Edge) (f : Face) → has e f ≡ true → (same e (ab_of f) ≡ true) ⊎ ((same e (bc_of f) ≡ true) ⊎ (same e (ca_of f) ≡ true))
unfolding has
has_which e f h = which (same e (ab_of f)) (same e (bc_of f)) (same e (ca_of f)) (any_true (same e) (edges_of f) h)

pub touches_which : (x : ℕ) (f : Face) → touches x f ≡ true → (eqb x f.a ≡ true) ⊎ ((eqb x f.b ≡ true) ⊎ (eqb x f.c ≡ true))
unfolding touches
touches_which x f h = which (eqb x f.a) (eqb x f.b) (eqb x f.c) (any_true (eqb x) (points_of f) h)

-- a face that does not touch x
pub record Off (x : ℕ) (f : Face) : Type 0 where
  pub not_a : x ≢ f.a
  pub not_b : x ≢ f.b
  pub not_c : x ≢ f.c

pub untouched : (x : ℕ) (f : Face) → touches x f ≡ false → Off x f
unfolding touches
untouched x f h =
    let z = any_false (eqb x) (points_of f) h in record {
      not_a = λ (q : x ≡ f.a). let o : bit (eqb x f.a) ≡ 1 = ap bit (eq-eqb x f.a q) in omega arith;
      not_b = λ (q : x ≡ f.b). let o : bit (eqb x f.b) ≡ 1 = ap bit (eq-eqb x f.b q) in omega arith;
      not_c = λ (q : x ≡ f.c). let o : bit (eqb x f.c) ≡ 1 = ap bit (eq-eqb x f.c q) in omega arith;
    }

pub off : (x : ℕ) (f : Face) → Off x f → touches x f ≡ false
unfolding touches
off x f o = false_any (eqb x) (points_of f) (rw (ne_eqb x f.a o.not_a, ne_eqb x f.b o.not_b, ne_eqb x f.c o.not_c))

-- a face that has an edge touches the edge's points
module _ (e : Edge) (f : Face) (h : has e f ≡ true) where
  in_face : (x : ℕ) → ((g : Edge) → Key e g → x ≢ g.v1 → x ≢ g.v2 → ⊥) → touches x f ≡ true
  in_face x k = ⊎_elim
      (λ (t : touches x f ≡ true). t)
      (λ (t : touches x f ≡ false). let o = untouched x f t in absurd (⊎_elim
      (λ (u : same e (ab_of f) ≡ true). k (ab_of f) (same_key e (ab_of f) u) o.not_a o.not_b)
      (⊎_elim
      (λ (u : same e (bc_of f) ≡ true). k (bc_of f) (same_key e (bc_of f) u) o.not_b o.not_c)
      (λ (u : same e (ca_of f) ≡ true). k (ca_of f) (same_key e (ca_of f) u) o.not_c o.not_a))
      (has_which e f h)))
      (either (touches x f))

  pub touches_v1 : touches e.v1 f ≡ true
  touches_v1 = in_face e.v1 (λ g k p q. in_first e.v1 e.v2 g.v1 g.v2 k.low k.high p q)

  pub touches_v2 : touches e.v2 f ≡ true
  touches_v2 = in_face e.v2 (λ g k p q. in_second e.v1 e.v2 g.v1 g.v2 k.low k.high p q)

-- no face has an edge from a point to itself
pub has_straight : (x : ℕ) (f : Face) → Distinct f → has (edge x x) f ≡ false
has_straight x f d =
    let e : Edge = edge x x in
    not-true (λ h. ⊎_elim
    (λ (u : same e (ab_of f) ≡ true). let k = same_key e (ab_of f) u in d.ab (flat x f.a f.b k.low k.high))
    (⊎_elim
    (λ (u : same e (bc_of f) ≡ true). let k = same_key e (bc_of f) u in d.bc (flat x f.b f.c k.low k.high))
    (λ (u : same e (ca_of f) ≡ true). let k = same_key e (ca_of f) u in d.ca (flat x f.c f.a k.low k.high)))
    (has_which e f h))

-- ---- faces that have an edge
pub has_congr : (e g : Edge) → same e g ≡ true → (f : Face) → has e f ≡ has g f
unfolding has any
has_congr e g h f = rw (same_congr e g h (ab_of f), same_congr e g h (bc_of f), same_congr e g h (ca_of f))

pub laid_congr : (e g : Edge) → same e g ≡ true → (fs : List Face) → count (has e) fs ≡ count (has g) fs
laid_congr e g h fs = count_ext (has e) (has g) (has_congr e g h) fs

pub laid_v1 : (e : Edge) (fs : List Face) → count (has e) fs ≤ count (touches e.v1) fs
laid_v1 e fs = count_mono (has e) (touches e.v1) (λ f h. touches_v1 e f h) fs

pub laid_v2 : (e : Edge) (fs : List Face) → count (has e) fs ≤ count (touches e.v2) fs
laid_v2 e fs = count_mono (has e) (touches e.v2) (λ f h. touches_v2 e f h) fs
