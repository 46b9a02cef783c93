-- The faces at an edge: those that have both of its points; and how often the corners at one point are in faces with
-- the other. Assumes nothing.
use Prim.Native.Nat.{ℕ, zero, suc, ◌+◌, ◌*◌, ◌/◌, ◌≤◌, ◌<◌}
use mathlib.Core.Path.{◌≡◌, refl, sym, ap, ◌∙◌}
use mathlib.Core.Logic.{◌≢◌, ⊎_elim}
use mathlib.Core.Bool.{Bool, true, false, ◌&&◌}
use native.Mathlib.Omega.{arith}
use lib.Dec.{eqb}
use borrow.Author.Tests.{eqb-true, eqb-false, eq-eqb, ne_eqb}
use Rattle.lists.specs.Lists.{bit, count, up_from}
use Rattle.lists.proofs.Bools.{either, not-true, true_not_false}
use Rattle.lists.proofs.Counts.{bit_le, bit_true, any_bit, true_any}
use Rattle.patch.specs.Lay.{Edge, edge, same, Face, points_of, edges_of}
use Rattle.patch.specs.Shape.{has, touches}
use Rattle.patch.proofs.Edges.{key_same, touches_which, touches_v1, touches_v2}
use Rattle.corners.specs.Corners.{last_at}
use Rattle.corners.proofs.Chain.{last_here, last_past}
use Rattle.offers.specs.Inner.Offers.{Faces}

-- ---- an edge of a face is two of its points
module _ (x y : ℕ) (f : Face) (apart : x ≢ y) where
  own : (d : Edge) → 1 ≤ count (same (edge x y)) (edges_of f) → has (edge x y) f ≡ true
  unfolding has
  own d h = true_any (same (edge x y)) (edges_of f) h

  -- the two of its edges that are no third
  ab : same (edge x y) (edge f.a f.b) ≡ true → has (edge x y) f ≡ true
  ab h = let o : bit (same (edge x y) (edge f.a f.b)) ≡ 1 = ap bit h in own (edge x y) (omega arith)

  bc : same (edge x y) (edge f.b f.c) ≡ true → has (edge x y) f ≡ true
  bc h = let o : bit (same (edge x y) (edge f.b f.c)) ≡ 1 = ap bit h in own (edge x y) (omega arith)

  ca : same (edge x y) (edge f.c f.a) ≡ true → has (edge x y) f ≡ true
  ca h = let o : bit (same (edge x y) (edge f.c f.a)) ≡ 1 = ap bit h in own (edge x y) (omega arith)

  straight : (p q : ℕ) → x ≡ p → y ≡ q → same (edge x y) (edge p q) ≡ true
  straight p q a b = key_same (edge x y) (edge p q) (record { low = omega arith; high = omega arith })

  crossed : (p q : ℕ) → x ≡ q → y ≡ p → same (edge x y) (edge p q) ≡ true
  crossed p q a b = key_same (edge x y) (edge p q) (record { low = omega arith; high = omega arith })

  both_has : touches x f ≡ true → touches y f ≡ true → has (edge x y) f ≡ true
  both_has h k = ⊎_elim
      (λ (s : eqb x f.a ≡ true).
      let e = eqb-true x f.a s in
      ⊎_elim
      (λ (t : eqb y f.a ≡ true). absurd (apart (e ∙ sym (eqb-true y f.a t))))
      (⊎_elim
      (λ (t : eqb y f.b ≡ true). ab (straight f.a f.b e (eqb-true y f.b t)))
      (λ (t : eqb y f.c ≡ true). ca (crossed f.c f.a e (eqb-true y f.c t))))
      (touches_which y f k))
      (⊎_elim
      (λ (s : eqb x f.b ≡ true).
      let e = eqb-true x f.b s in
      ⊎_elim
      (λ (t : eqb y f.a ≡ true). ab (crossed f.a f.b e (eqb-true y f.a t)))
      (⊎_elim
      (λ (t : eqb y f.b ≡ true). absurd (apart (e ∙ sym (eqb-true y f.b t))))
      (λ (t : eqb y f.c ≡ true). bc (straight f.b f.c e (eqb-true y f.c t))))
      (touches_which y f k))
      (λ (s : eqb x f.c ≡ true).
      let e = eqb-true x f.c s in
      ⊎_elim
      (λ (t : eqb y f.a ≡ true). ca (straight f.c f.a e (eqb-true y f.a t)))
      (⊎_elim
      (λ (t : eqb y f.b ≡ true). bc (crossed f.b f.c e (eqb-true y f.b t)))
      (λ (t : eqb y f.c ≡ true). absurd (apart (e ∙ sym (eqb-true y f.c t)))))
      (touches_which y f k)))
      (touches_which x f h)

  pub has_both : has (edge x y) f ≡ (touches x f && touches y f)
  has_both = ⊎_elim
      (λ (s : touches x f ≡ true). ⊎_elim
      (λ (t : touches y f ≡ true). both_has s t ∙ sym (let q : (touches x f && touches y f) ≡ true = rw (s, t) in q))
      (λ (t : touches y f ≡ false).
      not-true (λ (h : has (edge x y) f ≡ true). true_not_false (touches_v2 (edge x y) f h) t)
      ∙ sym (let q : (touches x f && touches y f) ≡ false = rw (s, t) in q))
      (either (touches y f)))
      (λ (s : touches x f ≡ false).
      not-true (λ (h : has (edge x y) f ≡ true). true_not_false (touches_v1 (edge x y) f h) s)
      ∙ sym (let q : (touches x f && touches y f) ≡ false = rw s in q))
      (either (touches x f))

-- ---- corners at x in faces that pass a test
module _ (corner : ℕ → ℕ) (x : ℕ) (q : ℕ → Bool) where
  pub tally : ℕ → ℕ
  tally zero = 0
  tally (suc k) = bit (eqb x (corner k) && q (k / 3)) + tally k

  pub tally_none : tally 0 ≡ 0
  unfolding tally
  tally_none = refl

  pub tally_here : (k : ℕ) → corner k ≡ x → tally (suc k) ≡ bit (q (k / 3)) + tally k
  unfolding tally
  tally_here k e = rw (eq-eqb x (corner k) (sym e))

  -- only corners at x count
  pub tally_last : (k : ℕ) → tally (last_at corner x k) ≡ tally k
  unfolding tally last_at
  tally_last zero = refl
  tally_last (suc k) = ⊎_elim
      (λ (t : eqb x (corner k) ≡ true). ap tally (last_here corner x k t))
      (λ (t : eqb x (corner k) ≡ false). ap tally (last_past corner x k t) ∙ tally_last k ∙
      (let z : bit (eqb x (corner k) && q (k / 3)) ≡ 0 = rw t in omega arith))
      (either (eqb x (corner k)))

  pub tally_le : (k : ℕ) → tally k ≤ k
  unfolding tally
  tally_le zero = omega arith
  tally_le (suc k) = let ih = tally_le k in let b = bit_le (eqb x (corner k) && q (k / 3)) in omega arith

  three : (k : ℕ) → tally (3 * suc k) ≡ bit (eqb x (corner (3 * k + 2)) && q k)
      + (bit (eqb x (corner (3 * k + 1)) && q k) + (bit (eqb x (corner (3 * k)) && q k) + tally (3 * k)))
  unfolding tally
  three k =
      let e : 3 * suc k ≡ suc (suc (suc (3 * k))) = omega arith in
      let d0 : 3 * k / 3 ≡ k = omega arith in
      let d1 : suc (3 * k) / 3 ≡ k = omega arith in
      let d2 : suc (suc (3 * k)) / 3 ≡ k = omega arith in
      let s1 : 3 * k + 1 ≡ suc (3 * k) = omega arith in
      let s2 : 3 * k + 2 ≡ suc (suc (3 * k)) = omega arith in
      rw (e, d0, d1, d2, s1, s2)

-- numbers from the front, one more
pub count_up : (p : ℕ → Bool) (m i : ℕ) → count p (up_from i (suc m)) ≡ count p (up_from i m) + bit (p (i + m))
unfolding up_from
count_up p zero i = let e : i + 0 ≡ i = omega arith in rw e (omega arith)
count_up p (suc m) i =
    let ih = count_up p m (i + 1) in
    let e : i + 1 + m ≡ i + suc m = omega arith in
    let f : bit (p (i + 1 + m)) ≡ bit (p (i + suc m)) = ap (λ (k : ℕ). bit (p k)) e in
    omega arith

one_of : (a b c q : Bool) (t : Bool) → bit t ≡ bit a + (bit b + (bit c + 0)) → bit (c && q) + (bit (b && q) + bit (a && q)) ≡ bit (t && q)
one_of a b c true t h = let x = and_one a in let y = and_one b in let z = and_one c in let u = and_one t in omega arith
  where
    and_one : (d : Bool) → bit (d && true) ≡ bit d
    and_one true = refl
    and_one false = refl
one_of a b c false t h = let x = and_none a in let y = and_none b in let z = and_none c in let u = and_none t in omega arith
  where
    and_none : (d : Bool) → bit (d && false) ≡ 0
    and_none true = refl
    and_none false = refl

module _ (faces : ℕ) (corner : ℕ → ℕ) (at : ℕ → Face) (held : Faces faces corner at) (x : ℕ) where
  -- a face has a point at most once
  pub point_once : (g : ℕ) → g < faces → bit (touches x (at g)) ≡ bit (eqb x (corner (3 * g)))
      + (bit (eqb x (corner (3 * g + 1))) + (bit (eqb x (corner (3 * g + 2))) + 0))
  unfolding touches
  point_once g l =
      let d = held.different g l in
      let few : count (eqb x) (points_of (at g)) ≤ 1 = at_most x (at g).a (at g).b (at g).c d.0 d.1 d.2 in
      any_bit (eqb x) (points_of (at g)) few ∙ ap (λ (f : Face). count (eqb x) (points_of f)) (held.are g l)
    where
      at_most : (x a b c : ℕ) → a ≢ b → b ≢ c → c ≢ a → bit (eqb x a) + (bit (eqb x b) + (bit (eqb x c) + 0)) ≤ 1
      at_most x a b c p q r = ⊎_elim
          (λ (t : eqb x a ≡ true).
          let e = eqb-true x a t in
          let y : bit (eqb x b) ≡ 0 = ap bit (ne_eqb x b (λ (h : x ≡ b). p (sym e ∙ h))) in
          let z : bit (eqb x c) ≡ 0 = ap bit (ne_eqb x c (λ (h : x ≡ c). r (sym h ∙ e))) in
          let k = bit_le (eqb x a) in
          omega arith)
          (λ (t : eqb x a ≡ false).
          let o : bit (eqb x a) ≡ 0 = ap bit t in
          ⊎_elim
          (λ (u : eqb x b ≡ true).
          let e = eqb-true x b u in
          let z : bit (eqb x c) ≡ 0 = ap bit (ne_eqb x c (λ (h : x ≡ c). q (sym e ∙ h))) in
          let k = bit_le (eqb x b) in
          omega arith)
          (λ (u : eqb x b ≡ false). let z : bit (eqb x b) ≡ 0 = ap bit u in let k = bit_le (eqb x c) in omega arith)
          (either (eqb x b)))
          (either (eqb x a))

  -- so corners at x in faces that pass are faces with x that pass
  pub tally_faces : (q : ℕ → Bool) (m : ℕ) → m ≤ faces → tally corner x q (3 * m) ≡ count (λ g. touches x (at g) && q g) (up_from 0 m)
  unfolding tally up_from
  tally_faces q zero l = refl
  tally_faces q (suc m) l =
      let ih = tally_faces q m (omega arith) in
      let t = three corner x q m in
      let u = count_up (λ g. touches x (at g) && q g) m 0 in
      let z : 0 + m ≡ m = omega arith in
      let s : bit (touches x (at (0 + m)) && q (0 + m)) ≡ bit (touches x (at m) && q m) = ap (λ (k : ℕ). bit (touches x (at k) && q k)) z in
      let o = one_of (eqb x (corner (3 * m))) (eqb x (corner (3 * m + 1))) (eqb x (corner (3 * m + 2))) (q m) (touches x (at m)) (point_once m (omega arith)) in
      omega arith

  pub corner_touches : (t : ℕ) → t < 3 * faces → corner t ≡ x → touches x (at (t / 3)) ≡ true
  corner_touches t l e =
      let o = point_once (t / 3) (omega arith) in
      let one : bit (eqb x (corner t)) ≡ 1 = ap bit (eq-eqb x (corner t) (sym e)) in
      ⊎_elim
      (λ (h : eqb t (3 * (t / 3)) ≡ true).
      let c : bit (eqb x (corner t)) ≡ bit (eqb x (corner (3 * (t / 3)))) = ap (λ (k : ℕ). bit (eqb x (corner k))) (eqb-true t (3 * (t / 3)) h) in
      bit_true (omega arith))
      (λ (h : eqb t (3 * (t / 3)) ≡ false).
      let n0 : t ≢ 3 * (t / 3) = eqb-false t (3 * (t / 3)) h in
      ⊎_elim
      (λ (k : eqb t (3 * (t / 3) + 1) ≡ true).
      let c : bit (eqb x (corner t)) ≡ bit (eqb x (corner (3 * (t / 3) + 1))) = ap (λ (j : ℕ). bit (eqb x (corner j))) (eqb-true t (3 * (t / 3) + 1) k) in
      bit_true (omega arith))
      (λ (k : eqb t (3 * (t / 3) + 1) ≡ false).
      let n1 : t ≢ 3 * (t / 3) + 1 = eqb-false t (3 * (t / 3) + 1) k in
      let q : t ≡ 3 * (t / 3) + 2 = omega arith in
      let c : bit (eqb x (corner t)) ≡ bit (eqb x (corner (3 * (t / 3) + 2))) = ap (λ (j : ℕ). bit (eqb x (corner j))) q in
      bit_true (omega arith))
      (either (eqb t (3 * (t / 3) + 1))))
      (either (eqb t (3 * (t / 3))))

  pub touches_corner : (g : ℕ) → g < faces → touches x (at g) ≡ true → (t : ℕ) × (t < 3 * faces) × (t / 3 ≡ g) × (corner t ≡ x)
  touches_corner g l h = ⊎_elim
      (λ (s : eqb x (at g).a ≡ true). (3 * g, omega arith, omega arith, sym (eqb-true x (at g).a s ∙ ap (λ (f : Face). f.a) (held.are g l))))
      (⊎_elim
      (λ (s : eqb x (at g).b ≡ true). (3 * g + 1, omega arith, omega arith, sym (eqb-true x (at g).b s ∙ ap (λ (f : Face). f.b) (held.are g l))))
      (λ (s : eqb x (at g).c ≡ true). (3 * g + 2, omega arith, omega arith, sym (eqb-true x (at g).c s ∙ ap (λ (f : Face). f.c) (held.are g l)))))
      (touches_which x (at g) h)
