-- What the search finds, it found by a triple that reaches the quality test; where one reaches it, the search that
-- accepts all finds one. Assumes nothing.
use Prim.Native.Nat.{ℕ, zero, suc, ◌+◌, ◌≤◌, ◌<◌}
use mathlib.Core.Path.{◌≡◌, refl, sym, ap, subst}
use mathlib.Core.Logic.{◌⊎◌, inl, inr, ⊎_elim, ◌≢◌, ◌↔◌}
use mathlib.Core.Bool.{Bool, true, false, not, ◌&&◌}
use mathlib.Core.List.{List, [], ◌∷◌}
use mathlib.Core.Option.{Option, none, some}
use native.Mathlib.Omega.{arith}
use lib.Dec.{eqb}
use borrow.Author.Tests.{eqb-true, eqb-false, eq-eqb, ne_eqb, not-true}
use lib.ListN.{get_or, replicate}
use Rattle.lists.specs.Lists.{bit, count, unused, up_from}
use Rattle.patch.specs.Search.{Floats, is_second, is_third, third_of, second_of, first_of}
use Rattle.lists.proofs.Bools.{either, and_both, true_not_false}
use Rattle.reaching.specs.Reaching.{accept_all, is_some, reaches}
use Rattle.reaching.specs.Triple.{Reaches}

abbrev Triple : Type 0
Triple = ℕ × ℕ × ℕ

-- Q, if an answer is there
abbrev If : Type 0 → Option Triple → Type 0
If Q none = Unit {0}
If Q (some x) = Q

abbrev whether : Bool → Option Triple → Option Triple → Option Triple
whether b x y = elim b as (λ c. Option Triple) [ true ↦ x | false ↦ y ]

if_case : (Q : Type 0) (b : Bool) (x y : Option Triple) → (b ≡ true → If Q x) → (b ≡ false → If Q y) → If Q (whether b x y)
if_case Q true x y h g = h refl
if_case Q false x y h g = g refl

abbrev or_else : Option Triple → Option Triple → Option Triple
or_else o x = elim o as (λ d. Option Triple) [ none ↦ x | some t ↦ some t ]

if_else : (Q : Type 0) (o x : Option Triple) → If Q o → If Q x → If Q (or_else o x)
if_else Q none x h g = g
if_else Q (some t) x h g = h

pub both_true : (p q : Bool) → p ≡ true → q ≡ true → (p && q) ≡ true
both_true true q h g = g
both_true false q h g = absurd (true_not_false refl (sym h))

pub differ : (i k : ℕ) → not (eqb i k) ≡ true → i ≢ k
differ i k h = eqb-false i k (not-true (eqb i k) h)

pub differs : (i k : ℕ) → i ≢ k → not (eqb i k) ≡ true
differs i k h = ap not (ne_eqb i k h)

blank_unused : (n k : ℕ) → unused (replicate n 0) k ≡ true
blank_unused n k = eq-eqb (get_or (replicate n 0) k 0) 0 (go n k)
  where
    go : (n k : ℕ) → ◌≡◌ {A = ℕ} (get_or (replicate n 0) k 0) 0
    go zero k = refl
    go (suc n) zero = refl
    go (suc n) (suc k) = go n k

-- all of xs are in ys
abbrev Among : List ℕ → List ℕ → Type 0
Among xs ys = (x : ℕ) → 1 ≤ count (eqb x) xs → 1 ≤ count (eqb x) ys

among_head : (x : ℕ) (xs ys : List ℕ) → Among (x ∷ xs) ys → 1 ≤ count (eqb x) ys
among_head x xs ys h = h x (rw (eq-eqb x x refl) (omega arith))

among_tail : (x : ℕ) (xs ys : List ℕ) → Among (x ∷ xs) ys → Among xs ys
among_tail x xs ys h y m = h y (omega arith)

-- ---- from a seed to the triple
module _ {R : Type 0} (a : Floats R) (n : ℕ) (r : R) where
  abbrev blank_used : List ℕ
  blank_used = replicate n 0

  third_reaches : (i j : ℕ) (ks : List ℕ) → i < n → i < 1000 → i ≢ j → 1 ≤ count (eqb j) (a.near r i) → a.close r i j ≡ true → Among ks (a.near r i)
      → If (Reaches a n r) (third_of a r blank_used i j ks)
  unfolding third_of is_third
  third_reaches i j [] p t d s c m = tt
  third_reaches i j (k ∷ ks) p t d s c m = if_case (Reaches a n r) (is_third a r blank_used i j k) (some (i, j, k)) (third_of a r blank_used i j ks)
      (λ h.
      let x = and_both {p = not (eqb i k)} h in
      let y = and_both {p = not (eqb j k)} x.1 in
      let z = and_both {p = unused blank_used k} y.1 in
      let v = and_both {p = a.close r i k} z.1 in
      let w = and_both {p = a.close r j k} v.1 in
      record {
        i = i;
        j = j;
        k = k;
        point = p;
        tried = t;
        differ = (d, differ i k x.0, differ j k y.0);
        second = s;
        third = among_head k ks
            (a.near r i) m;
        close_ij = c;
        close_ik = v.0;
        close_jk = w.0;
      })
      (λ h. third_reaches i j ks p t d s c (among_tail k ks (a.near r i) m))

  second_reaches : (i : ℕ) (js : List ℕ) → i < n → i < 1000 → Among js (a.near r i) → If (Reaches a n r) (second_of a r blank_used i (a.near r i) js)
  unfolding second_of is_second
  second_reaches i [] p t m = tt
  second_reaches i (j ∷ js) p t m =
      let near : List ℕ = a.near r i in
      let later = second_reaches i js p t (among_tail j js near m) in
      let x = second_of a r blank_used i near js in
      let o = third_of a r blank_used i j near in
      if_case (Reaches a n r) (is_second a r blank_used i j) (or_else o x) x
      (λ h.
      let y = and_both {p = not (eqb i j)} h in
      let z = and_both {p = unused blank_used j} y.1 in
      if_else (Reaches a n r) o x (third_reaches i j near p t (differ i j y.0) (among_head j js near m) z.1 (λ k q. q)) later)
      (λ h. later)

  first_reaches : (m k tries : ℕ) → k + m ≡ n → k + tries ≡ 1000 → If (Reaches a n r) (first_of a r blank_used (up_from k m) tries)
  unfolding first_of up_from
  first_reaches zero k tries e f = tt
  first_reaches (suc m) k zero e f = tt
  first_reaches (suc m) k (suc tries) e f =
      let near : List ℕ = a.near r k in
      let x = first_of a r blank_used (up_from (k + 1) m) tries in
      let o = second_of a r blank_used k near near in
      if_case (Reaches a n r) (unused blank_used k) (or_else o x) (first_of a r blank_used (up_from (k + 1) m) (suc tries))
      (λ h. if_else (Reaches a n r) o x (second_reaches k near (omega arith) (omega arith) (λ y q. q))
      (first_reaches m (k + 1) tries (omega arith) (omega arith)))
      (λ h. absurd (true_not_false (blank_unused n k) h))

  pub seed_reaches : (t : Triple) → first_of a r blank_used (up_from 0 n) 1000 ≡ some t → Reaches a n r
  seed_reaches t q = subst (If (Reaches a n r)) q (first_reaches n 0 1000 (omega arith) (omega arith))

-- ---- from the triple to a seed
some_case : (b : Bool) (x y : Option Triple) → (b ≡ true → is_some x ≡ true) → (b ≡ false → is_some y ≡ true) → is_some (whether b x y) ≡ true
some_case true x y h g = h refl
some_case false x y h g = g refl

some_else : (o x : Option Triple) → (is_some o ≡ true) ⊎ (is_some x ≡ true) → is_some (or_else o x) ≡ true
some_else none x h = ⊎_elim (λ (q : false ≡ true). absurd (true_not_false refl (sym q))) (λ (q : is_some x ≡ true). q) h
some_else (some t) x h = refl

-- k is the head, or in the tail
in_cons : (k x : ℕ) (xs : List ℕ) → 1 ≤ count (eqb k) (x ∷ xs) → (k ≢ x) → 1 ≤ count (eqb k) xs
in_cons k x xs h d = let z : bit (eqb k x) ≡ 0 = ap bit (ne_eqb k x d) in omega arith

module _ {R : Type 0} (a : Floats R) (n : ℕ) (r : R) where
  abbrev all : Floats R
  all = accept_all a

  abbrev none_used : List ℕ
  none_used = replicate n 0

  third_some : (i j k : ℕ) (ks : List ℕ) → is_third all r none_used i j k ≡ true → 1 ≤ count (eqb k) ks → is_some (third_of all r none_used i j ks) ≡ true
  unfolding third_of
  third_some i j k [] h m = absurd (omega arith)
  third_some i j k (x ∷ ks) h m = some_case (is_third all r none_used i j x) (some (i, j, x)) (third_of all r none_used i j ks)
      (λ t. refl)
      (λ t. third_some i j k ks h (in_cons k x ks m (λ q. true_not_false (subst (λ (y : ℕ). is_third all r none_used i j y ≡ true) q h) t)))

  second_some : (i j : ℕ) (ks js : List ℕ) → is_second all r none_used i j ≡ true → is_some (third_of all r none_used i j ks) ≡ true → 1 ≤ count (eqb j) js
      → is_some (second_of all r none_used i ks js) ≡ true
  unfolding second_of
  second_some i j ks [] h g m = absurd (omega arith)
  second_some i j ks (x ∷ js) h g m =
      let later = second_of all r none_used i ks js in
      let o = third_of all r none_used i x ks in
      ⊎_elim
      (λ (t : eqb j x ≡ true).
      let q = eqb-true j x t in
      some_case (is_second all r none_used i x) (or_else o later) later
      (λ u. some_else o later (inl (subst (λ (y : ℕ). is_some (third_of all r none_used i y ks) ≡ true) q g)))
      (λ u. absurd (true_not_false (subst (λ (y : ℕ). is_second all r none_used i y ≡ true) q h) u)))
      (λ (t : eqb j x ≡ false).
      let on = second_some i j ks js h g (in_cons j x js m (eqb-false j x t)) in
      some_case (is_second all r none_used i x) (or_else o later) later (λ u. some_else o later (inr on)) (λ u. on))
      (either (eqb j x))

  first_some : (i m k tries : ℕ) → k ≤ i → i < k + m → i < k + tries → is_some (second_of all r none_used i (all.near r i) (all.near r i)) ≡ true
      → is_some (first_of all r none_used (up_from k m) tries) ≡ true
  unfolding first_of up_from
  first_some i zero k tries a b c h = absurd (omega arith)
  first_some i (suc m) k zero a b c h = absurd (omega arith)
  first_some i (suc m) k (suc tries) a b c h =
      let x = first_of all r none_used (up_from (k + 1) m) tries in
      let o = second_of all r none_used k (all.near r k) (all.near r k) in
      some_case (unused none_used k) (or_else o x) (first_of all r none_used (up_from (k + 1) m) (suc tries))
      (λ u. some_else o x (⊎_elim
      (λ (t : eqb i k ≡ true). inl (subst (λ (y : ℕ). is_some (second_of all r none_used y (all.near r y) (all.near r y)) ≡ true) (eqb-true i k t) h))
      (λ (t : eqb i k ≡ false). inr (let d = eqb-false i k t in first_some i m (k + 1) tries (omega arith) (omega arith) (omega arith) h))
      (either (eqb i k))))
      (λ u. absurd (true_not_false (blank_unused n k) u))

  triple_reaches : Reaches a n r → reaches a n r ≡ true
  unfolding reaches accept_all is_second is_third
  triple_reaches t =
      let i = t.i in
      let j = t.j in
      let k = t.k in
      let third = both_true (not (eqb i k)) (not (eqb j k) && (unused none_used k && (a.close r i k && (a.close r j k && true)))) (differs i k t.differ.1)
      (both_true (not (eqb j k)) (unused none_used k && (a.close r i k && (a.close r j k && true))) (differs j k t.differ.2)
      (both_true (unused none_used k) (a.close r i k && (a.close r j k && true)) (blank_unused n k)
      (both_true (a.close r i k) (a.close r j k && true) t.close_ik (both_true (a.close r j k) true t.close_jk refl)))) in
      let second = both_true (not (eqb i j)) (unused none_used j && a.close r i j) (differs i j t.differ.0)
      (both_true (unused none_used j) (a.close r i j) (blank_unused n j) t.close_ij) in
      first_some i n 0 1000 (omega arith) (omega (arith, t.point)) (omega (arith, t.tried))
      (second_some i j (a.near r i) (a.near r i) second (third_some i j k (a.near r i) third t.third) t.second)

  same_triple : Reaches all n r → Reaches a n r
  unfolding accept_all
  same_triple t = record {
    i = t.i;
    j = t.j;
    k = t.k;
    point = t.point;
    tried = t.tried;
    differ = t.differ;
    second = t.second;
    third = t.third;
    close_ij = t.close_ij;
    close_ik = t.close_ik;
    close_jk = t.close_jk;
  }

  pub reaches_exactly : (reaches a n r ≡ true) ↔ Reaches a n r
  unfolding reaches
  reaches_exactly = ((λ h. same_triple (go (first_of all r none_used (up_from 0 n) 1000) refl h)), triple_reaches)
    where
      go : (o : Option Triple) → first_of all r none_used (up_from 0 n) 1000 ≡ o → is_some o ≡ true → Reaches all n r
      go none q h = absurd (true_not_false refl (sym h))
      go (some t) q h = seed_reaches all n r t q
