-- Lists put into a slice one after the other, and two fronts compared. Assumes nothing.
use mathlib.Core.Path.{◌≡◌, refl, sym, ap, ◌∙◌, subst}
use mathlib.Core.Bool.{Bool, true, false, ◌&&◌}
use mathlib.Core.List.{List, [], ◌∷◌, ◌++◌, append_assoc, append-nil, map}
use Prim.Native.Nat.{ℕ, zero, suc, ◌+◌, ◌≤◌, ◌<◌}
use native.Mathlib.Omega.{arith}
use borrow.Author.Tests.{ne_eqb, eqb-true}
use lib.Dec.{eqb}
use lib.Ieee.{Float, nan, binary32, to_bits}
use lib.ListN.{length, take, drop, set, get_or, length-append, length-drop, length-map, take-append-drop}
use lib.ListN.{drop_of_length-le}
use lib.Seq.{length-take-le, take_all, take_at, drop_at, set_split, drop-drop, take-suc}
use Rattle.std.specs.Cmp.Lexicographic.{pointwise}
use Rattle.lists.specs.Lists.{up_from, bit, count}
use Rattle.axis_sort.specs.Inner.Small.{Small}
use Rattle.axis_sort.proofs.Floats.{map-append}
use Rattle.kd_tree.specs.Tree.{same_numbers}
use Rattle.filling.specs.Inner.Put.{PutList}

-- ---- one list after the other
pub put_size : {b c : List ℕ} {at : ℕ} {xs : List ℕ} → PutList b c at xs → at + length xs ≤ length b → length c ≡ length b
put_size {b} {c} {at} {xs} p h =
    ap length p.is ∙ length-append (take at b) _ ∙ rw
    (length-take-le at b (omega arith), length-append xs (drop (at + length xs) b), length-drop (at + length xs) b) (omega arith)

pub put_one : (b : List ℕ) (at v : ℕ) → at < length b → PutList b (set b at v) at (v ∷ [])
put_one b at v h = record { is = let e : suc at ≡ at + 1 = omega arith in set_split b at v h ∙ ap (λ (n : ℕ). take at b ++ (v ∷ drop n b)) e }

-- what was put stands in front
front : {b c : List ℕ} {at : ℕ} {xs : List ℕ} → PutList b c at xs → at + length xs ≤ length b → (take (at + length xs) c ≡ take at b ++ xs)
    × (drop (at + length xs) c ≡ drop (at + length xs) b)
front {b} {c} {at} {xs} p h =
    let e : c ≡ (take at b ++ xs) ++ drop (at + length xs) b = p.is ∙ sym (append_assoc (take at b) xs (drop (at + length xs) b)) in
    let n : length (take at b ++ xs) ≡ at + length xs = length-append (take at b) xs ∙ ap (λ (k : ℕ). k + length xs) (length-take-le at b (omega arith)) in (
      ap (take (at + length xs)) e ∙ take_at (take at b ++ xs) (drop (at + length xs) b) (at + length xs) n,
      ap (drop (at + length xs)) e ∙ drop_at
          (take at b ++ xs) (drop (at + length xs) b) (at + length xs) n,
    )

pub put_both : {b c d : List ℕ} {at : ℕ} {xs ys : List ℕ} → PutList b c at xs → PutList c d (at + length xs) ys → at + length xs ≤ length b
    → PutList b d at (xs ++ ys)
put_both {b} {c} {d} {at} {xs} {ys} p q h = record {
  is =
      let f = front p h in
      let n : length ys + (at + length xs) ≡ at + length (xs ++ ys) = sym (ap (λ (k : ℕ). at + k) (length-append xs ys) ∙ omega arith) in
      let e : drop (at + length xs + length ys) c ≡ drop (at + length (xs ++ ys)) b =
      sym (drop-drop (length ys) (at + length xs) c) ∙ ap (drop (length ys)) f.1 ∙ drop-drop (length ys) (at + length xs) b ∙ ap (λ (k : ℕ). drop k b)
      (omega_sum at (length xs) (length ys) ∙ n) in
      q.is ∙ ap (λ (z : List ℕ). z ++ (ys ++ drop (at + length xs + length ys) c)) f.0 ∙ ap (λ (z : List ℕ). (take at b ++ xs) ++ (ys ++ z)) e
      ∙ append_assoc (take at b) xs (ys ++ drop (at + length (xs ++ ys)) b) ∙ ap (λ (z : List ℕ). take at b ++ z)
      (sym (append_assoc xs ys (drop (at + length (xs ++ ys)) b)));
}
  where
    omega_sum : (a x y : ℕ) → a + x + y ≡ y + (a + x)
    omega_sum a x y = omega arith

pub put_none : (b : List ℕ) (at : ℕ) → PutList b b at []
put_none b at = record { is = let e : at + 0 ≡ at = omega arith in sym (ap (λ (n : ℕ). take at b ++ drop n b) e ∙ take-append-drop at b) }

-- one number more
pub put_next : {b c : List ℕ} {at : ℕ} {xs : List ℕ} (k v : ℕ) → PutList b c at xs → k ≡ at + length xs → k < length b
    → PutList b (set c k v) at (xs ++ (v ∷ []))
put_next {b} {c} {at} {xs} k v p e h =
    let l : length c ≡ length b = put_size p (omega arith) in
    let q : PutList c (set c k v) (at + length xs) (v ∷ []) = subst (λ (n : ℕ). PutList c (set c k v) n (v ∷ [])) e (put_one c k v (omega arith)) in
    put_both p q (omega arith)

-- ---- numbers from 0 on
pub up_length : (i m : ℕ) → length (up_from i m) ≡ m
unfolding up_from
up_length i zero = refl
up_length i (suc m) = ap suc (up_length (i + 1) m)

up_more : (i m : ℕ) → up_from i m ++ ((i + m) ∷ []) ≡ up_from i (suc m)
unfolding up_from
up_more i zero = let e : i + 0 ≡ i = omega arith in ap (λ (n : ℕ). n ∷ []) e
up_more i (suc m) =
    let e : i + suc m ≡ i + 1 + m = omega arith in ap (λ (n : ℕ). i ∷ (up_from (i + 1) m ++ (n ∷ []))) e ∙ ap (λ (z : List ℕ). i ∷ z) (up_more (i + 1) m)

pub up_small : (i m : ℕ) → i + m ≤ 4096 → Small (up_from i m)
unfolding up_from
up_small i zero h = tt
up_small i (suc m) h = (omega arith, up_small (i + 1) m (omega arith))

up_above : (v i m : ℕ) → v < i → count (eqb v) (up_from i m) ≡ 0
unfolding up_from
up_above v i zero h = refl
up_above v i (suc m) h = let e : eqb v i ≡ false = ne_eqb v i (λ q. omega arith) in rw e (omega (arith, up_above v (i + 1) m (omega arith)))

-- each of them once
pub up_once : (v i m : ℕ) → count (eqb v) (up_from i m) ≤ 1
unfolding up_from
up_once v i zero = omega arith
up_once v i (suc m) = go (eqb v i) refl (up_once v (i + 1) m)
  where
    go : (b : Bool) → eqb v i ≡ b → count (eqb v) (up_from (i + 1) m) ≤ 1 → bit (eqb v i) + count (eqb v) (up_from (i + 1) m) ≤ 1
    go true e h = let s : v ≡ i = eqb-true v i e in let z = up_above v (i + 1) m (omega arith) in rw e (omega arith)
    go false e h = rw e (omega arith)

pub record Numbered (o₀ o : List ℕ) (i : ℕ) : Type 0 where
  pub most : i ≤ length o₀
  pub put : PutList o₀ o 0 (up_from 0 i)

pub numbered_start : (o : List ℕ) → Numbered o o 0
unfolding up_from
numbered_start o = record { most = omega arith; put = put_none o 0 }

pub numbered_size : {o₀ o : List ℕ} {i : ℕ} → Numbered o₀ o i → length o ≡ length o₀
numbered_size {o₀} {o} {i} n = put_size n.put (omega (arith, up_length 0 i, n.most))

pub numbered_step : {o₀ o : List ℕ} {i : ℕ} → Numbered o₀ o i → i < length o → Numbered o₀ (set o i i) (i + 1)
numbered_step {o₀} {o} {i} n h =
    let l = numbered_size n in
    let e : suc i ≡ i + 1 = omega arith in
    let z : i ≡ 0 + i = omega arith in
    record {
      most = omega arith;
      put = subst (λ (z : List ℕ). PutList o₀ (set o i i) 0 z)
          (ap (λ (k : ℕ). up_from 0 i ++ (k ∷ [])) z ∙ up_more 0 i ∙ ap (up_from 0) e) (put_next i i n.put (omega (arith, up_length 0 i)) (omega arith));
    }

pub numbered_end : {o₀ o : List ℕ} {i : ℕ} → Numbered o₀ o i → length o ≤ i → o ≡ up_from 0 (length o₀)
numbered_end {o₀} {o} {i} n h =
    let l = numbered_size n in
    let e : i ≡ length o₀ = omega (arith, n.most) in
    let z : 0 + length (up_from 0 i) ≡ length (up_from 0 i) = omega arith in
    n.put.is ∙ ap (λ (k : ℕ). up_from 0 i ++ drop k o₀) z ∙ ap (λ (z : List ℕ). up_from 0 i ++ z)
    (drop_of_length-le o₀ {i = length (up_from 0 i)} (omega (arith, up_length 0 i))) ∙ append-nil (up_from 0 i) ∙ ap (up_from 0) e

-- ---- bits of floats
pub record Bitten (fs : List Float) (w₀ w : List ℕ) (at i : ℕ) : Type 0 where
  pub most : i ≤ length fs
  pub put : PutList w₀ w at (map (to_bits binary32) (take i fs))

bits_length : (fs : List Float) (i : ℕ) → i ≤ length fs → length (map (to_bits binary32) (take i fs)) ≡ i
bits_length fs i h = length-map (take i fs) (to_bits binary32) ∙ length-take-le i fs h

pub bits_start : (fs : List Float) (w : List ℕ) (at : ℕ) → Bitten fs w w at 0
bits_start fs w at = record { most = omega arith; put = put_none w at }

pub bits_size : {fs : List Float} {w₀ w : List ℕ} {at i : ℕ} → Bitten fs w₀ w at i → at + length fs ≤ length w₀ → length w ≡ length w₀
bits_size {fs} {w₀} {w} {at} {i} b h = put_size b.put (omega (arith, bits_length fs i b.most, b.most))

pub bits_step : {fs : List Float} {w₀ w : List ℕ} {at i v : ℕ} → Bitten fs w₀ w at i → at + length fs ≤ length w₀ → i < length fs → v
    ≡ to_bits binary32 (get_or fs i nan) → Bitten fs w₀ (set w (at + i) v) at (i + 1)
bits_step {fs} {w₀} {w} {at} {i} {v} b h l ev =
    let e : suc i ≡ i + 1 = omega arith in
    let n = bits_length fs i b.most in
    let s : map (to_bits binary32) (take i fs) ++ (v ∷ []) ≡ map (to_bits binary32) (take (i + 1) fs) =
    ap (λ (k : ℕ). map (to_bits binary32) (take i fs) ++ (k ∷ [])) ev ∙ sym (map-append (to_bits binary32) (take i fs) (get_or fs i nan ∷ []))
    ∙ ap (map (to_bits binary32)) (sym (take-suc fs i nan l)) ∙ ap (λ (k : ℕ). map (to_bits binary32) (take k fs)) e in
    record { most = omega arith; put = subst (λ (z : List ℕ). PutList w₀ (set w (at + i) v) at z) s (put_next (at + i) v b.put (omega arith) (omega arith)) }

pub bits_end : {fs : List Float} {w₀ w : List ℕ} {at i : ℕ} → Bitten fs w₀ w at i → length fs ≤ i → PutList w₀ w at (map (to_bits binary32) fs)
bits_end {fs} {w₀} {w} {at} {i} b h = subst (λ (z : List Float). PutList w₀ w at (map (to_bits binary32) z)) (take_all i fs h) b.put

-- ---- two lists compared as `==` does
pub same_pointwise : (xs ys : List ℕ) → pointwise eqb xs ys ≡ same_numbers xs ys
unfolding same_numbers
same_pointwise [] [] = refl
same_pointwise [] (y ∷ ys) = refl
same_pointwise (x ∷ xs) [] = refl
same_pointwise (x ∷ xs) (y ∷ ys) = ap (λ (b : Bool). eqb x y && b) (same_pointwise xs ys)
