-- Neighbours by cells and close points at one radius are so at every larger one. Assumes nothing.
use Prim.Native.Nat.{ℕ, zero, suc, ◌+◌, ◌*◌, ◌/◌, ◌%◌, ◌≤◌, ◌<◌, min}
use native.Mathlib.Nat.{mul-one, mul-div_cancel, div-add-mod', mod-lt, mul-le-mul_right, le_of_mul-le-mul_right}
use mathlib.Core.Path.{◌≡◌, refl, sym, ap, ◌∙◌, subst}
use mathlib.Core.Logic.{⊎_elim}
use mathlib.Core.Bool.{Bool, true, false, cond, ◌&&◌}
use mathlib.Core.List.{List, [], ◌∷◌}
use native.Mathlib.Omega.{arith}
use lib.IntN.{ℤ}
use lib.Dec.{T, eqb, ltb, leb}
use borrow.Author.Tests.{leb-true, leb-false, le-leb, ltb-true, ltb-false}
use lib.Ieee.{Float, nan, inf, fin, lt, le, eq, up, down, odd, to_unsigned}
use lib.Ieee.Fits.{down_pos}
use lib.Ieee.Exact.{HasValue, odd_sign}
use lib.Ieee.Positive.{positive}
use Rattle.numbers.specs.Rounded.{◌⊘◌}
use Rattle.numbers.specs.Cut.{cut, ceil}
use Rattle.numbers.proofs.OrderLaws.{le→side, top_le}
use Rattle.numbers.proofs.QuotientOrder.{div_monotone}
use Rattle.points.specs.Points.{point_at}
use Rattle.vector.specs.declared.Point3f.{Point3f}
use Rattle.grid.specs.Grid.{cell_of, within_range, in_range, range_of, keep, by_cell, neighbors}
use Rattle.grid.specs.declared.SpatialGrid.{SpatialGrid}
use Rattle.grid.specs.declared.Cell.{Cell}
use Rattle.lists.specs.Lists.{count}
use Rattle.lists.proofs.Bools.{either, and_both}
use Rattle.decisions.specs.Decisions.{reach, around, floats_of}
use Rattle.decisions.specs.declared.Scene.{Scene}
use Rattle.decisions.proofs.Growth.{double_monotone, close_more}
use Rattle.reaching.specs.Triple.{Grows}

clash : {A : Type 0} → true ≡ false → A
clash e = absurd (subst T e tt)

-- ---- `ceil` and then the cut
cut_value : (y : Float) (n : ℕ) → HasValue y false n 1 → cut y ≡ min n 4294967295
unfolding to_unsigned
cut_value nan n v = absurd v
cut_value (inf s) n v = absurd v
cut_value (fin true m e) n v = clash v.0
cut_value (fin false m e) n v =
    let q : m * up e ≡ n * down e = sym (mul-one (m * up e)) ∙ v.1 in
    let d : m * up e / down e ≡ n = ap (λ (a : ℕ). a / down e) q ∙ mul-div_cancel n (down_pos e) in
    ap (λ (a : ℕ). min a 4294967295) d

cut_whole : (n : ℕ) → cut (odd 128 false n 0 0) ≡ min n 4294967295
cut_whole n = cut_value (odd 128 false n 0 0) n (subst (λ (a : ℕ). HasValue (odd 128 false n 0 0) false a 1) (mul-one n) (odd_sign 128 false n 0 0))

cut_negative : (n : ℕ) → cut (odd 128 true n 0 0) ≡ 0
unfolding odd to_unsigned
cut_negative zero = refl
cut_negative (suc n) = refl

-- the quotient, rounded up
abbrev upward : ℕ → ℕ → ℕ
upward a b = cond (ltb 0 (a % b)) (a / b + 1) (a / b)

ceil_cut : (m : ℕ) (e : ℤ) → cut (ceil (fin false m e)) ≡ min (upward (m * up e) (down e)) 4294967295
unfolding ceil
ceil_cut m e = cut_whole (upward (m * up e) (down e))

-- it is enough, and no less is
upward_enough : (a b : ℕ) → 0 < b → a ≤ upward a b * b
upward_enough a b p = go (ltb 0 (a % b)) refl
  where
    go : (t : Bool) → ltb 0 (a % b) ≡ t → a ≤ cond t (a / b + 1) (a / b) * b
    go true h = let e = div-add-mod' a b in let l : a % b < b = mod-lt a p in omega arith
    go false h = let e = div-add-mod' a b in let z = ltb-false 0 (a % b) h in omega arith

upward_least : (a b n : ℕ) → 0 < b → a ≤ n * b → upward a b ≤ n
upward_least a b n p h = go (ltb 0 (a % b)) refl
  where
    go : (t : Bool) → ltb 0 (a % b) ≡ t → cond t (a / b + 1) (a / b) ≤ n
    go true k = ⊎_elim
        (λ (l : leb (a / b + 1) n ≡ true). leb-true (a / b + 1) n l)
        (λ (l : leb (a / b + 1) n ≡ false). let e = div-add-mod' a b in let z = ltb-true 0 (a % b) k in let w : n ≤ a / b = omega
        (arith, leb-false (a / b + 1) n l) in let v = mul-le-mul_right b w in absurd (omega arith))
        (either (leb (a / b + 1) n))
    go false k = ⊎_elim
        (λ (l : leb (a / b) n ≡ true). leb-true (a / b) n l)
        (λ (l : leb (a / b) n ≡ false). let e = div-add-mod' a b in let w : n
        + 1 ≤ a / b = omega (arith, leb-false (a / b) n l) in let v : (n + 1) * b ≤ a / b * b = mul-le-mul_right b w in absurd (omega arith))
        (either (leb (a / b) n))

upward_monotone : (a b c d : ℕ) → 0 < b → 0 < d → a * d ≤ c * b → upward a b ≤ upward c d
upward_monotone a b c d p q h =
    let n = upward c d in
    let l : c * b ≤ n * d * b = mul-le-mul_right b (upward_enough c d q) in
    let k : a * d ≤ n * b * d = omega arith in
    upward_least a b n p (le_of_mul-le-mul_right k q)

pub ceil_monotone : (x y : Float) → T (le x y) → cut (ceil x) ≤ cut (ceil y)
unfolding le lt eq ceil to_unsigned
ceil_monotone nan y h = absurd h
ceil_monotone (inf true) y h = omega arith
ceil_monotone (inf false) y h = let e : y ≡ inf false = top_le y h in subst (λ (z : Float). cut (ceil (inf false)) ≤ cut (ceil z)) (sym e) (omega arith)
ceil_monotone (fin true m e) y h = let z = cut_negative (m * up e / down e) in omega arith
ceil_monotone (fin false m e) nan h = absurd h
ceil_monotone (fin false m e) (inf true) h = absurd h
ceil_monotone (fin false m e) (inf false) h = let z = ceil_cut m e in omega arith
ceil_monotone (fin false m e) (fin true n d) h =
    let k : m * up e * down d ≤ 0 * down d = omega (arith, le→side (fin false m e) (fin true n d) tt tt h) in
    let l : m * up e ≤ 0 * down e = omega (arith, le_of_mul-le-mul_right k (down_pos d)) in
    let u = upward_least (m * up e) (down e) 0 (down_pos e) l in
    let z = ceil_cut m e in
    omega arith
ceil_monotone (fin false m e) (fin false n d) h =
    let u = upward_monotone (m * up e) (down e) (n * up d) (down d) (down_pos e) (down_pos d)
    (omega (arith, le→side (fin false m e) (fin false n d) tt tt h)) in
    let a = ceil_cut m e in
    let b = ceil_cut n d in
    omega arith

-- ---- cells
leb_more : (x y a b : ℕ) → a ≤ b → leb x (y + a) ≡ true → leb x (y + b) ≡ true
leb_more x y a b h t = let l = leb-true x (y + a) t in le-leb x (y + b) (omega arith)

both_more : (p q r s : Bool) → (p ≡ true → r ≡ true) → (q ≡ true → s ≡ true) → (p && q) ≡ true → (r && s) ≡ true
both_more p q r s f g h = let k = and_both {p = p} {q = q} h in go r s (f k.0) (g k.1)
  where
    go : (r s : Bool) → r ≡ true → s ≡ true → (r && s) ≡ true
    go true s h k = k
    go false s h k = h

module _ (a b : ℕ) (more : a ≤ b) where
  within_more : (x y : ℕ) → within_range a x y ≡ true → within_range b x y ≡ true
  unfolding within_range
  within_more x y h = both_more (leb x (y + a)) (leb y (x + a)) (leb x (y + b)) (leb y (x + b)) (leb_more x y a b more) (leb_more y x a b more) h

  range_more : (c d : Cell) → in_range a c d ≡ true → in_range b c d ≡ true
  unfolding in_range
  range_more c d h =
      both_more (within_range a c.x d.x) (within_range a c.y d.y && within_range a c.z d.z) (within_range b c.x d.x)
      (within_range b c.y d.y && within_range b c.z d.z) (within_more c.x d.x)
      (both_more (within_range a c.y d.y) (within_range a c.z d.z) (within_range b c.y d.y) (within_range b c.z d.z)
      (within_more c.y d.y) (within_more c.z d.z))
      h

  keep_more : (g : SpatialGrid) (pts : List Float) (c : Cell) (k : ℕ) (js : List ℕ) → count (eqb k) (keep g pts a c js) ≤ count (eqb k) (keep g pts b c js)
  unfolding keep
  keep_more g pts c k [] = omega arith
  keep_more g pts c k (j ∷ js) = go (in_range a c (cell_of g (point_at pts j))) (in_range b c (cell_of g (point_at pts j))) (range_more c (cell_of g (point_at pts j)))
      (keep_more g pts c k js)
    where
      go : (s t : Bool) → (s ≡ true → t ≡ true) → count (eqb k) (keep g pts a c js) ≤ count (eqb k) (keep g pts b c js)
          → count (eqb k) (cond s (j ∷ keep g pts a c js) (keep g pts a c js)) ≤ count (eqb k) (cond t (j ∷ keep g pts b c js) (keep g pts b c js))
      go true true f ih = omega arith
      go true false f ih = clash (sym (f refl))
      go false true f ih = omega arith
      go false false f ih = ih

-- ---- the searches' floats
neighbors_more : (indexed : Bool) (g : SpatialGrid) (pts : List Float) (n : ℕ) (p : Point3f) (r s : Float) → T (positive g.cell_size) → T (le r s)
    → (k : ℕ)
    → count (eqb k) (neighbors indexed g pts n p r) ≤ count (eqb k) (neighbors indexed g pts n p s)
unfolding neighbors range_of
neighbors_more false g pts n p r s c h k = omega arith
neighbors_more true g pts n p r s c h k =
    keep_more (cut (ceil (r ⊘ g.cell_size))) (cut (ceil (s ⊘ g.cell_size)))
    (ceil_monotone (r ⊘ g.cell_size) (s ⊘ g.cell_size) (div_monotone r s g.cell_size c h)) g pts (cell_of g p) k (by_cell g pts n)

pub floats_grow : (s : Scene) (pts : List Float) → T (positive s.grid.cell_size) → (r t : Float) → T (le r t) → Grows (floats_of s pts) r t
unfolding floats_of around
floats_grow s pts c r t h = record {
  near = λ i j m. let l = neighbors_more s.indexed s.grid pts s.n (point_at pts i) (reach r) (reach t) c (double_monotone r t h) j in omega arith;
  close = λ i j. close_more pts r t h i j;
}
