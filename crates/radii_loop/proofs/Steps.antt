-- The steps of `compute_adaptive_radii` that the definition has otherwise: where a sum starts, the sign of a
-- difference,
-- a percentile's place, and how many distances are taken. Assumes nothing.
use Prim.Native.Nat.{ℕ, zero, suc, ◌+◌, ◌-◌, ◌*◌, ◌<◌, min}
use native.Mathlib.Omega.{arith}
use native.Mathlib.Decide.{dec_lt}
use mathlib.Core.Path.{◌≡◌, refl, sym, ap, ap₂, ◌∙◌}
use mathlib.Core.Logic.{◌⊎◌, inl, inr}
use mathlib.Core.Bool.{Bool, true, false, cond}
use mathlib.Core.List.{List, [], ◌∷◌}
use lib.IntN.{ℤ}
use lib.Dec.{T, eqb, ltb, eqb-suc-zero}
use lib.ListN.{length, take}
use lib.Seq.{take_all, take-length}
use lib.Ieee.{Float, nan, inf, fin, binary32, up, down, below, round, neg, sum, add, lt, le, of_bits}
use lib.Ieee.Scale.{finite}
use borrow.Author.Tests.{lt-ltb, le-ltb}
use Rattle.numbers.specs.Rounded.{f32, ◌⊕◌, ◌⊖◌}
use Rattle.numbers.proofs.RoundedOrder.{nonnegative_minus}
use Rattle.numbers.proofs.SumOrder.{sub_nonnegative}
use Rattle.sorting.specs.Each.{All}
use Rattle.sorting.specs.Inner.Rising.{Rising}
use Rattle.radii.specs.Radii.{total, spaced, dedup}
use Rattle.radii_loop.specs.ComputeAdaptiveRadii.{absolute, spaced_by, dedup_by}
use Rattle.numbers.specs.Inner.Bounds.{unsigned}

-- ---- where a sum starts
start_sum : (b c : ℕ) → sum binary32 true 0 false b c ≡ sum binary32 false 0 false b c
unfolding sum
start_sum zero c = refl
start_sum (suc b) c =
    let e : suc b - 0 ≡ 0 + suc b = omega arith in
    rw (lt-ltb 0 (suc b) (omega arith)) (ap (λ (k : ℕ). round binary32 false k c) e)

start_zero : (x : Float) → T (unsigned x) → neg (f32 0) ⊕ x ≡ f32 0 ⊕ x
unfolding add neg of_bits
start_zero nan u = absurd u
start_zero (inf s) u = refl
start_zero (fin true m e) u = absurd u
start_zero (fin false m e) u =
    let z : 0 * 1 * down e ≡ 0 = omega arith in
    ap (λ (a : ℕ). sum binary32 true a false (m * up e * 1) (1 * down e)) z
    ∙ start_sum (m * up e * 1) (1 * down e)
    ∙ sym (ap (λ (a : ℕ). sum binary32 false a false (m * up e * 1) (1 * down e)) z)

pub total_start : (start : Float) → (start ≡ f32 0) ⊎ (start ≡ neg (f32 0)) → (x : Float) (xs : List Float)
    → T (unsigned x)
    → total start (x ∷ xs) ≡ total (f32 0) (x ∷ xs)
unfolding total
total_start start (inl e) x xs u = ap (λ (s : Float). total (s ⊕ x) xs) e
total_start start (inr e) x xs u =
    ap (λ (s : Float). total (s ⊕ x) xs) e ∙ ap (λ (s : Float). total s xs) (start_zero x u)

-- ---- the sign of a difference that is not below 0
below_plus : (a : ℕ) (t : Bool) (b : ℕ) → a ≡ 0 → below false a t b ≡ below true a t b
below_plus a true b z = sym (le-ltb b a (omega arith))
below_plus a false b z = let e : b ≡ 0 + b = omega arith in rw z (ap (ltb 0) e)

lt_plus : (m : ℕ) (e : ℤ) (t : Float) → m * up e ≡ 0 → lt (fin false m e) t ≡ lt (fin true m e) t
unfolding lt
lt_plus m e nan z = refl
lt_plus m e (inf u) z = refl
lt_plus m e (fin u n d) z =
    let y : 0 * down d ≡ 0 = omega arith in
    below_plus (m * up e * down d) u (n * up d * down e) (ap (λ (k : ℕ). k * down d) z ∙ y)

absolute_lt : (y t : Float) → T (le (f32 0) y) → lt (absolute y) t ≡ lt y t
absolute_lt nan t h = absurd (unfold le of_bits in h)
absolute_lt (inf true) t h = absurd (unfold le of_bits in h)
absolute_lt (inf false) t h = refl
absolute_lt (fin false m e) t h = refl
absolute_lt (fin true m e) t h = lt_plus m e t (nonnegative_minus (fin true m e) tt h)

pub spaced_same : (b : Float) (xs : List Float) → T (finite b) → All (λ (x : Float). T (finite x)) xs
    → All (λ (x : Float). T (le b x)) xs → Rising xs → spaced_by b xs ≡ spaced b xs
unfolding spaced_by spaced
spaced_same b [] f fs l r = refl
spaced_same b (a ∷ xs) f fs l r =
    ap (λ (t : Bool). cond t (spaced_by b xs) (a ∷ spaced_by a xs))
    (absolute_lt (a ⊖ b) (f32 0x358637bd) (sub_nonnegative a b fs.0 f l.0))
    ∙ ap₂ (λ (u v : List Float). cond (lt (a ⊖ b) (f32 0x358637bd)) u (a ∷ v))
    (spaced_same b xs f fs.1 l.1 r.1) (spaced_same a xs fs.0 fs.1 r.0 r.1)

pub dedup_same : (xs : List Float) → All (λ (x : Float). T (finite x)) xs → Rising xs → dedup_by xs ≡ dedup xs
unfolding dedup_by dedup
dedup_same [] fs r = refl
dedup_same (x ∷ xs) fs r = ap (λ (l : List Float). x ∷ l) (spaced_same x xs fs.0 fs.1 r.0 r.1)

-- ---- as many as there are, at most k
pub take_min : (k : ℕ) (xs : List Float) → take (min k (length xs)) xs ≡ take k xs
take_min k xs = go (dec_lt k (length xs))
  where
    go : Dec (k < length xs) → take (min k (length xs)) xs ≡ take k xs
    go (yes l) = let e : min k (length xs) ≡ k = omega arith in ap (λ (j : ℕ). take j xs) e
    go (no l) =
        let e : min k (length xs) ≡ length xs = omega arith in
        ap (λ (j : ℕ). take j xs) e ∙ take-length xs ∙ sym (take_all k xs (omega arith))

-- a test for more than none, turned
pub some_none : (k : ℕ) (x y : List Float) → cond (ltb 0 k) x y ≡ cond (eqb k 0) y x
some_none zero x y = refl
some_none (suc k) x y = rw (lt-ltb 0 (suc k) (omega arith), eqb-suc-zero k) refl
