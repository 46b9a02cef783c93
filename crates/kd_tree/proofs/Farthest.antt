-- The least and the greatest coordinate of a list of points: none is farther, and whoever is as far stands in the box,
-- minus zero made zero. Assumes nothing.
use mathlib.Core.Path.{◌≡◌, refl, sym, ◌∙◌, subst, subst⁻¹}
use mathlib.Core.Bool.{Bool, true, false, cond, not, ◌||◌}
use mathlib.Core.List.{List, [], ◌∷◌}
use Prim.Native.Nat.{ℕ, ◌*◌, ◌<◌}
use lib.IntN.{ℤ}
use native.Mathlib.Omega.{arith}
use lib.Dec.{T, eqb}
use lib.Ieee.{Float, nan, inf, fin, binary32, lt, eq, le, level, is_nan, up, down, fits, of_bits}
use lib.Ieee.Fits.{and_i, and_l, and_r, eq→eqb, down_pos}
use lib.Ieee.Scale.{finite}
use lib.ListN.{length, get_or}
use borrow.Author.Tests.{eqb-true}
use Rattle.lists.specs.Members.{In}
use Rattle.lists.proofs.Members.{in_head, in_at, in_cases}
use Rattle.numbers.specs.Rounded.{f32}
use Rattle.numbers.proofs.OrderLaws.{finite_number, lt_le, le_refl, le_trans, le_not_lt, not_lt_le, unsigned_le, positive_unsigned, value_unique}
use Rattle.numbers.proofs.OrderLaws.{le_antisymmetric}
use Rattle.axis_sort.specs.Axis.{coordinate_of}
use Rattle.kd_tree.specs.Boxes.{lesser_coordinate, greater_coordinate, lowest_key, highest, plus_zero, least_on_axis, greatest_on_axis}

not_T : (b : Bool) → b ≡ false → T (not b)
not_T true e = absurd (let z : ◌≡◌ {A = ℕ} 0 1 = cc in omega arith)
not_T false e = tt

-- an f32 that is a number
pub record Number (x : Float) : Type 0 where
  pub is_finite : T (finite x)
  pub is_f32 : T (fits binary32 x)

-- ---- the farthest one way: R x y says that x is no less far than y
pub record Farthest (key : ℕ → Float) (R : Float → Float → Type 0) (xs : List ℕ) (b r : Float) : Type 0 where
  pub number : Number r
  pub start : R r b
  pub all : (v : ℕ) → In v xs → R r (key v)

module _ (key : ℕ → Float) (one : Float → Float → Float) (walk : List ℕ → Float → Float)
    (none : (b : Float) → walk [] b ≡ b) (more : (x : ℕ) (xs : List ℕ) (b : Float) → walk (x ∷ xs) b ≡ walk xs (one (key x) b)) where
  farthest : (R : Float → Float → Type 0) → ((x : Float) → Number x → R x x) → ((x y z : Float) → R x y → R y z → R x z)
      → ((x b : Float) → Number x → Number b → Number (one x b) × R (one x b) x × R (one x b) b)
      → (xs : List ℕ) (b : Float) → ((v : ℕ) → In v xs → Number (key v)) → Number b → Farthest key R xs b (walk xs b)
  farthest R itself chain picks [] b good f = subst⁻¹ (Farthest key R [] b) (none b)
      (record { number = f; start = itself b f; all = λ v i. absurd (omega (arith, i)) })
  farthest R itself chain picks (x ∷ xs) b good f =
      let c = one (key x) b in
      let p = picks (key x) b (good x (in_head x xs)) f in
      let w = farthest R itself chain picks xs c (λ v i. good v (omega (arith, i))) p.0 in
      subst⁻¹ (Farthest key R (x ∷ xs) b) (more x xs b) (record {
        number = w.number;
        start = chain (walk xs c) c b w.start p.2;
        all = in_cases (λ (v : ℕ). R (walk xs c) (key v)) x xs (chain (walk xs c) c (key x) w.start p.1) w.all;
      })

  -- it is one of them
  among : (Q : Float → Type 0) → ((x b : Float) → Q x → Q b → Q (one x b)) → (xs : List ℕ) (b : Float) → Q b → ((v : ℕ) → In v xs → Q (key v)) → Q (walk xs b)
  among Q pick [] b q all = subst⁻¹ Q (none b) q
  among Q pick (x ∷ xs) b q all = subst⁻¹ Q (more x xs b)
      (among Q pick xs (one (key x) b) (pick (key x) b (all x (in_head x xs)) q) (λ v i. all v (omega (arith, i))))

-- ---- the lesser and the greater
chosen : (Q : Float → Type 0) (t : Bool) (x b : Float) → Q x → Q b → Q (cond t x b)
chosen Q true x b p q = p
chosen Q false x b p q = q

lesser_cases : (x b : Float) (t : Bool) → lt x b ≡ t → Number x → Number b → Number (cond t x b) × T (le (cond t x b) x) × T (le (cond t x b) b)
lesser_cases x b true e f g = (f, le_refl x (finite_number x f.is_finite), lt_le x b (subst⁻¹ T e tt))
lesser_cases x b false e f g =
    (g, not_lt_le x b (finite_number x f.is_finite) (finite_number b g.is_finite) (not_T _ e), le_refl b (finite_number b g.is_finite))

greater_cases : (x b : Float) (t : Bool) → lt b x ≡ t → Number x → Number b → Number (cond t x b) × T (le x (cond t x b)) × T (le b (cond t x b))
greater_cases x b true e f g = (f, le_refl x (finite_number x f.is_finite), lt_le b x (subst⁻¹ T e tt))
greater_cases x b false e f g =
    (g, not_lt_le b x (finite_number b g.is_finite) (finite_number x f.is_finite) (not_T _ e), le_refl b (finite_number b g.is_finite))

-- ---- minus zero as zero
true_of : (b : Bool) → T b → b ≡ true
true_of true h = refl
true_of false h = absurd h

equal_of : (a b : ℕ) → T (eqb a b) → a ≡ b
equal_of a b h = eqb-true a b (true_of (eqb a b) h)

level_turned : (s t : Bool) (a b : ℕ) → T (level s a t b) → T (level t b s a)
level_turned false false a b h = let e : a ≡ b = equal_of a b (and_l (eqb a b) true h) in and_i (eqb b a) true (eq→eqb (sym e)) tt
level_turned true true a b h = let e : a ≡ b = equal_of a b (and_l (eqb a b) true h) in and_i (eqb b a) true (eq→eqb (sym e)) tt
level_turned false true a b h =
    let e : a ≡ b = equal_of a b (and_l (eqb a b) (eqb a 0) h) in let z : a
    ≡ 0 = equal_of a 0 (and_r (eqb a b) (eqb a 0) h) in and_i (eqb b a) (eqb b 0) (eq→eqb (sym e)) (eq→eqb (sym e ∙ z))
level_turned true false a b h =
    let e : a ≡ b = equal_of a b (and_l (eqb a b) (eqb a 0) h) in let z : a
    ≡ 0 = equal_of a 0 (and_r (eqb a b) (eqb a 0) h) in and_i (eqb b a) (eqb b 0) (eq→eqb (sym e)) (eq→eqb (sym e ∙ z))

pub eq_turned : (x y : Float) → T (finite x) → T (finite y) → T (eq x y) → T (eq y x)
unfolding eq
eq_turned nan y f g h = absurd f
eq_turned (inf s) y f g h = absurd f
eq_turned (fin s m e) nan f g h = absurd g
eq_turned (fin s m e) (inf t) f g h = absurd g
eq_turned (fin s m e) (fin t n d) f g h = level_turned s t (m * up e * down d) (n * up d * down e) h

or_r : (a b : Bool) → T b → T (a || b)
or_r true b t = tt
or_r false b t = t

pub eq_le : (x y : Float) → T (eq x y) → T (le x y)
unfolding le
eq_le x y h = or_r (lt x y) (eq x y) h

zero_cases : (x : Float) (t : Bool) → eq x (f32 0) ≡ t → Number x → Number (cond t (f32 0) x) × T (le (cond t (f32 0) x) x) × T (le x (cond t (f32 0) x))
zero_cases x true e f =
    let h : T (eq x (f32 0)) = subst⁻¹ T e tt in (
      record { is_finite = unfold of_bits in tt; is_f32 = unfold fits of_bits in tt },
      eq_le (f32 0) x
          (eq_turned x (f32 0) f.is_finite (unfold of_bits in tt) h),
      eq_le x (f32 0) h,
    )
zero_cases x false e f = (f, le_refl x (finite_number x f.is_finite), le_refl x (finite_number x f.is_finite))

zero_is : (x : Float) → Number x → Number (plus_zero x) × T (le (plus_zero x) x) × T (le x (plus_zero x))
unfolding plus_zero
zero_is x f = zero_cases x (eq x (f32 0)) refl f

-- ---- two numbers that are not above each other are one, but for the sign of zero
level_of : (x y : Float) → T (le x y) → T (le y x) → T (eq x y)
unfolding le
level_of x y h k = go (lt x y) refl h
  where
    go : (b : Bool) → lt x y ≡ b → T (b || eq x y) → T (eq x y)
    go true e t = absurd (le_not_lt y x k (subst⁻¹ T e tt))
    go false e t = t

zero_of : (x y : Float) → Number x → T (le x y) → T (le y x) → eq x (f32 0) ≡ true → T (eq y (f32 0))
zero_of x y f h k e =
    let z : T (eq x (f32 0)) = subst⁻¹ T e tt in
    level_of y (f32 0) (le_trans y x (f32 0) k (eq_le x (f32 0) z))
    (le_trans (f32 0) x y (eq_le (f32 0) x (eq_turned x (f32 0) f.is_finite (unfold of_bits in tt) z)) h)

below_zero : (n : ℕ) (d : ℤ) → T (le (fin true n d) (f32 0))
below_zero n d = not_lt_le (f32 0) (fin true n d) (unfold is_nan of_bits in tt) (unfold is_nan in tt) (no_lt (lt (f32 0) (fin true n d)) refl)
  where
    no_lt : (b : Bool) → lt (f32 0) (fin true n d) ≡ b → T (not (lt (f32 0) (fin true n d)))
    no_lt true e = absurd (positive_unsigned (fin true n d) (subst⁻¹ T e tt))
    no_lt false e = not_T _ e

same_value : (x y : Float) → Number x → Number y → T (le x y) → T (le y x) → eq x (f32 0) ≡ false → eq y (f32 0) ≡ false → x ≡ y
unfolding eq
same_value nan y f g h k e z = absurd f.is_finite
same_value (inf s) y f g h k e z = absurd f.is_finite
same_value (fin s m a) nan f g h k e z = absurd g.is_finite
same_value (fin s m a) (inf t) f g h k e z = absurd g.is_finite
same_value (fin false m a) (fin false n d) f g h k e z = le_antisymmetric binary32 (fin false m a) (fin false n d) f.is_f32 g.is_f32 tt tt h k
same_value (fin true m a) (fin true n d) f g h k e z =
    let l : m * up a * down d
    ≡ n * up d * down a = equal_of _ _ (and_l (eqb (m * up a * down d) (n * up d * down a)) true (level_of (fin true m a) (fin true n d) h k)) in
    value_unique binary32 (fin true m a) (fin true n d) true (m * up a) (down a) (down_pos a) f.is_f32 g.is_f32 (refl, refl) (refl, sym l)
same_value (fin false m a) (fin true n d) f g h k e z =
    absurd (subst T e (level_of (fin false m a) (f32 0) (le_trans (fin false m a) (fin true n d) (f32 0) h (below_zero n d)) (unsigned_le (fin false m a) tt)))
same_value (fin true m a) (fin false n d) f g h k e z =
    absurd (subst T z (level_of (fin false n d) (f32 0) (le_trans (fin false n d) (fin true m a) (f32 0) k (below_zero m a)) (unsigned_le (fin false n d) tt)))

pub plus_same : (x y : Float) → Number x → Number y → T (le x y) → T (le y x) → plus_zero x ≡ plus_zero y
unfolding plus_zero
plus_same x y f g h k = go (eq x (f32 0)) (eq y (f32 0)) refl refl
  where
    go : (s t : Bool) → eq x (f32 0) ≡ s → eq y (f32 0) ≡ t → cond s (f32 0) x ≡ cond t (f32 0) y
    go true true e z = refl
    go true false e z = absurd (subst T z (zero_of x y f h k e))
    go false true e z = absurd (subst T e (zero_of y x g k h z))
    go false false e z = same_value x y f g h k e z

-- ---- a box on one axis
module _ (points : List Float) (axis : ℕ) (xs : List ℕ) (some : 0 < length xs) (good : (v : ℕ) → In v xs → Number (coordinate_of points axis v)) where
  abbrev key : ℕ → Float
  key v = coordinate_of points axis v

  first : Number (key (get_or xs 0 0))
  first = good (get_or xs 0 0) (in_at xs 0 some)

  lows : Farthest key (λ x y. T (le x y)) xs (key (get_or xs 0 0)) (lowest_key key xs (key (get_or xs 0 0)))
  unfolding lowest_key
  lows = farthest key lesser_coordinate (lowest_key key) (λ b. refl) (λ x ys b. refl) (λ x y. T (le x y))
      (λ x f. le_refl x (finite_number x f.is_finite)) le_trans
      (λ x b f g. lesser_cases x b (lt x b) refl f g) xs (key (get_or xs 0 0)) good first

  highs : Farthest key (λ x y. T (le y x)) xs (key (get_or xs 0 0)) (highest key xs (key (get_or xs 0 0)))
  unfolding highest
  highs = farthest key greater_coordinate (highest key) (λ b. refl) (λ x ys b. refl) (λ x y. T (le y x)) (λ x f. le_refl x (finite_number x f.is_finite))
      (λ x y z a b. le_trans z y x b a)
      (λ x b f g. greater_cases x b (lt b x) refl f g) xs (key (get_or xs 0 0)) good first

  pub low_number : Number (least_on_axis points axis xs)
  unfolding least_on_axis
  low_number = (zero_is _ lows.number).0

  pub high_number : Number (greatest_on_axis points axis xs)
  unfolding greatest_on_axis
  high_number = (zero_is _ highs.number).0

  pub low_all : (v : ℕ) → In v xs → T (le (least_on_axis points axis xs) (key v))
  unfolding least_on_axis
  low_all v i = le_trans _ _ _ (zero_is _ lows.number).1 (lows.all v i)

  pub high_all : (v : ℕ) → In v xs → T (le (key v) (greatest_on_axis points axis xs))
  unfolding greatest_on_axis
  high_all v i = le_trans _ _ _ (highs.all v i) (zero_is _ highs.number).2

  -- whoever is as far as all stands in the box
  pub least_is : (h : ℕ) → In h xs → ((v : ℕ) → In v xs → T (le (key h) (key v))) → plus_zero (key h) ≡ least_on_axis points axis xs
  unfolding lowest_key least_on_axis
  least_is h i a =
      let b = key (get_or xs 0 0) in
      plus_same (key h) (lowest_key key xs b) (good h i) lows.number
      (among key lesser_coordinate (lowest_key key) (λ b. refl) (λ x ys b. refl) (λ (x : Float). T (le (key h) x))
      (λ x b p q. chosen (λ (x : Float). T (le (key h) x)) (lt x b) x b p q) xs b (a (get_or xs 0 0) (in_at xs 0 some)) a)
      (lows.all h i)

  pub greatest_is : (h : ℕ) → In h xs → ((v : ℕ) → In v xs → T (le (key v) (key h))) → plus_zero (key h) ≡ greatest_on_axis points axis xs
  unfolding highest greatest_on_axis
  greatest_is h i a =
      let b = key (get_or xs 0 0) in
      plus_same (key h) (highest key xs b) (good h i) highs.number (highs.all h i)
      (among key greater_coordinate (highest key) (λ b. refl) (λ x ys b. refl) (λ (x : Float). T (le x (key h)))
      (λ x b p q. chosen (λ (x : Float). T (le x (key h))) (lt b x) x b p q) xs b (a (get_or xs 0 0) (in_at xs 0 some)) a)
