-- A number that no arc cosine of a number up to κ is below, as a test that computes for each κ (`floor-holds`). Assumes
-- nothing.
use mathlib.Core.Path.{◌≡◌, refl, sym, ◌∙◌, subst}
use Prim.Native.Nat.{ℕ, ◌*◌}
use mathlib.Core.Bool.{Bool, true, false, not, ◌&&◌, cond}
use lib.Dec.{T, not_T, eqb, eqb→eq}
use lib.Ieee.{Float, nan, inf, fin, up, down, level, binary32, neg, mul, div, lt, le, eq, fits, is_nan, of_bits}
use lib.Ieee.Bits.{is_false, of_bits-fits}
use lib.Ieee.Fits.{and_l, and_r, and_i, eq→eqb}
use lib.Ieee.Scale.{finite}
use Rattle.numbers.specs.Rounded.{f32, ◌⊗◌}
use Rattle.numbers.specs.Order.{clamp}
use Rattle.numbers.specs.Acos.{abs, acos_middle, acos_low, acos_high, acos_inside, acos}
use Rattle.numbers.proofs.OrderLaws.{le_left, lt_le, le_trans, le_lt_trans, lt_le_trans, not_lt_le, not_le_lt, le_not_lt}
use Rattle.numbers.proofs.RoundedOrder.{neg_le}
use Rattle.numbers.proofs.Bounded.{neg_neg}
use Rattle.slivers.proofs.Angle.{level_le, strict}
use Rattle.needle_angles.proofs.Least.{neg_lt, low_ratio, high_least, high_least_lem, low_least, low_least_lem, middle_least, middle_least_lem, negative_least}
use Rattle.needle_angles.proofs.Least.{negative_least_lem}

abbrev half : Float
half = f32 0x3f000000

abbrev one : Float
one = f32 0x3f800000

-- 2 ^ -26
abbrev tiny : Float
tiny = f32 0x32800000

abbrev H : Float
H = f32 0x3fc90fda

-- ---- equality

neg_number : (v : Float) → T (not (is_nan v)) → T (not (is_nan (neg v)))
unfolding neg is_nan
neg_number nan n = n
neg_number (inf s) n = tt
neg_number (fin s m e) n = tt

eq_turned : (x y : Float) → T (eq x y) → T (eq y x)
unfolding eq
eq_turned nan y h = absurd h
eq_turned (inf s) nan h = absurd h
eq_turned (inf true) (inf true) h = tt
eq_turned (inf false) (inf false) h = tt
eq_turned (inf true) (inf false) h = absurd h
eq_turned (inf false) (inf true) h = absurd h
eq_turned (inf s) (fin t n d) h = absurd h
eq_turned (fin s m e) nan h = absurd h
eq_turned (fin s m e) (inf t) h = absurd h
eq_turned (fin s m e) (fin t n d) h = go s t (m * up e * down d) (n * up d * down e) h
  where
    go : (s t : Bool) (a b : ℕ) → T (level s a t b) → T (level t b s a)
    go true true a b h = let g : b ≡ a = sym (eqb→eq a b (and_l (eqb a b) _ h)) in and_i (eqb b a) true (eq→eqb g) tt
    go false false a b h = let g : b ≡ a = sym (eqb→eq a b (and_l (eqb a b) _ h)) in and_i (eqb b a) true (eq→eqb g) tt
    go true false a b h = let g : a ≡ b = eqb→eq a b (and_l (eqb a b) _ h) in let z : a
        ≡ 0 = eqb→eq a 0 (and_r (eqb a b) _ h) in and_i (eqb b a) (eqb b 0) (eq→eqb (sym g)) (eq→eqb (sym g ∙ z))
    go false true a b h = let g : a ≡ b = eqb→eq a b (and_l (eqb a b) _ h) in let z : a
        ≡ 0 = eqb→eq a 0 (and_r (eqb a b) _ h) in and_i (eqb b a) (eqb b 0) (eq→eqb (sym g)) (eq→eqb (sym g ∙ z))

-- ---- the cases of the arc cosine

-- what is at most each of them
record Cases (m v : Float) : Type 0 where
  high : T (le half v) → T (le m (acos_high v))
  middle : T (lt tiny v) → T (lt v half) → T (le m (acos_middle v))
  center : T (le (neg tiny) v) → T (le v tiny) → T (le m H)
  negative : T (lt v (neg tiny)) → T (lt (neg half) v) → T (le m (acos_middle v))
  low : T (lt (neg one) v) → T (le v (neg half)) → T (le m (acos_low v))
  least : T (le m (f32 0x40000000 ⊗ H))

minus_one : acos (neg one) ≡ f32 0x40000000 ⊗ H
unfolding acos is_nan eq neg of_bits
minus_one = refl

minus_one_held : lt one (neg one) ≡ false
unfolding lt neg of_bits
minus_one_held = refl

no : (b : Bool) → (T b → ⊥) → b ≡ false
no b k = is_false b (not_T b k)

false_is : (b : Bool) → b ≡ false → T (not b)
false_is b e = rw e tt

module _ (m v : Float) (c : Cases m v) (top : T (lt v one)) where
  number : T (not (is_nan v))
  number = le_left v one (lt_le v one top)

  -- by the size of v
  sized : T (lt (neg one) v) → (n : Bool) → lt v (f32 0) ≡ n → T (le m (acos_inside v))
  unfolding acos_inside abs
  sized b true e = rw (
    e,
    no (lt one (neg v))
        (λ k. le_not_lt (neg v) one (lt_le (neg v) one (subst (λ (x : Float). T (lt (neg v) x)) (neg_neg one) (neg_lt (neg one) v b))) k),
  )
      (go (le (neg v) tiny) refl (lt (neg v) half) refl (le v (neg half)) refl)
    where
      below : T (lt v (f32 0))
      below = rw e tt

      back : (x : Float) → T (le (neg v) x) → T (le (neg x) v)
      back x k = subst (λ (y : Float). T (le (neg x) y)) (neg_neg v) (neg_le (neg v) x k)

      go : (p : Bool) → le (neg v) tiny ≡ p → (q : Bool) → lt (neg v) half ≡ q → (r : Bool) → le v (neg half) ≡ r
          → T (le m (cond p H (cond q (acos_middle v) (cond r (acos_low v) (acos_high v)))))
      go true i q j r k = c.center (back tiny (rw i tt)) (le_trans v (f32 0) tiny (lt_le v (f32 0) below) (unfold le of_bits in tt))
      go false i true j r k =
          c.negative (subst (λ (x : Float). T (lt x (neg tiny))) (neg_neg v)
          (neg_lt tiny (neg v) (not_le_lt (neg v) tiny (le_left (neg v) half (lt_le (neg v) half (rw j tt))) (unfold is_nan of_bits in tt)
          (false_is (le (neg v) tiny) i))))
          (subst (λ (x : Float). T (lt (neg half) x)) (neg_neg v) (neg_lt (neg v) half (rw j tt)))
      go false i false j true k = c.low b (rw k tt)
      go false i false j false k =
          absurd (le_not_lt v (neg half)
          (subst (λ (x : Float). T (le x (neg half))) (neg_neg v)
          (neg_le half (neg v) (not_lt_le (neg v) half (neg_number v number) (unfold is_nan of_bits in tt) (false_is (lt (neg v) half) j))))
          (not_le_lt v (neg half) number (unfold is_nan neg of_bits in tt) (false_is (le v (neg half)) k)))
  sized b false e = rw (e, no (lt one v) (λ k. le_not_lt v one (lt_le v one top) k)) (go (le v tiny) refl (lt v half) refl)
    where
      above : T (le (f32 0) v)
      above = not_lt_le v (f32 0) number (unfold is_nan of_bits in tt) (false_is (lt v (f32 0)) e)

      go : (p : Bool) → le v tiny ≡ p → (q : Bool) → lt v half ≡ q
          → T (le m (cond p H (cond q (acos_middle v) (cond (le v (neg half)) (acos_low v) (acos_high v)))))
      go true i q j = c.center (le_trans (neg tiny) (f32 0) v (unfold le neg of_bits in tt) above) (rw i tt)
      go false i true j = c.middle (not_le_lt v tiny number (unfold is_nan of_bits in tt) (false_is (le v tiny) i)) (rw j tt)
      go false i false j =
          let h = not_lt_le v half number (unfold is_nan of_bits in tt) (false_is (lt v half) j) in
          rw (no (le v (neg half)) (λ k. le_not_lt half (neg half) (le_trans half v (neg half) h k) (unfold lt neg of_bits in tt))) (c.high h)

  inside : T (le (neg one) v) → T (le m (acos v))
  unfolding acos
  inside b = rw (is_false (is_nan v) number, no (eq v one) (λ k. le_not_lt one v (level_le one v (eq_turned v one k)) top)) (go (eq v (neg one)) refl)
    where
      go : (t : Bool) → eq v (neg one) ≡ t → T (le m (cond t (f32 0x40000000 ⊗ H) (acos_inside v)))
      go true e = c.least
      go false e = sized (strict (neg one) v b (no (eq (neg one) v) (λ k. subst T e (eq_turned (neg one) v k)))) (lt v (f32 0)) refl

  held : T (le m (acos (clamp v (neg one) one)))
  unfolding clamp
  held = go (lt v (neg one)) refl
    where
      go : (t : Bool) → lt v (neg one) ≡ t → T (le m (acos (let x = cond t (neg one) v in cond (lt one x) one x)))
      go true e = rw (minus_one_held, minus_one) c.least
      go false e = rw (no (lt one v) (λ k. le_not_lt v one (lt_le v one top) k))
          (inside (not_lt_le v (neg one) number (unfold is_nan neg of_bits in tt) (false_is (lt v (neg one)) e)))

-- ---- the test

-- m is at most what numbers up to -0.5, and up to 0, have
abbrev under_low : Float → Bool
under_low m = le m (low_least half) && le m (f32 0x40000000 ⊗ H)

abbrev under_negative : Float → Bool
under_negative m = under_low m && (le m (negative_least (f32 0)) && le m H)

-- by the part of the arc cosine that κ lies in
abbrev pub floor_high : Float → Float → Bool
floor_high κ m = lt κ one && (le m (high_least κ) && (le m (middle_least half) && under_negative m))

abbrev pub floor_middle : Float → Float → Bool
floor_middle κ m = lt κ half && (le m (middle_least κ) && under_negative m)

abbrev pub floor_negative : Float → Float → Bool
floor_negative κ m = lt κ (neg tiny) && (finite (κ ⊗ κ) && (le (f32 0) (low_ratio (κ ⊗ κ)) && (le m (negative_least κ) && under_low m)))

-- of -κ
abbrev pub floor_low : Float → Float → Bool
floor_low κ m = le half κ && (le m (low_least κ) && le m (f32 0x40000000 ⊗ H))

-- no number up to κ has a lesser arc cosine
pub record Floor (κ m : Float) : Type 0 where
  pub least : (v : Float) → T (fits binary32 v) → T (le v κ) → T (le m (acos (clamp v (neg one) one)))

low_case : (m v : Float) → T (fits binary32 v) → T (le m (low_least half)) → T (lt (neg one) v) → T (le v (neg half)) → T (le m (acos_low v))
low_case m v f h b k = le_trans m (low_least half) (acos_low v) h (low_least_lem half v half_fits f (unfold le of_bits in tt) k b)
  where
    half_fits : T (fits binary32 half)
    half_fits = of_bits-fits binary32 0x3f000000

negative_case : (m v : Float) → T (le m (negative_least (f32 0))) → T (lt v (neg tiny)) → T (lt (neg half) v) → T (le m (acos_middle v))
negative_case m v h b k =
    le_trans m (negative_least (f32 0)) (acos_middle v) h
    (negative_least_lem (f32 0) v (lt_le (neg half) v k) b (le_trans v (neg tiny) (f32 0) (lt_le v (neg tiny) b) (unfold le neg of_bits in tt))
    (unfold le of_bits in tt) (unfold mul of_bits in tt) (unfold le div mul of_bits in tt))

-- what is above κ is not at most κ
beyond : (v κ x : Float) → T (le v κ) → T (lt κ x) → T (le x v) → ⊥
beyond v κ x h k l = le_not_lt x κ (le_trans x v κ l h) k

pub floor_high_lem : (κ m : Float) → T (fits binary32 κ) → T (floor_high κ m) → Floor κ m
floor_high_lem κ m f t = record { least = λ v g h. held m v (cases v g h) (le_lt_trans v κ one h top) }
  where
    top : T (lt κ one)
    top = and_l (lt κ one) _ t

    a : T (le m (high_least κ) && (le m (middle_least half) && under_negative m))
    a = and_r (lt κ one) _ t

    b : T (le m (middle_least half) && under_negative m)
    b = and_r (le m (high_least κ)) _ a

    u : T (under_negative m)
    u = and_r (le m (middle_least half)) _ b

    cases : (v : Float) → T (fits binary32 v) → T (le v κ) → Cases m v
    cases v g h = record {
      high = λ k. le_trans m (high_least κ) (acos_high v) (and_l (le m (high_least κ)) _ a) (high_least_lem κ v f g k h top);
      middle = λ k l. le_trans m (middle_least half) (acos_middle v) (and_l (le m (middle_least half)) _ b)
          (middle_least_lem half v k (lt_le v half l) (unfold le of_bits in tt));
      center = λ k l. and_r (le m (negative_least (f32 0))) _ (and_r (under_low m) _ u);
      negative = negative_case m v (and_l (le m (negative_least (f32 0))) _ (and_r (under_low m) _ u));
      low = low_case m v g (and_l (le m (low_least half)) _ (and_l (under_low m) _ u));
      least = and_r (le m (low_least half)) _ (and_l (under_low m) _ u);
    }

pub floor_middle_lem : (κ m : Float) → T (floor_middle κ m) → Floor κ m
floor_middle_lem κ m t = record { least = λ v g h. held m v (cases v g h) (le_lt_trans v κ one h (lt_le_trans κ half one top (unfold le of_bits in tt))) }
  where
    top : T (lt κ half)
    top = and_l (lt κ half) _ t

    b : T (le m (middle_least κ) && under_negative m)
    b = and_r (lt κ half) _ t

    u : T (under_negative m)
    u = and_r (le m (middle_least κ)) _ b

    cases : (v : Float) → T (fits binary32 v) → T (le v κ) → Cases m v
    cases v g h = record {
      high = λ k. absurd (beyond v κ half h top k);
      middle = λ k l. le_trans m (middle_least κ) (acos_middle v) (and_l (le m (middle_least κ)) _ b) (middle_least_lem κ v k h (lt_le κ half top));
      center = λ k l. and_r (le m (negative_least (f32 0))) _ (and_r (under_low m) _ u);
      negative = negative_case m v (and_l (le m (negative_least (f32 0))) _ (and_r (under_low m) _ u));
      low = low_case m v g (and_l (le m (low_least half)) _ (and_l (under_low m) _ u));
      least = and_r (le m (low_least half)) _ (and_l (under_low m) _ u);
    }

pub floor_negative_lem : (κ m : Float) → T (floor_negative κ m) → Floor κ m
floor_negative_lem κ m t =
    record { least = λ v g h. held m v (cases v g h) (le_lt_trans v κ one h (lt_le_trans κ (neg tiny) one top (unfold le neg of_bits in tt))) }
  where
    top : T (lt κ (neg tiny))
    top = and_l (lt κ (neg tiny)) _ t

    a : T (finite (κ ⊗ κ) && (le (f32 0) (low_ratio (κ ⊗ κ)) && (le m (negative_least κ) && under_low m)))
    a = and_r (lt κ (neg tiny)) _ t

    b : T (le (f32 0) (low_ratio (κ ⊗ κ)) && (le m (negative_least κ) && under_low m))
    b = and_r (finite (κ ⊗ κ)) _ a

    d : T (le m (negative_least κ) && under_low m)
    d = and_r (le (f32 0) (low_ratio (κ ⊗ κ))) _ b

    u : T (under_low m)
    u = and_r (le m (negative_least κ)) _ d

    cases : (v : Float) → T (fits binary32 v) → T (le v κ) → Cases m v
    cases v g h = record {
      high = λ k. absurd (beyond v κ (neg tiny) h top (le_trans (neg tiny) half v (unfold le neg of_bits in tt) k));
      middle = λ k l. absurd (beyond v κ (neg tiny) h top (le_trans (neg tiny) tiny v (unfold le neg of_bits in tt) (lt_le tiny v k)));
      center = λ k l. absurd (beyond v κ (neg tiny) h top k);
      negative = λ k l. le_trans m (negative_least κ) (acos_middle v) (and_l (le m (negative_least κ)) _ d)
          (negative_least_lem κ v (lt_le (neg half) v l) k h (le_trans κ (neg tiny) (f32 0) (lt_le κ (neg tiny) top) (unfold le neg of_bits in tt))
          (and_l (finite (κ ⊗ κ)) _ a) (and_l (le (f32 0) (low_ratio (κ ⊗ κ))) _ b));
      low = low_case m v g (and_l (le m (low_least half)) _ u);
      least = and_r (le m (low_least half)) _ u;
    }

pub floor_low_lem : (κ m : Float) → T (fits binary32 κ) → T (floor_low κ m) → Floor (neg κ) m
floor_low_lem κ m f t =
    record {
      least = λ v g h. held m v (cases v g h)
          (le_lt_trans v (neg κ) one h (le_lt_trans (neg κ) (neg half) one (neg_le half κ from) (unfold lt neg of_bits in tt)));
    }
  where
    from : T (le half κ)
    from = and_l (le half κ) _ t

    a : T (le m (low_least κ) && le m (f32 0x40000000 ⊗ H))
    a = and_r (le half κ) _ t

    under : (v : Float) → T (le v (neg κ)) → (x : Float) → T (lt (neg half) x) → T (le x v) → ⊥
    under v h x k l = le_not_lt x (neg half) (le_trans x v (neg half) l (le_trans v (neg κ) (neg half) h (neg_le half κ from))) k

    cases : (v : Float) → T (fits binary32 v) → T (le v (neg κ)) → Cases m v
    cases v g h = record {
      high = λ k. absurd (under v h half (unfold lt neg of_bits in tt) k);
      middle = λ k l. absurd (under v h tiny (unfold lt neg of_bits in tt) (lt_le tiny v k));
      center = λ k l. absurd (under v h (neg tiny) (unfold lt neg of_bits in tt) k);
      negative = λ k l. absurd (le_not_lt v (neg half) (le_trans v (neg κ) (neg half) h (neg_le half κ from)) l);
      low = λ k l. le_trans m (low_least κ) (acos_low v) (and_l (le m (low_least κ)) _ a) (low_least_lem κ v f g from h k);
      least = and_r (le m (low_least κ)) _ a;
    }
