-- The angle that is left over of a needle: from two cosines of which one is at most the other's opposite but for a
-- margin, in steps that a test goes through (`left_over`). Assumes nothing.
use Prim.Native.Nat.{ℕ}
use mathlib.Core.Logic.{◌⊎◌, inl, inr}
use mathlib.Core.Bool.{Bool, true, false, not, ◌&&◌, cond}
use mathlib.Core.List.{List, [], ◌∷◌}
use lib.Dec.{T}
use lib.Ieee.{Float, inf, binary32, neg, sub, lt, le, fits, is_nan, of_bits}
use lib.Ieee.Bits.{of_bits-fits}
use lib.Ieee.Fits.{and_l, and_r}
use Rattle.numbers.specs.Rounded.{f32, ◌⊖◌}
use Rattle.numbers.specs.Order.{clamp}
use Rattle.numbers.specs.Acos.{acos}
use Rattle.numbers.proofs.OrderLaws.{le_left, le_right, lt_le, le_or_lt, le_not_lt, le_trans}
use Rattle.numbers.proofs.RoundedOrder.{neg_le}
use Rattle.quality.specs.Measures.{least}
use Rattle.score_bounds.proofs.Aspect.{add_under}
use Rattle.six_orders.proofs.Positive.{least_first, least_second, least_third}
use Rattle.slivers.proofs.Arc.{z_of}
use Rattle.slivers.proofs.Angle.{limit, angle_limit_is}
use Rattle.needle_angles.proofs.Floor.{Floor, floor_high, floor_middle, floor_negative, floor_low, floor_high_lem, floor_middle_lem, floor_negative_lem, floor_low_lem}
use Rattle.needle_angles.proofs.Cosines.{are_apart}

abbrev half : Float
half = f32 0x3f000000

abbrev one : Float
one = f32 0x3f800000

abbrev pi : Float
pi = f32 0x40490fdb

-- the arc cosine of a number held between -1 and 1
abbrev held : Float → Float
held v = acos (clamp v (neg one) one)

-- ---- what is left over

abbrev is_low : Float → Bool
is_low x = lt x (inf false)

abbrev left_under : Float → Float → Float → Bool
left_under θ m n = is_low (neg m) && (is_low (neg n) && (is_low (pi ⊖ m) && le (pi ⊖ m ⊖ n) θ))

left_under_lem : (θ m n y z : Float) → T (left_under θ m n) → T (le m y) → T (le n z) → T (le (pi ⊖ y ⊖ z) θ)
unfolding sub
left_under_lem θ m n y z t h k =
    let t1 = and_r (is_low (neg m)) _ t in
    let t2 = and_r (is_low (neg n)) _ t1 in
    let i : T (le (pi ⊖ y) (pi ⊖ m)) = add_under pi (neg y) pi (neg m) (unfold le of_bits in tt) (neg_le m y h) (unfold lt of_bits in tt)
    (and_l (is_low (neg m)) _ t) in
    le_trans (pi ⊖ y ⊖ z) (pi ⊖ m ⊖ n) θ
    (add_under (pi ⊖ y) (neg z) (pi ⊖ m) (neg n) i (neg_le n z k) (and_l (is_low (pi ⊖ m)) _ t2) (and_l (is_low (neg n)) _ t1)) (and_r (is_low (pi ⊖ m)) _ t2)

-- ---- floors

abbrev is_floor : ℕ → Float → Bool
is_floor κ m = cond (le half (f32 κ)) (floor_high (f32 κ) m) (floor_middle (f32 κ) m)

abbrev is_floor_below : ℕ → Float → Bool
is_floor_below r m = cond (le half (f32 r)) (floor_low (f32 r) m) (floor_negative (neg (f32 r)) m)

floor_is : (κ : ℕ) (m : Float) → T (is_floor κ m) → Floor (f32 κ) m
floor_is κ m = go (le half (f32 κ))
  where
    go : (b : Bool) → T (cond b (floor_high (f32 κ) m) (floor_middle (f32 κ) m)) → Floor (f32 κ) m
    go true t = floor_high_lem (f32 κ) m (of_bits-fits binary32 κ) t
    go false t = floor_middle_lem (f32 κ) m t

floor_below : (r : ℕ) (m : Float) → T (is_floor_below r m) → Floor (neg (f32 r)) m
floor_below r m = go (le half (f32 r))
  where
    go : (b : Bool) → T (cond b (floor_low (f32 r) m) (floor_negative (neg (f32 r)) m)) → Floor (neg (f32 r)) m
    go true t = floor_low_lem (f32 r) m (of_bits-fits binary32 r) t
    go false t = floor_negative_lem (neg (f32 r)) m t

-- ---- steps

-- a cosine from t on has an opposite of at least r, by the factors τ and ρ and the part s; m and n are floors; numbers
-- by their bits, but s
pub record Step : Type 0 where
  pub s : ℕ
  pub t : ℕ
  pub τ : ℕ
  pub ρ : ℕ
  pub r : ℕ
  pub m : ℕ
  pub n : ℕ

unfoldable pub step : ℕ → ℕ → ℕ → ℕ → ℕ → ℕ → ℕ → Step
step s t τ ρ r m n = record { s = s; t = t; τ = τ; ρ = ρ; r = r; m = m; n = n }

-- for cosines below κ
abbrev is_step : ℕ → Float → ℕ → Step → Bool
is_step K θ κ s =
    lt (f32 s.t) (f32 κ)
    && (are_apart K s.s s.t s.τ s.ρ s.r
    && (is_floor κ (f32 s.m) && (is_floor_below s.r (f32 s.n) && (left_under θ (f32 s.m) (f32 s.n) && left_under θ (f32 s.n) (f32 s.m)))))

unfoldable pub are_steps : ℕ → Float → ℕ → List Step → Bool
are_steps K θ κ [] = true
are_steps K θ κ (s ∷ rest) = is_step K θ κ s && are_steps K θ s.t rest

unfoldable pub last_of : ℕ → List Step → ℕ
last_of κ [] = κ
last_of κ (s ∷ rest) = last_of s.t rest

-- the first cosine has a small angle, and below the last of the steps are two that are small themselves
abbrev pub are_all : ℕ → Float → ℕ → Float → List Step → Bool
are_all K θ κ m steps =
    le half (f32 κ) && (lt (f32 κ) one && (le (limit (z_of (f32 κ))) θ
    && (are_steps K θ κ steps && (is_floor (last_of κ steps) m && left_under θ m m))))

-- ---- the least of three angles

abbrev least_of : Float → Float → Float
least_of v w = least (held v) (held w) (pi ⊖ held v ⊖ held w)

module _ (K : ℕ) (θ : Float) where
  -- what is to be shown of two cosines, in both orders
  abbrev Small : Float → Float → Type 0
  Small v w = T (le (least_of v w) θ) × T (le (least_of w v) θ)

  by_angle : (v w : Float) → T (le (held v) θ) → Small v w
  by_angle v w h =
      let n = le_left (held v) θ h in (
        le_trans (least_of v w) (held v) θ (least_first (held v) (held w) (pi ⊖ held v ⊖ held w) n) h,
        le_trans (least_of w v) (held v) θ
            (least_second (held w) (held v) (pi ⊖ held w ⊖ held v) n) h,
      )

  by_left : (v w : Float) → T (le (pi ⊖ held v ⊖ held w) θ) → T (le (pi ⊖ held w ⊖ held v) θ) → Small v w
  by_left v w h k = (
    le_trans (least_of v w) (pi ⊖ held v ⊖ held w) θ (least_third (held v) (held w) (pi ⊖ held v ⊖ held w) (le_left (pi ⊖ held v ⊖ held w) θ h)) h,
    le_trans (least_of w v) (pi ⊖ held w ⊖ held v) θ (least_third (held w) (held v) (pi ⊖ held w ⊖ held v) (le_left (pi ⊖ held w ⊖ held v) θ k)) k,
  )

  -- w is at most the opposite of v, but for a margin
  abbrev pub Turned : Float → Float → Type 0
  Turned v w = (s t τ ρ r : ℕ) → T (are_apart K s t τ ρ r) → T (le (f32 t) v) → T (le w (neg (f32 r)))

  module _ (v w : Float) (f : T (fits binary32 v)) (g : T (fits binary32 w)) (turned : Turned v w) where
    one_step : (κ : ℕ) (s : Step) → T (is_step K θ κ s) → T (lt v (f32 κ)) → T (le (f32 s.t) v) → Small v w
    one_step κ s h' b k =
        let h = and_r (lt (f32 s.t) (f32 κ)) _ h' in
        let h1 = and_r (are_apart K s.s s.t s.τ s.ρ s.r) _ h in
        let h2 = and_r (is_floor κ (f32 s.m)) _ h1 in
        let h3 = and_r (is_floor_below s.r (f32 s.n)) _ h2 in
        let y = (floor_is κ (f32 s.m) (and_l (is_floor κ (f32 s.m)) _ h1)).least v f (lt_le v (f32 κ) b) in
        let z = (floor_below s.r (f32 s.n) (and_l (is_floor_below s.r (f32 s.n)) _ h2)).least w g
        (turned s.s s.t s.τ s.ρ s.r (and_l (are_apart K s.s s.t s.τ s.ρ s.r) _ h) k) in
        by_left v w (left_under_lem θ (f32 s.m) (f32 s.n) (held v) (held w) (and_l (left_under θ (f32 s.m) (f32 s.n)) _ h3) y z)
        (left_under_lem θ (f32 s.n) (f32 s.m) (held w) (held v) (and_r (left_under θ (f32 s.m) (f32 s.n)) _ h3) z y)

    walk : (κ : ℕ) (steps : List Step) → T (are_steps K θ κ steps) → T (lt v (f32 κ)) → T (le (f32 (last_of κ steps)) v) → Small v w
    unfolding last_of are_steps
    walk κ [] h b k = absurd (le_not_lt (f32 κ) v k b)
    walk κ (s ∷ rest) h b k =
        let here = and_l (is_step K θ κ s) _ h in
        let later = and_r (is_step K θ κ s) _ h in
        go (le_or_lt (f32 s.t) v (le_left (f32 s.t) (f32 κ) (lt_le (f32 s.t) (f32 κ) (and_l (lt (f32 s.t) (f32 κ)) _ here)))
        (le_left v (f32 κ) (lt_le v (f32 κ) b))) here (λ l. walk s.t rest later l k)
      where
        go : T (le (f32 s.t) v) ⊎ T (lt v (f32 s.t)) → T (is_step K θ κ s) → (T (lt v (f32 s.t)) → Small v w) → Small v w
        go (inl l) i n = one_step κ s i b l
        go (inr l) i n = n l

  module _ (κ : ℕ) (m : Float) (steps : List Step) (all : T (are_all K θ κ m steps)) where
    a1 : T (lt (f32 κ) one && (le (limit (z_of (f32 κ))) θ && (are_steps K θ κ steps && (is_floor (last_of κ steps) m && left_under θ m m))))
    a1 = and_r (le half (f32 κ)) _ all

    a2 : T (le (limit (z_of (f32 κ))) θ && (are_steps K θ κ steps && (is_floor (last_of κ steps) m && left_under θ m m)))
    a2 = and_r (lt (f32 κ) one) _ a1

    a3 : T (are_steps K θ κ steps && (is_floor (last_of κ steps) m && left_under θ m m))
    a3 = and_r (le (limit (z_of (f32 κ))) θ) _ a2

    a4 : T (is_floor (last_of κ steps) m && left_under θ m m)
    a4 = and_r (are_steps K θ κ steps) _ a3

    limit_under : T (le (limit (z_of (f32 κ))) θ)
    limit_under = and_l (le (limit (z_of (f32 κ))) θ) _ a2

    -- a cosine from κ on has a small angle
    pub small_angle : (v : Float) → T (fits binary32 v) → T (le (f32 κ) v) → T (le (held v) θ)
    small_angle v f h =
        le_trans (held v) (limit (z_of (f32 κ))) θ
        ((angle_limit_is (f32 κ) (of_bits-fits binary32 κ) (and_l (le half (f32 κ)) _ all) (and_l (lt (f32 κ) one) _ a1)).most v f h
        (le_left (limit (z_of (f32 κ))) θ limit_under)) limit_under

    -- one cosine is from the last on
    by_one : (v w : Float) → T (fits binary32 v) → T (fits binary32 w) → Turned v w → T (le (f32 (last_of κ steps)) v) → Small v w
    by_one v w f g turned k = go (le_or_lt (f32 κ) v (le_right half (f32 κ) (and_l (le half (f32 κ)) _ all)) (le_right (f32 (last_of κ steps)) v k))
      where
        go : T (le (f32 κ) v) ⊎ T (lt v (f32 κ)) → Small v w
        go (inl l) = by_angle v w (small_angle v f l)
        go (inr l) = walk v w f g turned κ steps (and_l (are_steps K θ κ steps) _ a3) l k

    last_number : T (not (is_nan (f32 (last_of κ steps))))
    last_number = go (le half (f32 (last_of κ steps))) (and_l (is_floor (last_of κ steps) m) _ a4)
      where
        x : Float
        x = f32 (last_of κ steps)

        go : (b : Bool) → T (cond b (floor_high x m) (floor_middle x m)) → T (not (is_nan x))
        go true t = le_left x one (lt_le x one (and_l (lt x one) _ t))
        go false t = le_left x half (lt_le x half (and_l (lt x half) _ t))

    pub left_over : (v w : Float) → T (fits binary32 v) → T (fits binary32 w) → T (not (is_nan v)) → T (not (is_nan w)) → Turned v w → Turned w v → Small v w
    left_over v w f g n o h k = go (le_or_lt (f32 (last_of κ steps)) v last_number n) (le_or_lt (f32 (last_of κ steps)) w last_number o)
      where
        go : T (le (f32 (last_of κ steps)) v) ⊎ T (lt v (f32 (last_of κ steps))) → T (le (f32 (last_of κ steps)) w) ⊎ T (lt w (f32 (last_of κ steps))) → Small v w
        go (inl l) r = by_one v w f g h l
        go (inr l) (inl r) = let s = by_one w v g f k r in (s.1, s.0)
        go (inr l) (inr r) =
            let x = f32 (last_of κ steps) in
            let floor = floor_is (last_of κ steps) m (and_l (is_floor (last_of κ steps) m) _ a4) in
            let y = floor.least v f (lt_le v x l) in
            let z = floor.least w g (lt_le w x r) in
            let t = and_r (is_floor (last_of κ steps) m) _ a4 in
            by_left v w (left_under_lem θ m m (held v) (held w) t y z) (left_under_lem θ m m (held w) (held v) t z y)
