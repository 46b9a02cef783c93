-- The two least squares of a list, step by step, and who is nearest by them. Assumes nothing.
use mathlib.Core.Path.{◌≡◌, refl, sym, ap, ◌∙◌, subst, subst⁻¹}
use mathlib.Core.Bool.{Bool, true, false, cond, not}
use mathlib.Core.Logic.{◌⊎◌, inl, inr, ⊎_elim, dite}
use mathlib.Core.List.{List, [], ◌∷◌}
use Prim.Native.Nat.{ℕ, suc, ◌+◌, ◌≤◌, ◌<◌}
use native.Mathlib.Decide.{dec_lt}
use native.Mathlib.Omega.{arith}
use lib.Dec.{T}
use lib.Ieee.{Float, binary32, fits, is_nan, lt, le, of_bits}
use lib.ListN.{length, get_or}
use Rattle.lists.specs.Members.{In}
use Rattle.lists.proofs.Members.{in_at, in_cases}
use Rattle.numbers.specs.Rounded.{f32}
use Rattle.numbers.specs.Root.{root}
use Rattle.numbers.proofs.OrderLaws.{lt_le, le_left, le_right, le_refl, le_trans, le_not_lt, not_lt_le, lt_le_trans, unsigned_number_lem}
use Rattle.bounds.specs.Inner.Within.{Limit}
use Rattle.vector.specs.Vector.{squared}
use Rattle.vector.specs.declared.Point3f.{Point3f}
use Rattle.vector.proofs.Distances.{squared_fits, squared_unsigned, distance_is}
use Rattle.points.specs.Points.{point_at}
use Rattle.nearest.specs.declared.Best.{Best}
use Rattle.nearest.specs.declared.Least.{Least}
use Rattle.nearest.specs.Scan.{Near, length_to, near_at}
use Rattle.nearest.specs.Parts.{scanned, Length, near_of_best, BestLimited, KeepsBest}
use Rattle.nearest.specs.Least.{greater, lesser, square_to, nearer_number, next_least, AllFinite, TwoLeast}
use Rattle.nearest.proofs.AnyOrder.{NotAfter, itself, strictly, Found, found, only_found}
use Rattle.nearest.proofs.Scanning.{beyond, lengths}

not_less : (x y : Float) → T (not (is_nan x)) → T (not (is_nan y)) → lt x y ≡ false → T (le y x)
not_less x y n m e = not_lt_le x y n m (subst⁻¹ (λ (z : Bool). T (not z)) e tt)

-- ---- the lesser and the greater of two
module _ (a b : Float) (n : T (not (is_nan a))) (m : T (not (is_nan b))) where
  left_cases : (x : Bool) → lt a b ≡ x → T (le (cond x a b) a)
  left_cases true e = le_refl a n
  left_cases false e = not_less a b n m e

  lesser_left : T (le (lesser a b) a)
  unfolding lesser
  lesser_left = left_cases (lt a b) refl

  right_cases : (x : Bool) → lt a b ≡ x → T (le (cond x a b) b)
  right_cases true e = lt_le a b (subst⁻¹ T e tt)
  right_cases false e = le_refl b m

  lesser_right : T (le (lesser a b) b)
  unfolding lesser
  lesser_right = right_cases (lt a b) refl

  above_cases : (x : Bool) → lt a b ≡ x → T (le a (cond x b a))
  above_cases true e = lt_le a b (subst⁻¹ T e tt)
  above_cases false e = le_refl a n

  greater_above : T (le a (greater a b))
  unfolding greater
  greater_above = above_cases (lt a b) refl

  first_cases : lt b a ≡ true → (x : Bool) → lt a b ≡ x → T (le (cond x b a) a)
  first_cases e true g = lt_le b a (subst⁻¹ T e tt)
  first_cases e false g = le_refl a n

  greater_first : lt b a ≡ true → T (le (greater a b) a)
  unfolding greater
  greater_first e = first_cases e (lt a b) refl

  second_cases : lt b a ≡ false → (x : Bool) → lt a b ≡ x → T (le (cond x b a) b)
  second_cases e true g = le_refl b m
  second_cases e false g = not_less b a m n e

  greater_second : lt b a ≡ false → T (le (greater a b) b)
  unfolding greater
  greater_second e = second_cases e (lt a b) refl

  same_cases : (x : Bool) → cond x a a ≡ a
  same_cases true = refl
  same_cases false = refl

  stays_cases : (x : Bool) → lt a b ≡ x → lesser a (cond x b a) ≡ a
  unfolding lesser
  stays_cases true e = rw e
  stays_cases false e = same_cases (lt a a)

  lesser_stays : lesser a (greater a b) ≡ a
  unfolding greater
  lesser_stays = stays_cases (lt a b) refl

-- ---- the loop: what is known of those passed
pub record Seen (squares : ℕ → Float) (xs : List ℕ) (i : ℕ) (l : Least) : Type 0 where
  pub most : i ≤ length xs
  pub is_f32 : T (fits binary32 l.first)
  pub first_number : T (not (is_nan l.first))
  pub second_number : T (not (is_nan l.second))
  pub one_of : (l.second ≡ l.first) ⊎ (In l.number xs × (l.first ≡ squares l.number))
  pub first_least_lem : (k : ℕ) → k < i → T (le l.first (squares (get_or xs k 0)))
  pub others : (k : ℕ) → k < i → (get_or xs k 0 ≡ l.number) ⊎ T (le l.second (squares (get_or xs k 0)))

pub next_is : (l : Least) (q : Float) (v : ℕ) {f g s : Float} {n : ℕ} → f ≡ lesser q l.first → g ≡ greater l.first q → s ≡ lesser l.second g → n
    ≡ nearer_number l q v
    → ◌≡◌ {A = Least} (record { first = f; second = s; number = n }) (next_least l q v)
unfolding next_least
next_is l q v {f} {g} {s} ef eg es en =
    let e : s ≡ lesser l.second (greater l.first q) = es ∙ ap (λ (z : Float). lesser l.second z) eg in
    λ i. record { first = ef i; second = e i; number = en i }

pub seen_start : (squares : ℕ → Float) (xs : List ℕ) → Seen squares xs 0 (record { first = f32 0x7f7fffff; second = f32 0x7f7fffff; number = 0 })
seen_start squares xs = record {
  most = omega arith;
  is_f32 = unfold fits of_bits in tt;
  first_number = unfold is_nan of_bits in tt;
  second_number = unfold is_nan of_bits in tt;
  one_of = inl refl;
  first_least_lem = λ k h. absurd (omega arith);
  others = λ k h. absurd (omega arith);
}

module _ (squares : ℕ → Float) {xs : List ℕ} {i : ℕ} {l : Least} (d : Seen squares xs i l) (h : i < length xs) {s : Float} (es : s ≡ squares (get_or xs i 0))
    (f : T (fits binary32 s)) (n : T (not (is_nan s))) where
  abbrev top : Float
  top = greater l.first s

  abbrev second : Float
  second = lesser l.second top

  top_number : T (not (is_nan top))
  top_number = le_right l.first top (greater_above l.first s d.first_number n)

  below_second : T (le second l.second)
  below_second = lesser_left l.second top d.second_number top_number

  below_top : T (le second top)
  below_top = lesser_right l.second top d.second_number top_number

  abbrev next : Bool → Least
  next x = record { first = cond x s l.first; second = second; number = cond x (get_or xs i 0) l.number }

  extend : (P : ℕ → Type 0) → ((k : ℕ) → k < i → P k) → P i → (k : ℕ) → k < i + 1 → P k
  extend P q p k o = dite (dec_lt k i) (λ w. q k w) (λ w. let e : i ≡ k = omega arith in subst P e p)

  cases : (x : Bool) → lt s l.first ≡ x → Seen squares xs (i + 1) (next x)
  cases true e = record {
    most = omega arith;
    is_f32 = f;
    first_number = n;
    second_number = le_left second l.second below_second;
    one_of = inr (in_at xs i h, es);
    first_least_lem = extend (λ (k : ℕ). T (le s (squares (get_or xs k 0))))
        (λ k q. le_trans s l.first _ (lt_le s l.first (subst⁻¹ T e tt)) (d.first_least_lem k q)) (subst (λ (z : Float). T (le s z)) es (le_refl s n));
    others = extend (λ (k : ℕ). (get_or xs k 0 ≡ get_or xs i 0) ⊎ T (le second (squares (get_or xs k 0))))
        (λ k q. inr (le_trans second l.first _ (le_trans second top l.first below_top (greater_first l.first s d.first_number n e))
        (d.first_least_lem k q))) (inl refl);
  }
  cases false e = record {
    most = omega arith;
    is_f32 = d.is_f32;
    first_number = d.first_number;
    second_number = le_left second l.second below_second;
    one_of = ⊎_elim (λ q. inl (ap (λ (z : Float). lesser z top) q ∙ lesser_stays l.first s d.first_number n)) inr d.one_of;
    first_least_lem = extend (λ (k : ℕ). T (le l.first (squares (get_or xs k 0)))) d.first_least_lem
        (subst (λ (z : Float). T (le l.first z)) es (not_less s l.first n d.first_number e));
    others = extend (λ (k : ℕ). (get_or xs k 0 ≡ l.number) ⊎ T (le second (squares (get_or xs k 0))))
        (λ k q. ⊎_elim inl (λ o. inr (le_trans second l.second _ below_second o)) (d.others k q))
        (inr (subst (λ (z : Float). T (le second z)) es (le_trans second top s below_top (greater_second l.first s d.first_number n e))));
  }

  pub seen_step : {r : Least} → r ≡ next_least l s (get_or xs i 0) → Seen squares xs (i + 1) r
  unfolding lesser nearer_number next_least
  seen_step e = subst⁻¹ (λ (z : Least). Seen squares xs (i + 1) z) e (cases (lt s l.first) refl)

pub seen_next : {points : List Float} {spot : Point3f} {xs : List ℕ} {i : ℕ} {l : Least} → AllFinite points spot xs → Seen (square_to points spot) xs i l
    → i < length xs
    → {p : Point3f} {s : Float} {r : Least} → p ≡ point_at points (get_or xs i 0) → s ≡ squared p spot → r ≡ next_least l s (get_or xs i 0)
    → Seen (square_to points spot) xs (i + 1) r
seen_next {points} {spot} {xs} {i} finite d h {p} {s} ep es er =
    let v = get_or xs i 0 in
    let e : s ≡ square_to points spot v = es ∙ ap (λ (q : Point3f). squared q spot) ep in
    seen_step (square_to points spot) d h e (subst⁻¹ (λ (z : Float). T (fits binary32 z)) e (squared_fits (point_at points v) spot))
    (subst⁻¹ (λ (z : Float). T (not (is_nan z))) e
    (unsigned_number_lem _ (squared_unsigned (point_at points v) spot (finite.all_finite v (in_at xs i h)) finite.spot_finite))) er

all_at : (P : ℕ → Type 0) (xs : List ℕ) → ((k : ℕ) → k < length xs → P (get_or xs k 0)) → (v : ℕ) → In v xs → P v
all_at P [] h v i = absurd (omega (arith, i))
all_at P (x ∷ xs) h v i = in_cases P x xs (h 0 (omega arith)) (all_at P xs (λ k l. h (suc k) (omega arith))) v i

pub seen_end : (squares : ℕ → Float) {xs : List ℕ} {i : ℕ} {l : Least} → Seen squares xs i l → length xs ≤ i → TwoLeast squares xs l
seen_end squares {xs} {i} {l} d h = record {
  is_f32 = d.is_f32;
  one_of = d.one_of;
  first_least_lem = all_at (λ (v : ℕ). T (le l.first (squares v))) xs (λ k q. d.first_least_lem k (omega arith));
  others = all_at (λ (v : ℕ). (v ≡ l.number) ⊎ T (le l.second (squares v))) xs (λ k q. d.others k (omega arith));
}

-- ---- who is nearest
module _ {points : List Float} {spot : Point3f} {xs : List ℕ} {best : Best} (lim : BestLimited best) (len : Length (root best.square))
    (finite : AllFinite points spot xs) {l : Least} (t : TwoLeast (square_to points spot) xs l) where
  abbrev key : ℕ → Float
  key v = length_to points spot v

  pub all_farther : lt best.limit l.first ≡ true → KeepsBest best (scanned key xs (near_of_best best))
  all_farther e = beyond points spot xs best lim l.first e t.first_least_lem

  module _ (m : Float) (lm : Limit (root l.first) m) (e : lt m l.second ≡ true) (g : lt m best.square ≡ true) where
    -- were the two alike, the first would be below itself
    unlike : l.second ≡ l.first → ⊥
    unlike q =
        let h : T (lt (root l.first) (root l.first)) = lm l.first t.is_f32 (subst⁻¹ T (ap (λ (z : Float). lt m z) (sym q) ∙ e) tt) in
        le_not_lt (root l.first) (root l.first) (lt_le _ _ h) h

    a_point : In l.number xs × (l.first ≡ square_to points spot l.number)
    a_point = ⊎_elim (λ q. absurd (unlike q)) (λ q. q) t.one_of

    abbrev r : Near
    r = record { distance = root l.first; number = l.number }

    r_is : r ≡ near_at key l.number
    r_is = let d : root l.first
        ≡ key l.number = ap root a_point.1 ∙ sym (distance_is (point_at points l.number) spot) in λ i. record { distance = d i; number = l.number }

    size : Length (root l.first)
    size = subst⁻¹ (λ (z : Near). Length z.distance) r_is (lengths finite l.number a_point.0)

    below : (v : ℕ) → T (le l.second (square_to points spot v)) → T (lt (root l.first) (key v))
    below v o = subst⁻¹ (λ (z : Float). T (lt (root l.first) z)) (distance_is (point_at points v) spot)
        (lm (square_to points spot v) (squared_fits (point_at points v) spot) (lt_le_trans m l.second _ (subst⁻¹ T e tt) o))

    r_found : Found key xs (near_of_best best) r
    r_found = record {
      size = size;
      among = inr (a_point.0, r_is);
      before = strictly r (near_of_best best) (lm best.square lim.is_f32 (subst⁻¹ T g tt));
      least = λ v i. ⊎_elim (λ q. subst⁻¹ (λ (w : ℕ). NotAfter r (near_at key w)) q (subst (λ (z : Near). NotAfter r z) r_is (itself r size)))
          (λ o. strictly r (near_at key v) (below v o)) (t.others v i);
    }

    pub settles : KeepsBest (record { square = l.first; number = l.number; limit = m }) (scanned key xs (near_of_best best))
    settles = record {
      found_is = only_found key xs (near_of_best best) r (scanned key xs (near_of_best best)) r_found (found key xs (lengths finite) (near_of_best best) len);
      limited = record { is_f32 = t.is_f32; above = lm };
    }
