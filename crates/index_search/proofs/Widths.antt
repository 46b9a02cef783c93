-- How many boxes a part has, by the width of its tree. Assumes nothing.
use mathlib.Core.Path.{◌≡◌, refl, sym, ap, ◌∙◌, subst⁻¹}
use mathlib.Core.Logic.{dite}
use Prim.Native.Nat.{ℕ, zero, suc, ◌+◌, ◌-◌, ◌*◌, ◌/◌, ◌≤◌, ◌<◌}
use native.Mathlib.Decide.{dec_lt}
use native.Mathlib.Omega.{arith}
use borrow.Author.Tests.{le-leb, lt-leb}
use Rattle.kd_tree.specs.Tree.{leaf_size, box_count_to}
use Rattle.box_search.specs.Boxes.{boxes_below}
use Rattle.index_search.specs.Inner.Indexed.{Power, one, twice, Width}

abbrev by_width : ℕ → ℕ → ℕ
by_width w m = 2 * (w + (m - 8 * w)) - 1

pub power_some : {w : ℕ} → Power w → 0 < w
power_some one = omega arith
power_some (twice p) = omega (arith, power_some p)

pub few_boxes : (d m : ℕ) → m ≤ 8 → box_count_to d m ≡ 1
unfolding box_count_to
few_boxes zero m h = refl
few_boxes (suc d) m h = rw (le-leb m leaf_size h, box_count_to)

pub many_boxes : (d m : ℕ) → 8 < m → box_count_to (suc d) m ≡ 1 + (box_count_to d (m / 2) + box_count_to d (m - m / 2))
unfolding box_count_to
many_boxes d m h = rw (lt-leb m leaf_size h, box_count_to)

-- ---- the halves of a part whose width is 2u have the width u
pub first_width : (m u : ℕ) → Width m (2 * u) → Power u → Width (m / 2) u
first_width m u h p = record { power = p; enough = omega (arith, h.enough); no_more = go p h.no_more }
  where
    go : {v : ℕ} → Power v → (1 < 2 * v → 9 * (2 * v) ≤ 2 * m) → 1 < v → 9 * v ≤ 2 * (m / 2)
    go one f l = absurd (omega arith)
    go (twice {w = t} q) f l = let k : 9 * (2 * (2 * t)) ≤ 2 * m = f (omega arith) in omega arith

pub second_width : (m u : ℕ) → Width m (2 * u) → Power u → Width (m - m / 2) u
second_width m u h p = record { power = p; enough = omega (arith, h.enough); no_more = λ l. omega (arith, h.no_more (omega arith)) }

-- ---- the count
few_by_width : (m w : ℕ) → Width m w → m ≤ 8 → by_width w m ≡ 1
few_by_width m w h l =
    let e : w ≤ 1 = dite (dec_lt 1 w) (λ k. absurd (omega (arith, h.no_more k))) (λ k. omega arith) in
    let s : 0 < w = power_some h.power in
    omega arith

above_both : (h k u : ℕ) → h ≤ k → k ≤ h + 1 → (h - 8 * u) + (k - 8 * u) ≡ h + k - 8 * (2 * u)
above_both h k u l g = omega arith

sum_of : (u a b c : ℕ) → 0 < u → a + b ≡ c → 1 + ((2 * (u + a) - 1) + (2 * (u + b) - 1)) ≡ 2 * (2 * u + c) - 1
sum_of u a b c l e = omega arith

halves_sum : (m u : ℕ) → 0 < u → 1 + (by_width u (m / 2) + by_width u (m - m / 2)) ≡ by_width (2 * u) m
halves_sum m u l =
    let k : m / 2 + (m - m / 2) ≡ m = omega arith in
    sum_of u (m / 2 - 8 * u) (m - m / 2 - 8 * u) (m - 8 * (2 * u)) l
    (above_both (m / 2) (m - m / 2) u (omega arith) (omega arith) ∙ ap (λ (z : ℕ). z - 8 * (2 * u)) k)

pub count_is : (d m w : ℕ) → m ≤ d → Width m w → box_count_to d m ≡ by_width w m
count_is zero m w l h = few_boxes zero m (omega arith) ∙ sym (few_by_width m w h (omega arith))
count_is (suc d) m w l h =
    dite (dec_lt 8 m)
    (λ k. go h.power h (λ x u. count_is d x u) k)
    (λ k. few_boxes (suc d) m (omega arith) ∙ sym (few_by_width m w h (omega arith)))
  where
    go : {v : ℕ} → Power v → Width m v → ((x u : ℕ) → x ≤ d → Width x u → box_count_to d x ≡ by_width u x) → 8 < m → box_count_to (suc d) m ≡ by_width v m
    go one g f k =
        let a : box_count_to d (m / 2) ≡ 1 = few_boxes d (m / 2) (omega (arith, g.enough)) in
        let b : box_count_to d (m - m / 2) ≡ 1 = few_boxes d (m - m / 2) (omega (arith, g.enough)) in
        many_boxes d m k ∙ omega (arith, a, b, g.enough)
    go (twice {w = u} p) g f k =
        many_boxes d m k ∙ rw (f (m / 2) u (omega arith) (first_width m u g p), f (m - m / 2) u (omega arith) (second_width m u g p))
        (halves_sum m u (power_some p))

pub below_is : (d m w : ℕ) → m ≤ d → Width m w → boxes_below w m ≡ box_count_to d m
unfolding boxes_below
below_is d m w l h =
    dite (dec_lt 8 m) (λ k. rw (lt-leb m 8 k) (sym (count_is d m w l h))) (λ k. rw (le-leb m 8 (omega arith)) (sym (few_boxes d m (omega arith))))

pub few_below : (d m w : ℕ) → m ≤ 8 → boxes_below w m ≡ box_count_to d m
unfolding boxes_below
few_below d m w l = rw (le-leb m 8 l) (sym (few_boxes d m l))

-- ---- the widths of the halves, and where the second half's boxes begin
pub record Halves (m w : ℕ) : Type 0 where
  pub first_half : 8 < m / 2 → Width (m / 2) (w / 2)
  pub second_half : 8 < m - m / 2 → Width (m - m / 2) (w / 2)
  pub boxes : (d : ℕ) → m / 2 ≤ d → boxes_below (w / 2) (m / 2) ≡ box_count_to d (m / 2)

pub halves : (m w : ℕ) → Width m w → 8 < m → Halves m w
halves m w h l = go h.power h
  where
    go : {v : ℕ} → Power v → Width m v → Halves m v
    go one g = record {
      first_half = λ k. absurd (omega (arith, g.enough));
      second_half = λ k. absurd (omega (arith, g.enough));
      boxes = λ d k. few_below d (m / 2) (1 / 2) (omega (arith, g.enough));
    }
    go (twice {w = u} p) g =
        let e : 2 * u / 2 ≡ u = omega arith in
        record {
          first_half = λ k. subst⁻¹ (Width (m / 2)) e (first_width m u g p);
          second_half = λ k. subst⁻¹ (Width (m - m / 2)) e (second_width m u g p);
          boxes = λ d k. subst⁻¹ (λ (z : ℕ). boxes_below z (m / 2) ≡ box_count_to d (m / 2)) e (below_is d (m / 2) u k (first_width m u g p));
        }

-- ---- doubling until it is enough
pub record Grown (n w : ℕ) : Type 0 where
  pub power : Power w
  pub no_more : 1 < w → 9 * w ≤ 2 * n
  pub small : w ≤ 4096

pub grown_start : (n : ℕ) → Grown n 1
grown_start n = record { power = one; no_more = λ l. absurd (omega arith); small = omega arith }

pub grown_step : {n w : ℕ} → Grown n w → n ≤ 4096 → 9 * w < n → Grown n (2 * w)
grown_step g h l = record { power = twice g.power; no_more = λ _. omega arith; small = omega arith }

pub grown_end : {n w : ℕ} → Grown n w → n ≤ 9 * w → Width n w × (w ≤ 4096)
grown_end g h = (record { power = g.power; enough = h; no_more = g.no_more }, g.small)
