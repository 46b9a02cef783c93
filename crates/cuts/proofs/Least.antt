-- The cloud's least coordinate on an axis: it is one of them, and none is below it. Assumes nothing.
use Prim.Native.Nat.{ℕ, zero, suc, ◌+◌, ◌*◌, ◌<◌}
use native.Mathlib.Omega.{arith}
use mathlib.Core.Path.{◌≡◌, subst}
use mathlib.Core.Bool.{not}
use mathlib.Core.List.{List}
use lib.Dec.{T}
use lib.ListN.{get_or}
use lib.Ieee.{Float, nan, le, is_nan}
use Rattle.numbers.specs.Order.{minimum}
use Rattle.numbers.proofs.OrderLaws.{le_refl, le_trans}
use Rattle.numbers.proofs.Minimum.{minimum_either, minimum_first, minimum_le}
use Rattle.grid.specs.Grid.{least_from}

module _ (pts : List Float) where
  -- what holds of the start and of each coordinate holds of the least
  pub least_keeps : (P : Float → Type 0) (m : ℕ) (a : Float) (at : ℕ) → P a
      → ((i : ℕ) → i < m → P (get_or pts (at + 3 * i) nan)) → P (least_from pts a at m)
  unfolding least_from
  least_keeps P zero a at p h = p
  least_keeps P (suc m) a at p h =
      let here : at + 3 * 0 ≡ at = omega arith in
      least_keeps P m (minimum a (get_or pts at nan)) (at + 3)
      (minimum_either P a (get_or pts at nan) p (subst (λ (k : ℕ). P (get_or pts k nan)) here (h 0 (omega arith))))
      (λ i l. let e : at + 3 * (i + 1)
      ≡ at + 3 + 3 * i = omega arith in subst (λ (k : ℕ). P (get_or pts k nan)) e (h (i + 1) (omega arith)))

  least_start : (m : ℕ) (a : Float) (at : ℕ) → T (not (is_nan a))
      → ((i : ℕ) → i < m → T (not (is_nan (get_or pts (at + 3 * i) nan)))) → T (le (least_from pts a at m) a)
  unfolding least_from
  least_start zero a at f h = le_refl a f
  least_start (suc m) a at f h =
      let here : at + 3 * 0 ≡ at = omega arith in
      let b : Float = get_or pts at nan in
      let g : T (not (is_nan b)) = subst (λ (k : ℕ). T (not (is_nan (get_or pts k nan)))) here (h 0 (omega arith)) in
      le_trans _ (minimum a b) a
      (least_start m (minimum a b) (at + 3) (minimum_either (λ (x : Float). T (not (is_nan x))) a b f g)
      (λ i l. let e : at + 3 * (i + 1)
      ≡ at + 3 + 3 * i = omega arith in subst (λ (k : ℕ). T (not (is_nan (get_or pts k nan)))) e
      (h (i + 1) (omega arith))))
      (minimum_first a b f)

  -- no coordinate is below the least
  pub least_below : (m : ℕ) (a : Float) (at : ℕ) → T (not (is_nan a))
      → ((i : ℕ) → i < m → T (not (is_nan (get_or pts (at + 3 * i) nan)))) → (i : ℕ) → i < m
      → T (le (least_from pts a at m) (get_or pts (at + 3 * i) nan))
  unfolding least_from
  least_below zero a at f h i l = absurd (omega arith)
  least_below (suc m) a at f h i l =
      let here : at + 3 * 0 ≡ at = omega arith in
      let b : Float = get_or pts at nan in
      let g : T (not (is_nan b)) = subst (λ (k : ℕ). T (not (is_nan (get_or pts k nan)))) here (h 0 (omega arith)) in
      let f' : T (not (is_nan (minimum a b))) = minimum_either (λ (x : Float). T (not (is_nan x))) a b f g in
      let h' : (j : ℕ) → j < m → T (not (is_nan (get_or pts (at + 3 + 3 * j) nan))) =
      λ j k. let e : at + 3 * (j + 1)
      ≡ at + 3 + 3 * j = omega arith in subst (λ (k : ℕ). T (not (is_nan (get_or pts k nan)))) e
      (h (j + 1) (omega arith)) in
      go i l f' h' (le_trans _ (minimum a b) b (least_start m (minimum a b) (at + 3) f' h') (minimum_le a b g))
      (λ j k. least_below m (minimum a b) (at + 3) f' h' j k)
    where
      go : (i : ℕ) → i < suc m → T (not (is_nan (minimum a (get_or pts at nan))))
          → ((j : ℕ) → j < m → T (not (is_nan (get_or pts (at + 3 + 3 * j) nan))))
          → T (le (least_from pts (minimum a (get_or pts at nan)) (at + 3) m) (get_or pts at nan))
          → ((j : ℕ) → j < m
          → T (le (least_from pts (minimum a (get_or pts at nan)) (at + 3) m) (get_or pts (at + 3 + 3 * j) nan)))
          → T (le (least_from pts (minimum a (get_or pts at nan)) (at + 3) m) (get_or pts (at + 3 * i) nan))
      go zero l f' h' first rest =
          let e : at
          ≡ at + 3 * 0 = omega arith in subst
          (λ (k : ℕ). T (le (least_from pts (minimum a (get_or pts at nan)) (at + 3) m) (get_or pts k nan))) e first
      go (suc i) l f' h' first rest =
          let e : at + 3 + 3 * i
          ≡ at + 3 * suc i = omega arith in subst
          (λ (k : ℕ). T (le (least_from pts (minimum a (get_or pts at nan)) (at + 3) m) (get_or pts k nan))) e
          (rest i (omega arith))
