-- Sifting and popping, step by step, on a slice that has the entries in front. Assumes nothing.
use mathlib.Core.Path.{◌≡◌, refl, sym, ap, ◌∙◌, subst}
use mathlib.Core.List.{List}
use Prim.Native.Nat.{ℕ, zero, suc, ◌+◌, ◌-◌, ◌≤◌, ◌<◌}
use native.Mathlib.Omega.{arith}
use borrow.Author.Tests.{lt-ltb, le-ltb, ne_eqb}
use lib.ListN.{length, take, drop, get_or, set}
use lib.Seq.{length-take-le, take-set-lt, drop-set-lt, get_or-take, take-take, drop-drop}
use Rattle.patch.specs.Frontier.{sift, after_pop}

-- after some turns the gap of the first m entries of w is at p, and sifting on from there gives what sifting the first
-- m of w₀ from the top gives
pub record Sifting (w₀ : List ℕ) (m v : ℕ) (w : List ℕ) (p : ℕ) : Type 0 where
  pub fuel : ℕ
  pub enough : m ≤ fuel + p
  pub same : sift 0 m (take m w₀) 0 v ≡ sift 0 fuel (take m w) p v
  pub rest : drop m w ≡ drop m w₀

pub start : (w : List ℕ) (m v : ℕ) → Sifting w m v w 0
start w m v = record { fuel = m; enough = omega arith; same = refl; rest = refl }

-- one step of the definition, at a list of m entries
sift_right : (f m : ℕ) (xs : List ℕ) (p v : ℕ) → length xs ≡ m → p + p + 2 < m → sift 0 (suc f) xs p v
    ≡ sift 0 f (set xs p (get_or xs (p + p + 2) 0)) (p + p + 2) v
unfolding sift
sift_right f m xs p v e h = rw (e, lt-ltb (p + p + 2) m h)

sift_left : (f m : ℕ) (xs : List ℕ) (p v : ℕ) → length xs ≡ m → m ≤ p + p + 2 → p + p + 1 < m → sift 0 (suc f) xs p v
    ≡ set (set xs p (get_or xs (p + p + 1) 0)) (p + p + 1) v
unfolding sift
sift_left f m xs p v e g h = rw (e, le-ltb (p + p + 2) m g, lt-ltb (p + p + 1) m h)

sift_none : (f m : ℕ) (xs : List ℕ) (p v : ℕ) → length xs ≡ m → m ≤ p + p + 1 → sift 0 (suc f) xs p v ≡ set xs p v
unfolding sift
sift_none f m xs p v e g = let k : m ≤ p + p + 2 = omega arith in rw (e, le-ltb (p + p + 2) m k, le-ltb (p + p + 1) m g)

module _ (w₀ : List ℕ) (m v : ℕ) (w : List ℕ) (p : ℕ) (long : m ≤ length w) (inside : p < m) where
  -- the fuel is not out
  more : (f : ℕ) → m ≤ f + p → (g : ℕ) × (f ≡ suc g)
  more zero h = absurd (omega arith)
  more (suc f) h = (f, refl)

  moved : (i : ℕ) → i < m → set (take m w) p (get_or (take m w) i 0) ≡ take m (set w p (get_or w i 0))
  moved i h = ap (λ (a : ℕ). set (take m w) p a) (get_or-take m w i 0 h) ∙ sym (take-set-lt m w p (get_or w i 0) inside)

  pub step : Sifting w₀ m v w p → p + p + 2 < m → Sifting w₀ m v (set w p (get_or w (p + p + 2) 0)) (p + p + 2)
  step s h =
      let g = more s.fuel s.enough in
      let en : m ≤ suc g.0 + p = subst (λ (n : ℕ). m ≤ n + p) g.1 s.enough in
      record {
        fuel = g.0;
        enough = omega arith;
        same = s.same ∙ ap (λ (n : ℕ). sift 0 n (take m w) p v) g.1 ∙ sift_right g.0 m (take m w) p v (length-take-le m w long) h ∙ ap
            (λ (l : List ℕ). sift 0 g.0 l (p + p + 2) v) (moved (p + p + 2) h);
        rest = drop-set-lt m w p (get_or w (p + p + 2) 0) inside ∙ s.rest;
      }

  pub end_left : Sifting w₀ m v w p → m ≤ p + p + 2 → p + p + 1 < m
      → (take m (set (set w p (get_or w (p + p + 1) 0)) (p + p + 1) v) ≡ sift 0 m (take m w₀) 0 v)
      × (drop m (set (set w p (get_or w (p + p + 1) 0)) (p + p + 1) v) ≡ drop m w₀)
  end_left s k h =
      let g = more s.fuel s.enough in (
        sym (s.same ∙ ap (λ (n : ℕ). sift 0 n (take m w) p v) g.1 ∙ sift_left g.0 m (take m w) p v (length-take-le m w long) k h ∙ ap
            (λ (l : List ℕ). set l (p + p + 1) v) (moved (p + p + 1) h) ∙ sym (take-set-lt m (set w p (get_or w (p + p + 1) 0)) (p + p + 1) v h)),
        drop-set-lt m (set w p (get_or w (p + p + 1) 0)) (p + p + 1) v h ∙ drop-set-lt m w p (get_or w (p + p + 1) 0) inside ∙ s.rest,
      )

  pub end_none : Sifting w₀ m v w p → m ≤ p + p + 1 → (take m (set w p v) ≡ sift 0 m (take m w₀) 0 v) × (drop m (set w p v) ≡ drop m w₀)
  end_none s k =
      let g = more s.fuel s.enough in (
        sym (s.same ∙ ap (λ (n : ℕ). sift 0 n (take m w) p v) g.1 ∙ sift_none g.0 m (take m w) p v (length-take-le m w long) k ∙ sym
            (take-set-lt m w p v inside)),
        drop-set-lt m w p v inside ∙ s.rest,
      )

-- ---- pop
pub pop_more : (w u : List ℕ) (n : ℕ) → 0 < n - 1 → n ≤ length w → take (n - 1) u ≡ sift 0 (n - 1) (take (n - 1) w) 0 (get_or w (n - 1) 0) → drop (n - 1) u
    ≡ drop (n - 1) w
    → (take (n - 1) u ≡ after_pop 0 (take n w)) × (drop n u ≡ drop n w)
unfolding after_pop
pop_more w u n h long e d =
    let ne : (n - 1 ≡ 0) → ⊥ = λ (q : n - 1 ≡ 0). omega arith in
    let le : n - 1 ≤ n = omega arith in
    let lt : n - 1 < n = omega arith in
    let en : n - 1 + 1 ≡ n = omega arith in (
      rw (length-take-le n w long, ne_eqb (n - 1) 0 ne, take-take (n - 1) n w le, get_or-take n w (n - 1) 0 lt) e,
      ap (λ (k : ℕ). drop k u) (sym en) ∙ sym (drop-drop 1 (n - 1) u) ∙ ap (λ (l : List ℕ). drop 1 l) d ∙ drop-drop 1 (n - 1) w ∙ ap (λ (k : ℕ). drop k w) en,
    )

pub pop_none : (w : List ℕ) (n : ℕ) → n - 1 ≤ 0 → n ≤ length w → take (n - 1) w ≡ after_pop 0 (take n w)
unfolding after_pop
pop_none w n h long =
    let z : n - 1 ≡ 0 = omega arith in
    rw (length-take-le n w long, z)
