-- Laws of the list of candidates: what is far by its square is none, and the list grows by those that are. Assumes
-- nothing.
use Prim.Native.Nat.{ℕ, ◌+◌, ◌≤◌, ◌<◌}
use native.Mathlib.Numerals.{add-one}
use native.Mathlib.Omega.{arith}
use native.Mathlib.Decide.{dec_le}
use mathlib.Core.Path.{◌≡◌, sym, ap, ◌∙◌, subst}
use mathlib.Core.Bool.{Bool, true, false, cond}
use mathlib.Core.List.{List, [], ◌∷◌, ◌++◌, append_assoc}
use lib.Dec.{T, not_T}
use lib.ListN.{length, take, get_or, set, length-set}
use lib.Seq.{get_or-set_same, get_or-set_other, take-suc-set}
use lib.Ieee.{Float, nan, lt, le}
use lib.Ieee.Bits.{is_false}
use Rattle.numbers.specs.Rounded.{f32, ◌⊗◌}
use Rattle.numbers.specs.Root.{root}
use Rattle.numbers.proofs.OrderLaws.{le_not_lt}
use Rattle.vector.specs.Vector.{squared, distance}
use Rattle.vector.specs.declared.Point3f.{Point3f}
use Rattle.vector.proofs.Distances.{squared_fits}
use Rattle.points.specs.Points.{point_at}
use Rattle.plain.specs.declared.PlainLimits.{PlainLimits}
use Rattle.plain.specs.Plain.{candidate}
use Rattle.plain.specs.Inner.Listed.{RadiusLimited, candidate_apart, Adds, DistancesListed}
use Rattle.plain.proofs.Plain.{from, from_more}

-- ---- candidates

module _ (points : List Float) (radius : Float) (i j : ℕ) {l : PlainLimits} (h : RadiusLimited radius l) {p q : Point3f} {s : Float} (ep : p ≡ point_at points i)
    (eq : q ≡ point_at points j) (es : s ≡ squared p q) where
  square_is : s ≡ squared (point_at points i) (point_at points j)
  square_is = cc

  pub far_none : T (lt l.square s) → candidate points radius i j ≡ false
  unfolding candidate distance
  far_none k =
      let S = squared (point_at points i) (point_at points j) in
      let m = h.far S (squared_fits (point_at points i) (point_at points j)) (subst (λ (v : Float). T (lt l.square v)) square_is k) in
      is_false (le (root S) (radius ⊗ f32 0x40000000))
      (not_T (le (root S) (radius ⊗ f32 0x40000000))
      (λ n. le_not_lt (root S) (radius ⊗ f32 0x40000000) n (subst (λ (v : Float). T (lt v (root S))) h.reach_is m)))

  pub apart_is : {d : Float} → d ≡ root s → d ≡ candidate_apart points i j
  unfolding distance
  apart_is e = e ∙ ap root square_is

  pub near_is : {d : Float} {t : Bool} → d ≡ root s → le d l.reach ≡ t → candidate points radius i j ≡ t
  unfolding candidate
  near_is {d} {t} e f = subst (λ (v : Float). le (candidate_apart points i j) v ≡ t) h.reach_is (subst (λ (v : Float). le v l.reach ≡ t) (apart_is e) f)

-- ---- one point

module _ (points : List Float) (radius : Float) (i j : ℕ) (w : List ℕ) (lengths : List Float) (count : ℕ) where
  pub adds_none : candidate points radius i j ≡ false → Adds points radius i j w lengths count w lengths count
  adds_none e = record { counted = rw e; stored = rw e; measured = rw e }

  pub adds_one : (d : Float) → candidate points radius i j ≡ true → d ≡ candidate_apart points i j
      → Adds points radius i j w lengths count (set w count j) (set lengths count d) (count + 1)
  adds_one d e f = record { counted = rw e; stored = rw e; measured = rw e (ap (set lengths count) f) }

  lists_one : DistancesListed points i w lengths count → count < length w → count < length lengths → j < i
      → DistancesListed points i (set w count j) (set lengths count (candidate_apart points i j)) (count + 1)
  lists_one l a b h = record {
    words_enough = simp length-set (omega arith);
    lengths_enough = simp length-set (omega arith);
    below = λ k q. low k q (dec_le count k);
    distances = λ k q. far k q (dec_le count k);
  }
    where
      other : (k : ℕ) → (count ≤ k → ⊥) → k ≡ count → ⊥
      other k m e = m (omega arith)

      low : (k : ℕ) → k < count + 1 → Dec (count ≤ k) → get_or (set w count j) k 0 < i
      low k q (yes m) =
          let e : count ≡ k = omega arith in
          subst (λ (n : ℕ). get_or (set w count j) n 0 < i) e (subst (λ (v : ℕ). v < i) (sym (get_or-set_same w count j 0 a)) h)
      low k q (no m) = subst (λ (v : ℕ). v < i) (sym (get_or-set_other w count k j 0 (other k m))) (l.below k (omega arith))

      far : (k : ℕ) → k < count + 1 → Dec (count ≤ k) → get_or (set lengths count (candidate_apart points i j)) k nan
          ≡ candidate_apart points i (get_or (set w count j) k 0)
      far k q (yes m) =
          let e : count ≡ k = omega arith in
          subst (λ (n : ℕ). get_or (set lengths count (candidate_apart points i j)) n nan ≡ candidate_apart points i (get_or (set w count j) n 0)) e
          (get_or-set_same lengths count (candidate_apart points i j) nan b ∙ ap (candidate_apart points i) (sym (get_or-set_same w count j 0 a)))
      far k q (no m) = get_or-set_other lengths count k (candidate_apart points i j) nan (other k m) ∙ l.distances k (omega arith) ∙ ap (candidate_apart points i)
          (sym (get_or-set_other w count k j 0 (other k m)))

-- ---- one after the other

module _ {points : List Float} {radius : Float} {i j : ℕ} {w : List ℕ} {lengths : List Float} {count : ℕ} {w' : List ℕ} {lengths' : List Float} {r : ℕ}
    (a : Adds points radius i j w lengths count w' lengths' r) (h : j < i) (few : count ≤ j) (n : i ≤ length w) (m : i ≤ length lengths) where
  pub count_step : r ≤ j + 1
  count_step = go (candidate points radius i j) a.counted
    where
      go : (t : Bool) → r ≡ cond t (count + 1) count → r ≤ j + 1
      go true e = omega arith
      go false e = omega arith

  pub lists_step : DistancesListed points i w lengths count → DistancesListed points i w' lengths' r
  lists_step l = go (candidate points radius i j) a.counted a.stored a.measured
    where
      go : (t : Bool) → r ≡ cond t (count + 1) count → w' ≡ cond t (set w count j) w → lengths' ≡ cond t (set lengths count (candidate_apart points i j)) lengths
          → DistancesListed points i w' lengths' r
      go true e f g = rw (e, f, g) (lists_one points radius i j w lengths count l (omega arith) (omega arith) h)
      go false e f g = rw (e, f, g) l

  -- what is listed, and what is to come, is all
  pub all_step : (whole : List ℕ) → take count w ++ from points radius i j ≡ whole → take r w' ++ from points radius i (j + 1) ≡ whole
  all_step whole q = go (candidate points radius i j) (from_more points radius i j h) a.counted a.stored
    where
      rest : List ℕ
      rest = from points radius i (j + 1)

      go : (t : Bool) → from points radius i j ≡ cond t (j ∷ rest) rest → r ≡ cond t (count + 1) count → w' ≡ cond t (set w count j) w → take r w' ++ rest
          ≡ whole
      go true g e f =
          let k : count < length w = omega arith in
          rw (e, f)
          (ap (λ (l : List ℕ). l ++ rest) (ap (λ (c : ℕ). take c (set w count j)) (add-one count) ∙ take-suc-set w count j k)
          ∙ append_assoc (take count w) (j ∷ []) rest ∙ ap (λ (l : List ℕ). take count w ++ l) (sym g) ∙ q)
      go false g e f = rw (e, f) (ap (λ (l : List ℕ). take count w ++ l) (sym g) ∙ q)
