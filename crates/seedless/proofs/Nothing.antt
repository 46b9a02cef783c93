-- Where nothing is found: at a radius that is refuses-all (`refuses_all_nothing`), in a cloud that is flat
-- (`flat_nothing`), and with three points that limits refuse. Assumes nothing.
use Prim.Native.Nat.{ℕ, zero, suc, ◌+◌, ◌≤◌, ◌<◌}
use mathlib.Core.Path.{◌≡◌, refl, ap, ◌∙◌}
use mathlib.Core.Logic.{⊎_elim}
use mathlib.Core.Bool.{Bool, true, false, not, ◌&&◌}
use mathlib.Core.List.{List, [], ◌∷◌}
use mathlib.Core.Option.{Option, none}
use native.Mathlib.Omega.{arith}
use lib.Dec.{T, eqb}
use lib.Ieee.{Float, inf, lt}
use borrow.Author.Tests.{eq-eqb}
use Rattle.numbers.specs.Rounded.{◌⊗◌}
use Rattle.vector.specs.Inner.Numbers.{Finite}
use Rattle.points.specs.Points.{point_at}
use Rattle.lists.specs.Lists.{count, unused, up_from}
use Rattle.patch.specs.Search.{Floats, is_second, is_third, third_of, second_of, first_of}
use Rattle.lists.specs.Members.{Below}
use Rattle.lists.proofs.Bools.{either, not-true, true_not_false, and_both, and_false}
use Rattle.decisions.specs.declared.Scene.{Scene}
use Rattle.decisions.specs.Decisions.{is_close, accepts, quality_at, floats_of}
use Rattle.decisions.specs.Inner.Completes.{completes}
use Rattle.decisions.proofs.Within.{within}
use Rattle.filters.specs.declared.Limits.{Limits}
use Rattle.filters.specs.Inner.Refused.{Refused, RefusesAll}
use Rattle.filters.proofs.Refusals.{refuses_all_accepts}
use Rattle.nearby.proofs.Laws.{chosen, passed}
use Rattle.seedless.specs.Inner.Parts.{with_second, with_first}
use Rattle.flatness.specs.Inner.Flat.{Flat}
use Rattle.three_points.specs.Inner.Judged.{Seedless, LimitsAtRadius}
use Rattle.three_points.proofs.Refused.{refused_completes}
use Rattle.seedless.proofs.Laws.{or_else, third_miss, third_end, second_step, second_end, first_tried, first_used, first_spent, first_end}

-- ---- where no third point serves
module _ {R : Type 0} (floats : Floats R) (r : R) (used : List ℕ) where
  pub third_nothing : (i j : ℕ) (ks : List ℕ) → ((k : ℕ) → 1 ≤ count (eqb k) ks → is_third floats r used i j k ≡ false) → third_of floats r used i j ks ≡ none
  third_nothing i j [] h = third_end floats r used i j
  third_nothing i j (k ∷ ks) h =
      let self : eqb k k ≡ true = eq-eqb k k refl in
      third_miss floats r used i j k ks (h k (rw self (omega arith))) ∙ third_nothing i j ks (λ m c. h m (omega arith))

  with_nothing : (i j : ℕ) (ks : List ℕ) → (is_second floats r used i j ≡ true → (k : ℕ) → 1 ≤ count (eqb k) ks → is_third floats r used i j k ≡ false)
      → with_second floats r used i ks j ≡ none
  unfolding with_second
  with_nothing i j ks h = ⊎_elim
      (λ (t : is_second floats r used i j ≡ true). chosen (is_second floats r used i j) (third_of floats r used i j ks) none t ∙ third_nothing i j ks (h t))
      (λ (t : is_second floats r used i j ≡ false). passed (is_second floats r used i j) (third_of floats r used i j ks) none t)
      (either (is_second floats r used i j))

  pub second_nothing : (i : ℕ) (ks js : List ℕ)
      → ((j : ℕ) → 1 ≤ count (eqb j) js → is_second floats r used i j ≡ true → (k : ℕ) → 1 ≤ count (eqb k) ks → is_third floats r used i j k ≡ false)
      → second_of floats r used i ks js ≡ none
  second_nothing i ks [] h = second_end floats r used i ks
  second_nothing i ks (j ∷ js) h =
      let self : eqb j j ≡ true = eq-eqb j j refl in
      second_step floats r used i ks j js
      ∙ ap (λ (o : Option (ℕ × ℕ × ℕ)). or_else o (second_of floats r used i ks js)) (with_nothing i j ks (h j (rw self (omega arith))))
      ∙ second_nothing i ks js (λ m c. h m (omega arith))

  pub first_nothing : (n : ℕ) → ((i : ℕ) → i < n → unused used i ≡ true → with_first floats r used i ≡ none) → (m i tries : ℕ) → i + m ≤ n
      → first_of floats r used (up_from i m) tries ≡ none
  unfolding up_from
  first_nothing n h zero i tries b = first_end floats r used tries
  first_nothing n h (suc m) i zero b = first_spent floats r used i (up_from (i + 1) m)
  first_nothing n h (suc m) i (suc tries) b = ⊎_elim
      (λ (t : unused used i ≡ true).
      first_tried floats r used i (up_from (i + 1) m) tries t
      ∙ ap (λ (o : Option (ℕ × ℕ × ℕ)). or_else o (first_of floats r used (up_from (i + 1) m) tries)) (h i (omega arith) t)
      ∙ first_nothing n h m (i + 1) tries (omega arith))
      (λ (t : unused used i ≡ false). first_used floats r used i (up_from (i + 1) m) tries t ∙ first_nothing n h m (i + 1) (suc tries) (omega arith))
      (either (unused used i))

-- ---- a triangle that is refused
module _ (s : Scene) (pts : List Float) (r : Float) (used : List ℕ) where
  pub third_refused : (i j k : ℕ) → accepts s r (quality_at pts i j k) ≡ false → is_third (floats_of s pts) r used i j k ≡ false
  unfolding is_third floats_of
  third_refused i j k h = rw h (nothing (not (eqb i k)) (not (eqb j k)) (unused used k) (is_close pts r i k) (is_close pts r j k))
    where
      nothing : (a b c d e : Bool) → (a && (b && (c && (d && (e && false))))) ≡ false
      nothing a b c d e = rw (and_false e, and_false d, and_false c, and_false b, and_false a)

  pub first_around : (i : ℕ)
      → ((j : ℕ) → j < s.n → is_second (floats_of s pts) r used i j ≡ true → (k : ℕ) → k < s.n → is_third (floats_of s pts) r used i j k ≡ false)
      → with_first (floats_of s pts) r used i ≡ none
  unfolding with_first
  first_around i h = second_nothing (floats_of s pts) r used i ((floats_of s pts).near r i) ((floats_of s pts).near r i)
      (λ j hj t k hk. h j (near j hj) t k (near k hk))
    where
      near : Below s.n ((floats_of s pts).near r i)
      near = (within s pts).near_below r i

-- ---- a radius that is refuses-all

pub close_second : (s : Scene) (pts : List Float) (r : Float) (used : List ℕ) (i j : ℕ) → is_second (floats_of s pts) r used i j ≡ true → is_close pts r i j ≡ true
unfolding is_second floats_of
close_second s pts r used i j h = (and_both {p = unused used j} (and_both {p = not (eqb i j)} h).1).1

third_parts : (s : Scene) (pts : List Float) (r : Float) (used : List ℕ) (i j k : ℕ) → is_third (floats_of s pts) r used i j k ≡ true → (is_close pts r i k ≡ true)
    × ((is_close pts r j k ≡ true) × (accepts s r (quality_at pts i j k) ≡ true))
unfolding is_third floats_of
third_parts s pts r used i j k h =
    let a = (and_both {p = unused used k} (and_both {p = not (eqb j k)} (and_both {p = not (eqb i k)} h).1).1).1 in
    let b = and_both {p = is_close pts r i k} a in
    let c = and_both {p = is_close pts r j k} b.1 in
    (b.0, (c.0, c.1))

pub refuses_all_nothing : (s : Scene) (pts : List Float) (r : Float) (used : List ℕ) (tries : ℕ) → ((k : ℕ) → k < s.n → Finite (point_at pts k))
    → RefusesAll s r → first_of (floats_of s pts) r used (up_from 0 s.n) tries ≡ none
refuses_all_nothing s pts r used tries numbers h =
    first_nothing (floats_of s pts) r used s.n (λ i hi _. first_around s pts r used i (none_of i hi)) s.n 0 tries (omega arith)
  where
    none_of : (i : ℕ) → i < s.n → (j : ℕ) → j < s.n → is_second (floats_of s pts) r used i j ≡ true → (k : ℕ) → k < s.n → is_third (floats_of s pts) r used i j k
        ≡ false
    none_of i hi j hj second k hk = not-true (λ third.
        let p = third_parts s pts r used i j k third in
        true_not_false p.1.1
        (refuses_all_accepts s pts r i j k (numbers i hi) (numbers j hj) (numbers k hk) (close_second s pts r used i j second) p.0 p.1.0 h))

-- ---- a cloud that is flat

pub flat_nothing : (s : Scene) (pts : List Float) (r : Float) (used : List ℕ) (tries : ℕ) → T (lt (r ⊗ s.max_edge_factor) (inf false)) → Flat s pts
    → first_of (floats_of s pts) r used (up_from 0 s.n) tries ≡ none
flat_nothing s pts r used tries b h =
    first_nothing (floats_of s pts) r used s.n
    (λ i hi _. first_around s pts r used i (λ j hj _ k hk. third_refused s pts r used i j k (h r b i j k hi hj hk))) s.n 0 tries (omega arith)

-- ---- points no two of which make a seed

-- the tests of a third point are those of `completes`, and others
pub completes_third : (s : Scene) (pts : List Float) (r : Float) (used : List ℕ) (i j k : ℕ) → completes s pts r i j k ≡ false
    → is_third (floats_of s pts) r used i j k ≡ false
unfolding is_third floats_of completes
completes_third s pts r used i j k h = rw h (nothing (not (eqb i k)) (not (eqb j k)) (unused used k))
  where
    nothing : (a b c : Bool) → (a && (b && (c && false))) ≡ false
    nothing a b c = rw (and_false c, and_false b, and_false a)

pub limits_third : {s : Scene} {pts : List Float} {r : Float} {l : Limits} {i j k : ℕ} (used : List ℕ) → LimitsAtRadius s pts r l → i < s.n → j < s.n
    → k < s.n → is_close pts r i j ≡ true → Refused l (point_at pts i) (point_at pts j) (point_at pts k)
    → is_third (floats_of s pts) r used i j k ≡ false
limits_third {s} {pts} {r} {i = i} {j = j} {k = k} used g hi hj hk close h = completes_third s pts r used i j k (refused_completes g hi hj hk h close)

pub seedless_third : {s : Scene} {pts : List Float} {r : Float} {i j k : ℕ} (used : List ℕ) → is_close pts r i j ≡ true → Seedless s pts r i j k
    → is_third (floats_of s pts) r used i j k ≡ false
seedless_third {s} {pts} {r} {i} {j} {k} used close h = completes_third s pts r used i j k (h.first.forward close)
