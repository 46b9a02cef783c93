-- Distances in an accepted cloud, and the means of up to ten of them, are f32 from +0 up to 65,536. Assumes nothing.
use Prim.Native.Nat.{ℕ, zero, suc, ◌+◌, ◌*◌, ◌≤◌, ◌<◌}
use native.Mathlib.Omega.{arith}
use mathlib.Core.Path.{◌≡◌, sym, subst}
use mathlib.Core.Bool.{true, false}
use mathlib.Core.List.{List, [], ◌∷◌}
use lib.Count.{count_trailing_zeros}
use lib.IntN.{pos}
use lib.Dec.{T}
use lib.ListN.{length, get_or}
use lib.Ieee.{Float, nan, inf, fin, binary32, span, climb, size, odd, units, round, neg, sum, add, mul, div, lt, eq}
use lib.Ieee.{le, fits, of_int, of_fields, of_bits}
use lib.Ieee.Fits.{add-fits, div-fits}
use lib.Ieee.Scale.{finite}
use lib.Ieee.Positive.{positive}
use Rattle.numbers.specs.Rounded.{f32, ◌⊕◌, ◌⊖◌, ◌⊗◌, ◌⊘◌}
use Rattle.numbers.specs.Root.{isqrt, nearest_root, root_of_units, root}
use Rattle.numbers.specs.Inner.Bounds.{unsigned, Bounded}
use Rattle.numbers.proofs.OrderLaws.{unsigned_le, le_trans, top_le}
use Rattle.numbers.proofs.SumOrder.{add_monotone, add_unsigned}
use Rattle.numbers.proofs.QuotientOrder.{div_monotone, div_unsigned}
use Rattle.numbers.proofs.RootMonotone.{root_monotone}
use Rattle.numbers.proofs.Bounded.{bounded_finite, add_bounded, sub_bounded, mul_bounded}
use Rattle.vector.specs.Vector.{squared, distance}
use Rattle.vector.specs.Inner.Numbers.{Finite}
use Rattle.vector.specs.declared.Point3f.{Point3f}
use Rattle.vector.proofs.Distances.{square, squared_is, squared_fits, squared_unsigned, distance_is}
use Rattle.spatial_hash.proofs.Squares.{root_good}
use Rattle.ranges.specs.Range.{inside, farthest}
use Rattle.lists.proofs.Bools.{and_both}
use Rattle.domain.specs.Inner.Accepted.{Cloud}
use Rattle.points.specs.Points.{point_at}
use Rattle.sorting.specs.Sorted.{whole}
use Rattle.sorting.specs.Each.{All}
use Rattle.radii.specs.Radii.{total, average}
use Rattle.total_order.proofs.Order.{Fine}

pub fine_finite : (top x : Float) → T (finite top) → Fine top x → T (finite x)
unfolding le
fine_finite top nan f h = h.clear
fine_finite top (inf true) f h = absurd h.clear
fine_finite top (inf false) f h = subst (λ (y : Float). T (finite y)) (top_le top h.most) f
fine_finite top (fin s m e) f h = tt

-- 65,536
abbrev pub far : Float
far = f32 0x47800000

abbrev across : Float
across = farthest ⊕ farthest

abbrev square_top : Float
square_top = across ⊗ across

-- ---- what computes
tops : T (finite across) × T (unsigned across) × T (finite square_top) × T (finite (square_top ⊕ square_top))
unfolding count_trailing_zeros span climb size odd units round sum add mul of_fields of_bits
tops = (tt, tt, tt, tt)

root_top : T (le (root ((square_top ⊕ square_top) ⊕ square_top)) far)
unfolding count_trailing_zeros span climb size odd units round sum add mul lt eq le of_fields of_bits isqrt nearest_root root_of_units root
root_top = tt

-- ---- a distance
module _ (p q : Point3f) (fp : Finite p) (fq : Finite q)
    (px : Bounded p.x farthest) (py : Bounded p.y farthest) (pz : Bounded p.z farthest)
    (qx : Bounded q.x farthest) (qy : Bounded q.y farthest) (qz : Bounded q.z farthest) where
  one : (a b : Float) → Bounded a farthest → Bounded b farthest → Bounded (square a b) square_top
  unfolding of_bits
  one a b ha hb =
      let d = sub_bounded a b farthest farthest tt tt ha hb in mul_bounded (a ⊖ b) (a ⊖ b) across across tops.0
      tops.0 tops.1 tops.1 d d

  squared_most : T (le (squared p q) ((square_top ⊕ square_top) ⊕ square_top))
  squared_most = subst (λ (v : Float). T (le v ((square_top ⊕ square_top) ⊕ square_top))) (sym (squared_is p q))
      (add_bounded _ _ (square_top ⊕ square_top) square_top tops.3 tops.2
      (add_bounded _ _ square_top square_top tops.2 tops.2 (one p.x q.x px qx) (one p.y q.y py qy))
      (one p.z q.z pz qz)).upper

  pub distance_fine : Fine far (distance p q)
  distance_fine =
      let g = root_good (squared p q) (squared_fits p q, squared_unsigned p q fp fq) in
      let m = root_monotone (squared p q) ((square_top ⊕ square_top) ⊕ square_top) (squared_fits p q)
      (add-fits binary32 (square_top ⊕ square_top) square_top)
      (unsigned_le (squared p q) (squared_unsigned p q fp fq)) squared_most in
      subst (Fine far) (sym (distance_is p q))
      (record {
        held = g.0;
        clear = g.1;
        most = le_trans (root (squared p q))
            (root ((square_top ⊕ square_top) ⊕ square_top)) far m root_top;
      })

-- the points of a cloud
module _ (n : ℕ) (points : List Float) (cloud : Cloud n points) where
  coordinate : (k : ℕ) → k < length points → Bounded (get_or points k nan) farthest
  unfolding inside
  coordinate k l =
      let b = and_both {p = le (neg farthest) (get_or points k nan)} {q = le (get_or points k nan) farthest} (cloud.near k l) in
      record { upper = subst T (sym b.1) tt; lower = subst T (sym b.0) tt }

  number_at_lem : (k : ℕ) → k < length points → T (finite (get_or points k nan))
  unfolding of_bits
  number_at_lem k l = bounded_finite (get_or points k nan) farthest tt (coordinate k l)

  pub apart_fine : (i j : ℕ) → i < n → j < n → Fine far (distance (point_at points i) (point_at points j))
  unfolding point_at
  apart_fine i j l m =
      let at : (k : ℕ) → k < n → (3 * k + 2 < length points) = λ k h. omega (arith, cloud.threes) in
      let a = at i l in
      let b = at j m in
      distance_fine (point_at points i) (point_at points j)
      (record {
        x_finite = number_at_lem (3 * i) (omega arith);
        y_finite = number_at_lem (3 * i + 1)
            (omega arith);
        z_finite = number_at_lem (3 * i + 2) (omega arith);
      })
      (record {
        x_finite = number_at_lem (3 * j) (omega arith);
        y_finite = number_at_lem (3 * j + 1)
            (omega arith);
        z_finite = number_at_lem (3 * j + 2) (omega arith);
      })
      (coordinate (3 * i) (omega arith)) (coordinate (3 * i + 1) (omega arith)) (coordinate (3 * i + 2) (omega arith))
      (coordinate (3 * j) (omega arith)) (coordinate (3 * j + 1) (omega arith)) (coordinate (3 * j + 2) (omega arith))

-- ---- a mean: k times 65,536, for k up to ten
abbrev level : ℕ → Float
level k = of_int binary32 (pos (k * 65536))

level_step : (k : ℕ) → k < 10 → T (le (level k ⊕ far) (level (suc k))) × T (finite (level k))
unfolding count_trailing_zeros span climb size odd units round sum add lt eq le of_int of_fields of_bits
level_step zero h = (tt, tt)
level_step (suc zero) h = (tt, tt)
level_step (suc (suc zero)) h = (tt, tt)
level_step (suc (suc (suc zero))) h = (tt, tt)
level_step (suc (suc (suc (suc zero)))) h = (tt, tt)
level_step (suc (suc (suc (suc (suc zero))))) h = (tt, tt)
level_step (suc (suc (suc (suc (suc (suc zero)))))) h = (tt, tt)
level_step (suc (suc (suc (suc (suc (suc (suc zero))))))) h = (tt, tt)
level_step (suc (suc (suc (suc (suc (suc (suc (suc zero)))))))) h = (tt, tt)
level_step (suc (suc (suc (suc (suc (suc (suc (suc (suc zero))))))))) h = (tt, tt)
level_step (suc (suc (suc (suc (suc (suc (suc (suc (suc (suc k)))))))))) h = absurd (omega arith)

level_share : (k : ℕ) → 1 ≤ k → k ≤ 10 → T (le (level k ⊘ whole k) far)
unfolding count_trailing_zeros span climb size odd units round sum add div lt eq le of_int of_fields of_bits
level_share zero h g = absurd (omega arith)
level_share (suc zero) h g = tt
level_share (suc (suc zero)) h g = tt
level_share (suc (suc (suc zero))) h g = tt
level_share (suc (suc (suc (suc zero)))) h g = tt
level_share (suc (suc (suc (suc (suc zero))))) h g = tt
level_share (suc (suc (suc (suc (suc (suc zero)))))) h g = tt
level_share (suc (suc (suc (suc (suc (suc (suc zero))))))) h g = tt
level_share (suc (suc (suc (suc (suc (suc (suc (suc zero)))))))) h g = tt
level_share (suc (suc (suc (suc (suc (suc (suc (suc (suc zero))))))))) h g = tt
level_share (suc (suc (suc (suc (suc (suc (suc (suc (suc (suc zero)))))))))) h g = tt
level_share (suc (suc (suc (suc (suc (suc (suc (suc (suc (suc (suc k))))))))))) h g = absurd (omega arith)

count_positive : (k : ℕ) → 1 ≤ k → k ≤ 10 → T (positive (whole k))
unfolding count_trailing_zeros span climb size odd units round of_int
count_positive zero h g = absurd (omega arith)
count_positive (suc zero) h g = tt
count_positive (suc (suc zero)) h g = tt
count_positive (suc (suc (suc zero))) h g = tt
count_positive (suc (suc (suc (suc zero)))) h g = tt
count_positive (suc (suc (suc (suc (suc zero))))) h g = tt
count_positive (suc (suc (suc (suc (suc (suc zero)))))) h g = tt
count_positive (suc (suc (suc (suc (suc (suc (suc zero))))))) h g = tt
count_positive (suc (suc (suc (suc (suc (suc (suc (suc zero)))))))) h g = tt
count_positive (suc (suc (suc (suc (suc (suc (suc (suc (suc zero))))))))) h g = tt
count_positive (suc (suc (suc (suc (suc (suc (suc (suc (suc (suc zero)))))))))) h g = tt
count_positive (suc (suc (suc (suc (suc (suc (suc (suc (suc (suc (suc k))))))))))) h g = absurd (omega arith)

far_finite : T (finite far)
unfolding of_bits
far_finite = tt

finite_level : (k : ℕ) → k ≤ 10 → T (finite (level k))
unfolding count_trailing_zeros span climb size odd units round of_int
finite_level zero h = tt
finite_level (suc zero) h = tt
finite_level (suc (suc zero)) h = tt
finite_level (suc (suc (suc zero))) h = tt
finite_level (suc (suc (suc (suc zero)))) h = tt
finite_level (suc (suc (suc (suc (suc zero))))) h = tt
finite_level (suc (suc (suc (suc (suc (suc zero)))))) h = tt
finite_level (suc (suc (suc (suc (suc (suc (suc zero))))))) h = tt
finite_level (suc (suc (suc (suc (suc (suc (suc (suc zero)))))))) h = tt
finite_level (suc (suc (suc (suc (suc (suc (suc (suc (suc zero))))))))) h = tt
finite_level (suc (suc (suc (suc (suc (suc (suc (suc (suc (suc zero)))))))))) h = tt
finite_level (suc (suc (suc (suc (suc (suc (suc (suc (suc (suc (suc k))))))))))) h = absurd (omega arith)

total_fine : (ds : List Float) (s : Float) (k : ℕ) → k + length ds ≤ 10 → Fine (level k) s → T (finite s)
    → All (Fine far) ds → Fine (level (k + length ds)) (total s ds) × T (finite (total s ds))
unfolding total
total_fine [] s k few h f a = let e : k ≡ k + 0 = omega arith in (subst (λ (m : ℕ). Fine (level m) s) e h, f)
total_fine (x ∷ xs) s k few h f a =
    let l : k < 10 = omega arith in
    let st = level_step k l in
    let fx = fine_finite far x far_finite a.0 in
    let up : T (le (s ⊕ x) (level (suc k))) =
    le_trans (s ⊕ x) (level k ⊕ far) (level (suc k))
    (add_monotone s (level k) x far f st.1 fx far_finite h.most a.0.most) st.0 in
    let one : Fine (level (suc k)) (s ⊕ x) =
    record { held = add-fits binary32 s x; clear = add_unsigned s x h.clear a.0.clear; most = up } in
    let r = total_fine xs (s ⊕ x) (suc k) (omega arith) one
    (fine_finite (level (suc k)) (s ⊕ x) (finite_level (suc k) (omega arith)) one) a.1 in
    let e : suc k + length xs ≡ k + suc (length xs) = omega arith in
    (subst (λ (m : ℕ). Fine (level m) (total (s ⊕ x) xs)) e r.0, r.1)

zero_fine : Fine (level 0) (f32 0)
unfolding count_trailing_zeros span climb size odd units round lt eq le of_int of_fields of_bits fits
zero_fine = record { held = tt; clear = tt; most = tt }

pub average_fine : (ds : List Float) → 1 ≤ length ds → length ds ≤ 10 → All (Fine far) ds → Fine far (average ds)
unfolding average of_bits
average_fine ds some few a = go (total_fine ds (f32 0) 0 (omega arith) zero_fine tt a)
  where
    go : Fine (level (0 + length ds)) (total (f32 0) ds) × T (finite (total (f32 0) ds))
        → Fine far (total (f32 0) ds ⊘ whole (length ds))
    go t =
        let p = count_positive (length ds) some few in
        let e : 0 + length ds ≡ length ds = omega arith in
        let m : T (le (total (f32 0) ds) (level (length ds))) =
        subst (λ (k : ℕ). T (le (total (f32 0) ds) (level k))) e t.0.most in
        record {
          held = div-fits binary32 (total (f32 0) ds) (whole (length ds));
          clear = div_unsigned (total (f32 0) ds) (whole (length ds)) t.1 t.0.clear p;
          most =
              le_trans (total (f32 0) ds ⊘ whole (length ds)) (level (length ds) ⊘ whole (length ds)) far
              (div_monotone (total (f32 0) ds) (level (length ds)) (whole (length ds)) p m)
              (level_share (length ds) some few);
        }
