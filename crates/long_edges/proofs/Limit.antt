-- The limit is one (`limit_is`, `no_limit`): what passes it has an edge ratio times the root of the area above the
-- bound. Assumes nothing.
use mathlib.Core.Path.{◌≡◌, refl, ap}
use Prim.Native.Nat.{ℕ, ◌*◌, ◌^◌, ◌<◌}
use native.Mathlib.Nat.{le_refl}
use native.Mathlib.Omega.{arith}
use native.Mathlib.Bridge.{IsLe, le_by_compare}
use lib.Dec.{T, not_T}
use lib.Pow.{pow_pos}
use lib.Ieee.{Float, nan, binary32, lt, le, fits, mul, of_bits}
use lib.Ieee.Fits.{and_l, and_r, mul-fits}
use lib.Ieee.Positive.{positive-finite}
use Rattle.numbers.specs.Rounded.{f32, ◌⊗◌, ◌⊘◌}
use Rattle.numbers.specs.Root.{root}
use Rattle.numbers.proofs.OrderLaws.{finite_number, lt_le, not_le_lt}
use Rattle.quality.specs.Measures.{half}
use Rattle.rounding_errors.proofs.Near.{Near, near_eq, near_times, near_cancel}
use Rattle.rounding_errors.proofs.Rounding.{Units, units_pos, units_positive}
use Rattle.rounding_errors.proofs.Operations.{between_units, units_le, mul_units, div_units, root_units}
use Rattle.long_edges.specs.Inner.LongEdges.{edge_between, is_beyond, extent, LongLimit}
use Rattle.long_edges.proofs.Chain.{extent_above, test_above, limit_above, bound_below}

pub half_units : Units half (2 ^ 148) 148 148
unfolding of_bits
half_units = record { value = (refl, refl); low = le_refl (2 ^ 148); high = le_refl (2 ^ 148) }

-- 4.0001
factor_units : Units (f32 0x408000d2) (8388818 * 2 ^ 128) 151 152
unfolding of_bits IsLe
factor_units = record { value = (refl, refl); low = le_by_compare (2 ^ 151) (8388818 * 2 ^ 128) tt; high = le_by_compare (8388818 * 2 ^ 128) (2 ^ 152) tt }

module _ (w v g r : ℕ) (W : 0 < w) (e : w ≡ 2 * v) where
  half_above : Near 1 (r * v) (g * w) → Near 1 r (2 * g)
  half_above h = near_cancel w W (near_eq right left (near_times 2 h))
    where
      left : g * w * 2 ≡ 2 * g * w
      left = omega arith

      right : r * v * 2 ≡ r * w
      right = let i = ap (λ (z : ℕ). r * z) e in omega arith

-- ---- the bound

pub bound_units : (ℓ : Float) → T (fits binary32 ℓ) → T (edge_between ℓ (f32 0x3a800000) (f32 0x47800000)) → (n : ℕ) × Units ℓ n 139 165
unfolding edge_between of_bits
bound_units ℓ f h =
    between_units ℓ (f32 0x3a800000) (f32 0x47800000) 139 165 f (refl, refl) (refl, refl) (and_l (le (f32 0x3a800000) ℓ) _ h)
    (and_r (le (f32 0x3a800000) ℓ) _ h)

-- ---- the squares

pub short_units : (x : Float) → T (fits binary32 x) → T (edge_between x (f32 0x2b800000) (f32 0x4c800000)) → (n : ℕ) × Units x n 109 175
unfolding edge_between of_bits
short_units x f h =
    between_units x (f32 0x2b800000) (f32 0x4c800000) 109 175 f (refl, refl) (refl, refl) (and_l (le (f32 0x2b800000) x) _ h)
    (and_r (le (f32 0x2b800000) x) _ h)

pub long_units : (x : Float) → T (fits binary32 x) → T (edge_between x (f32 0x32800000) (f32 0x4c800000)) → (n : ℕ) × Units x n 123 175
unfolding edge_between of_bits
long_units x f h =
    between_units x (f32 0x32800000) (f32 0x4c800000) 123 175 f (refl, refl) (refl, refl) (and_l (le (f32 0x32800000) x) _ h)
    (and_r (le (f32 0x32800000) x) _ h)

pub cross_units : (x : Float) → T (fits binary32 x) → T (edge_between x (f32 0x21800000) (f32 0x5d800000)) → (n : ℕ) × Units x n 89 209
unfolding edge_between of_bits
cross_units x f h =
    between_units x (f32 0x21800000) (f32 0x5d800000) 89 209 f (refl, refl) (refl, refl) (and_l (le (f32 0x21800000) x) _ h) (and_r (le (f32 0x21800000) x) _ h)

-- ---- the extent is above the bound

module _ (ℓ short long cross : Float) {n S L X : ℕ} (fs : T (fits binary32 short)) (fl : T (fits binary32 long)) (fx : T (fits binary32 cross))
    (ul : Units ℓ n 139 165) (us : Units short S 109 175) (um : Units long L 123 175) (ux : Units cross X 89 209) where
  passed_above : T (lt (ℓ ⊗ ℓ ⊗ (ℓ ⊗ ℓ) ⊗ f32 0x408000d2 ⊗ (short ⊗ short)) (long ⊗ long ⊗ cross)) → T (lt ℓ (extent short long cross))
  unfolding extent
  passed_above h =
      let w : ℕ = 2 ^ 149 in
      let W : 0 < w = pow_pos 149 in
      let a = mul_units 129 181 ul ul tt in
      let b = mul_units 109 213 a.is a.is tt in
      let t = mul_units 111 216 b.is factor_units tt in
      let s = mul_units 69 201 us us tt in
      let o = mul_units 31 268 t.is s.is tt in
      let m = mul_units 97 201 um um tt in
      let k = mul_units 37 261 m.is ux tt in
      let rs = root_units 128 163 fs us tt in
      let rl = root_units 135 163 fl um tt in
      let rx = root_units 118 180 fx ux tt in
      let q = div_units 121 184 rl.is rs.is tt in
      let i = mul_units 117 179 rx.is half_units tt in
      let g = root_units 132 165 (mul-fits binary32 (root cross) half) i.is tt in
      let p = mul_units 104 200 q.is g.is tt in
      let y : Float = (root long ⊘ root short) ⊗ root (root cross ⊗ half) in
      let limits = limit_above w n a.n b.n t.n (8388818 * 2 ^ 128) W refl a.above b.above t.above in
      let tested = test_above w S L X s.n m.n o.n k.n t.n W s.above o.above
      (units_le o.is k.is (lt_le (ℓ ⊗ ℓ ⊗ (ℓ ⊗ ℓ) ⊗ f32 0x408000d2 ⊗ (short ⊗ short)) (long ⊗ long ⊗ cross) h)) k.below m.below in
      let extends = extent_above w S L X rs.n rl.n rx.n q.n i.n g.n p.n W rs.below rl.above rx.above q.above
      (half_above w (2 ^ 148) i.n rx.n W refl i.above) g.above p.above in
      not_le_lt y ℓ (finite_number y (positive-finite y (units_positive p.is))) (finite_number ℓ (positive-finite ℓ (units_positive ul)))
      (not_T (le y ℓ) (λ c. bound_below w n p.n S L X t.n (units_pos ul) (units_pos us) limits tested extends (units_le p.is ul c)))

pub limit_is : (ℓ : Float) → T (fits binary32 ℓ) → T (edge_between ℓ (f32 0x3a800000) (f32 0x47800000)) → LongLimit ℓ (ℓ ⊗ ℓ ⊗ (ℓ ⊗ ℓ) ⊗ f32 0x408000d2)
unfolding is_beyond
limit_is ℓ f b = record {
  above = λ short long cross fs fl fx s h.
      let k = and_r (edge_between long (f32 0x32800000) (f32 0x4c800000)) _ h in
      passed_above ℓ short long cross fs fl fx (bound_units ℓ f b).1 (short_units short fs s).1
      (long_units long fl (and_l (edge_between long (f32 0x32800000) (f32 0x4c800000)) _ h)).1
      (cross_units cross fx (and_l (edge_between cross (f32 0x21800000) (f32 0x5d800000)) _ k)).1
      (and_r (edge_between cross (f32 0x21800000) (f32 0x5d800000)) _ k);
}

pub no_limit : (ℓ : Float) → LongLimit ℓ nan
unfolding is_beyond mul lt
no_limit ℓ = record {
  above = λ short long cross fs fl fx s h. absurd
      (and_r (edge_between cross (f32 0x21800000) (f32 0x5d800000)) _ (and_r (edge_between long (f32 0x32800000) (f32 0x4c800000)) _ h));
}
