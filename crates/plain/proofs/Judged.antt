-- A triangle is sound if its tests say `NarrowTriangle` (`narrow_sound`), and not if they say `Wide` (`wide_unsound`)
-- or its cross product is too short (`thin_unsound`). Assumes nothing.
use mathlib.Core.Path.{◌≡◌, refl, sym, ◌∙◌, subst}
use mathlib.Core.Logic.{◌⊎◌, inl, inr}
use mathlib.Core.Bool.{Bool, true, false, not, ◌&&◌, true≢false}
use Prim.Native.Nat.{zero, suc, ◌^◌}
use native.Mathlib.Nat.{zero-lt-suc}
use lib.Dec.{T, not_T, lt→ltb, eqb-suc-zero}
use lib.Ieee.{Float, nan, inf, fin, binary32, mul, lt, le, fits, is_nan, of_bits}
use lib.Ieee.Bits.{is_true, is_false}
use lib.Ieee.Fits.{mul-fits}
use lib.Ieee.Scale.{finite}
use lib.Ieee.Positive.{positive, positive-finite, positive_of_value, between}
use Rattle.numbers.specs.Rounded.{f32, ◌⊗◌, ◌⊘◌}
use Rattle.numbers.specs.Root.{root}
use Rattle.numbers.proofs.OrderLaws.{le_left, le_right, lt_le, le_or_lt, le_not_lt, le_top, le_trans, lt_le_trans, le_lt_trans, finite_number, unsigned_number_lem}
use Rattle.numbers.proofs.OrderLaws.{unsigned_le, positive_unsigned}
use Rattle.numbers.specs.Inner.Bounds.{unsigned}
use Rattle.numbers.proofs.RootMonotone.{root_monotone}
use Rattle.numbers.proofs.RootNearest.{root_nearest}
use Rattle.numbers.proofs.ProductOrder.{mul_monotone_finite, mul_monotone, mul_number, factor_above, mul_commutative, square_unsigned}
use Rattle.numbers.proofs.QuotientOrder.{div_number, div_monotone}
use Rattle.numbers.proofs.Bounded.{mul_unsigned, mul_finite, root_finite}
use Rattle.numbers.proofs.Above.{positive_is, positive_signless, finite_under}
use Rattle.vector.specs.Vector.{difference, magnitude_squared, magnitude, cross, squared, distance}
use Rattle.quality.specs.Measures.{half, tiny, radius_of}
use Rattle.triangle.specs.Quality.{area, circumradius}
use Rattle.vector.specs.declared.Point3f.{Point3f}
use Rattle.vector.proofs.Distances.{squared_fits, squared_nonnegative, distance_turned, magnitude_unsigned, magnitude_nonnegative}
use Rattle.area_bounds.specs.Inner.AreaBound.{cross_squared}
use Rattle.area_bounds.proofs.AreaBound.{magnitude_fits, cross_fits, squares_finite, half_root_monotone}
use Rattle.plain.specs.Plain.{sound}
use Rattle.plain.specs.Inner.Bounds.{thin, least_cross, largest_number, fourfold, NarrowTriangle, Wide}
use Rattle.plain.proofs.RootBounds.{root_least, root_most}
use Rattle.plain.proofs.QuotientBounds.{quotient_most, quotient_least, quotient_antitone}

-- ---- numbers above 0

finite_below : (u v : Float) → T (unsigned u) → T (lt u v) → T (finite u)
finite_below nan v u h = absurd u
finite_below (inf true) v u h = absurd u
finite_below (inf false) v u h = absurd (le_not_lt v (inf false) (le_top v (le_right (inf false) v (lt_le (inf false) v h))) h)
finite_below (fin s m e) v u h = tt

finite_between : (u v : Float) → T (le (f32 0) u) → T (lt u v) → T (finite u)
unfolding of_bits le
finite_between nan v z h = absurd z
finite_between (inf true) v z h = absurd z
finite_between (inf false) v z h = finite_below (inf false) v tt h
finite_between (fin s m e) v z h = tt

largest_finite_lem : T (finite largest_number)
unfolding of_bits
largest_finite_lem = tt

zero-le : (x : Float) → T (lt (f32 0) x) → T (le (f32 0) x)
zero-le x h = lt_le (f32 0) x h

-- an unsigned number of a square that is below another
square_finite : (z s : Float) → T (lt (f32 0) z) → T (lt (z ⊗ z) s) → T (finite z)
square_finite z s p h = (mul_finite z z (finite_below (z ⊗ z) s (square_unsigned z (le_right (f32 0) z (zero-le z p))) h)).0

pub number_scaled : (y c : Float) → T (not (is_nan y)) → T (positive c) → T (not (is_nan (y ⊗ c)))
number_scaled nan c k p = absurd (unfold is_nan in k)
number_scaled (inf s) nan k p = absurd p
number_scaled (inf s) (inf t) k p = absurd p
number_scaled (inf s) (fin true n d) k p = absurd p
number_scaled (inf s) (fin false zero d) k p = absurd p
number_scaled (inf s) (fin false (suc n) d) k p = unfold mul is_nan in rw (eqb-suc-zero n) tt
number_scaled (fin s m e) c k p = mul_number (fin s m e) c tt (positive-finite c p)

-- ---- roots

root_positive : (x : Float) → T (fits binary32 x) → T (positive x) → T (positive (root x))
root_positive x f p = let a = root_nearest x f p in positive_of_value (root x) a.R (2 ^ 149) a.result a.above_zero

root_unsigned : (x : Float) → T (fits binary32 x) → T (unsigned x) → T (unsigned (root x))
root_unsigned nan f u = absurd u
root_unsigned (inf true) f u = absurd u
root_unsigned (inf false) f u = unfold root in tt
root_unsigned (fin true m e) f u = absurd u
root_unsigned (fin false zero e) f u = unfold root in tt
root_unsigned (fin false (suc m) e) f u =
    positive_signless (root (fin false (suc m) e)) (root_positive (fin false (suc m) e) f (lt→ltb 0 (suc m) (zero-lt-suc m)))

-- a sum of squares, where it is finite
magnitude_plain : (v : Point3f) → T (finite (magnitude_squared v)) → T (unsigned (magnitude_squared v))
magnitude_plain v f =
    let g = squares_finite v f in
    magnitude_unsigned v (finite_number v.x (mul_finite v.x v.x g.0).0) (finite_number v.y (mul_finite v.y v.y g.1).0)
    (finite_number v.z (mul_finite v.z v.z g.2).0)

squared_plain : (p q : Point3f) → T (finite (squared p q)) → T (unsigned (squared p q))
unfolding squared
squared_plain p q f = magnitude_plain (difference p q) f

length_plain : (p q : Point3f) → T (finite (distance p q)) → T (unsigned (distance p q))
unfolding distance
length_plain p q f = root_unsigned (squared p q) (squared_fits p q) (squared_plain p q (root_finite (squared p q) f))

-- the root of an edge's square, by a guess
edge_most : (e b : Float) → T (fits binary32 e) → T (fits binary32 b) → T (positive b) → T (le (f32 0) e) → T (lt (f32 0) b) → T (lt e (b ⊗ b))
    → T (le (root e) b)
edge_most e b f g p z q h = go (le_or_lt e (f32 0) (le_left e (b ⊗ b) (lt_le e (b ⊗ b) h)) (le_left (f32 0) e z))
  where
    go : T (le e (f32 0)) ⊎ T (lt (f32 0) e) → T (le (root e) b)
    go (inl k) = le_trans (root e) (f32 0) b
        (le_trans (root e) (root (f32 0)) (f32 0) (root_monotone e (f32 0) f (unfold fits of_bits in tt) z k) (unfold root le of_bits in tt)) (zero-le b q)
    go (inr k) = root_most b e g f p (positive_is e k (finite_below e (b ⊗ b) (positive_unsigned e k) h)) h

-- ---- four times the area

abbrev four : Float
four = f32 0x40800000

half_finite : T (finite half)
unfolding of_bits
half_finite = tt

half_unsigned : T (unsigned half)
unfolding of_bits
half_unsigned = tt

half_le : T (le (f32 0) half)
unfolding le of_bits
half_le = tt

four_finite : T (finite four)
unfolding of_bits
four_finite = tt

four_le : T (le (f32 0) four)
unfolding le of_bits
four_le = tt

halved_finite : (u v : Float) → T (unsigned u) → T (finite v) → T (le u v) → T (finite (v ⊗ half)) → T (finite (u ⊗ half))
halved_finite u v a g h k =
    let f = finite_under u v a h g in
    finite_under (u ⊗ half) (v ⊗ half) (mul_unsigned u half f half_finite a half_unsigned) (mul_monotone_finite u v half f g half_finite h half_le) k

fourfold_monotone : (u v : Float) → T (unsigned u) → T (finite v) → T (le u v) → T (finite (v ⊗ half)) → T (le (fourfold u) (fourfold v))
unfolding fourfold
fourfold_monotone u v a g h k =
    let f = finite_under u v a h g in
    rw (mul_commutative four (u ⊗ half), mul_commutative four (v ⊗ half))
    (mul_monotone_finite (u ⊗ half) (v ⊗ half) four (halved_finite u v a g h k) k four_finite (mul_monotone_finite u v half f g half_finite h half_le) four_le)

fourfold_finite : (z : Float) → T (finite (fourfold z)) → T (finite z) × T (finite (z ⊗ half))
unfolding fourfold
fourfold_finite z f = let g = (mul_finite four (z ⊗ half) f).1 in ((mul_finite z half g).0, g)

fourfold_above : (z : Float) → T (lt (f32 0) (fourfold z)) → T (lt (f32 0) z)
unfolding fourfold
fourfold_above z h =
    factor_above z half half_finite half_le
    (factor_above (z ⊗ half) four four_finite four_le (subst (λ (v : Float). T (lt (f32 0) v)) (mul_commutative four (z ⊗ half)) h))

-- the product of a guess b with two lengths is above 0, and so is b, and its product with the first length
guess_above : (A b C : Float) → T (finite A) → T (finite C) → T (unsigned A) → T (unsigned C) → T (lt (f32 0) (A ⊗ b ⊗ C)) → T (lt (f32 0) b)
    × T (lt (f32 0) (A ⊗ b))
guess_above A b C f_a fC uA uC h =
    let k = factor_above (A ⊗ b) C fC (unsigned_le C uC) h in
    (factor_above b A f_a (unsigned_le A uA) (subst (λ (v : Float). T (lt (f32 0) v)) (mul_commutative A b) k), k)

-- ---- the length of a cross product that is long enough

module _ (s : Float) (f : T (fits binary32 s)) (l : T (le least_cross s)) (h : T (le s largest_number)) where
  long_positive : T (positive s)
  long_positive = between least_cross s largest_number (unfold of_bits in tt) (unfold of_bits in tt) l h

  length_finite : T (finite (root s))
  length_finite = positive-finite (root s) (root_positive s f long_positive)

  length_unsigned : T (unsigned (root s))
  length_unsigned = positive_signless (root s) (root_positive s f long_positive)

  length_above : T (le (root least_cross) (root s))
  length_above = root_monotone least_cross s (unfold fits of_bits in tt) f (unfold le of_bits in tt) l

  length_below : T (le (root s) (root largest_number))
  length_below = root_monotone s largest_number f (unfold fits of_bits in tt) (le_trans (f32 0) least_cross s (unfold le of_bits in tt) l) h

  length_halved : T (finite (root s ⊗ half))
  length_halved = halved_finite (root s) (root largest_number) length_unsigned (unfold root of_bits in tt) length_below (unfold root mul of_bits in tt)

  fourfold_positive : T (positive (fourfold (root s)))
  fourfold_positive =
      between (fourfold (root least_cross)) (fourfold (root s)) (fourfold (root largest_number)) (unfold fourfold root mul of_bits in tt)
      (unfold fourfold root mul of_bits in tt)
      (fourfold_monotone (root least_cross) (root s) (unfold root of_bits in tt) length_finite length_above length_halved)
      (fourfold_monotone (root s) (root largest_number) length_unsigned (unfold root of_bits in tt) length_below (unfold root mul of_bits in tt))

  length_long : T (lt (f32 0x358637bd) (root s))
  length_long = lt_le_trans (f32 0x358637bd) (root least_cross) (root s) (unfold root lt of_bits in tt) length_above

  area_some : T (le tiny (root s ⊗ half))
  area_some = le_trans tiny (root least_cross ⊗ half) (root s ⊗ half) (unfold root mul le of_bits in tt)
      (half_root_monotone least_cross s (unfold fits of_bits in tt) f (unfold le of_bits in tt) l)

-- ---- the circumradius against the widest

most : (x w d : Float) → T (fits binary32 x) → T (fits binary32 w) → T (positive x) → T (lt (f32 0) w) → T (positive d) → T (lt x (w ⊗ d)) → T (le (x ⊘ d) w)
most x nan d f g p q r h = absurd (positive_unsigned nan q)
most x (inf true) d f g p q r h = absurd (positive_unsigned (inf true) q)
most x (inf false) d f g p q r h = le_top (x ⊘ d) (div_number x d r (unsigned_number_lem x (positive_signless x p)))
most x (fin t m e) d f g p q r h = quotient_most x (fin t m e) d f g p (positive_is (fin t m e) q tt) r h

-- the product of the edges
unfoldable edges : Point3f → Point3f → Point3f → Float
edges p1 p2 p3 = distance p2 p1 ⊗ distance p3 p2 ⊗ distance p1 p3

module _ (p1 p2 p3 : Point3f) (b z s : Float) (f : T (fits binary32 b)) (g : T (fits binary32 z)) (k : T (fits binary32 s)) (l : T (le least_cross s))
    (h : T (le s largest_number)) where
  narrow_radius : (w : Float) → T (fits binary32 w) → NarrowTriangle (distance p2 p1 ⊗ b ⊗ distance p1 p3) z b (squared p3 p2) s w
      → T (le (edges p1 p2 p3 ⊘ fourfold (root s)) w)
  unfolding edges distance
  narrow_radius w i n =
      let A = distance p2 p1 in
      let C = distance p1 p3 in
      let E = squared p3 p2 in
      let x = A ⊗ b ⊗ C in
      let d = fourfold z in
      let D = fourfold (root s) in
      let fx = finite_below x (w ⊗ d) (positive_unsigned x n.x_above) n.within in
      let fAC = mul_finite (A ⊗ b) C fx in
      let fAb = mul_finite A b fAC.0 in
      let uA = length_plain p2 p1 fAb.0 in
      let uC = length_plain p1 p3 fAC.1 in
      let ab = (guess_above A b C fAb.0 fAC.1 uA uC n.x_above).0 in
      let pb = positive_is b ab fAb.1 in
      let zE = squared_nonnegative p3 p2 (le_left E (b ⊗ b) (lt_le E (b ⊗ b) n.long)) in
      let mE = edge_most E b (squared_fits p3 p2) f pb zE ab n.long in
      let uE = root_unsigned E (squared_fits p3 p2) (squared_plain p3 p2 (finite_between E (b ⊗ b) zE n.long)) in
      let fr = finite_under (root E) b uE mE fAb.1 in
      let m1 : T (le (A ⊗ root E) (A ⊗ b)) = rw (mul_commutative A (root E), mul_commutative A b)
      (mul_monotone_finite (root E) b A fr fAb.1 fAb.0 mE (unsigned_le A uA)) in
      let fAr = finite_under (A ⊗ root E) (A ⊗ b) (mul_unsigned A (root E) fAb.0 fr uA uE) m1 fAC.0 in
      let m2 : T (le (A ⊗ root E ⊗ C) x) = mul_monotone_finite (A ⊗ root E) (A ⊗ b) C fAr fAC.0 fAC.1 m1 (unsigned_le C uC) in
      let px = positive_is x n.x_above fx in
      let az = fourfold_above z n.area_above in
      let pz = positive_is z az (square_finite z s az n.short) in
      let mz = root_least z s g k pz (long_positive s k l h) n.short in
      let md = fourfold_monotone z (root s) (positive_signless z pz) (length_finite s k l h) mz (length_halved s k l h) in
      let pD = fourfold_positive s k l h in
      let pd = positive_is d n.area_above (finite_under d D (positive_unsigned d n.area_above) md (positive-finite D pD)) in
      let aw = factor_above w d (positive-finite d pd) (zero-le d n.area_above) (lt_le_trans (f32 0) x (w ⊗ d) n.x_above (lt_le x (w ⊗ d) n.within)) in
      le_trans (A ⊗ root E ⊗ C ⊘ D) (x ⊘ D) w (div_monotone (A ⊗ root E ⊗ C) x D pD m2)
      (le_trans (x ⊘ D) (x ⊘ d) w (quotient_antitone x d D px pd pD md) (most x w d (mul-fits binary32 (A ⊗ b) C) i px aw pd n.within))

  wide_radius : (w e : Float) → T (fits binary32 e) → Wide (distance p2 p1 ⊗ b ⊗ distance p1 p3) z b (squared p3 p2) s w e
      → T (lt w (edges p1 p2 p3 ⊘ fourfold (root s)))
  unfolding edges distance
  wide_radius w e i n =
      let A = distance p2 p1 in
      let C = distance p1 p3 in
      let E = squared p3 p2 in
      let x = A ⊗ b ⊗ C in
      let d = fourfold z in
      let D = fourfold (root s) in
      let fx = finite_under x largest_number (positive_unsigned x n.x_above) n.x_fits largest_finite_lem in
      let fAC = mul_finite (A ⊗ b) C fx in
      let fAb = mul_finite A b fAC.0 in
      let uA = length_plain p2 p1 fAb.0 in
      let above = guess_above A b C fAb.0 fAC.1 uA (length_plain p1 p3 fAC.1) n.x_above in
      let pb = positive_is b above.0 fAb.1 in
      let aC = factor_above C (A ⊗ b) fAC.0 (zero-le (A ⊗ b) above.1)
      (subst (λ (v : Float). T (lt (f32 0) v)) (mul_commutative (A ⊗ b) C) n.x_above) in
      let pC = positive_is C aC fAC.1 in
      let aE = le_lt_trans (f32 0) (b ⊗ b) E (unsigned_le (b ⊗ b) (square_unsigned b (finite_number b fAb.1))) n.short in
      let pE = positive_is E aE (finite_under E largest_number (positive_unsigned E aE) n.edge_fits largest_finite_lem) in
      let mE = root_least b E f (squared_fits p3 p2) pb pE n.short in
      let fr = positive-finite (root E) (root_positive E (squared_fits p3 p2) pE) in
      let m1 : T (le (A ⊗ b) (A ⊗ root E)) = rw (mul_commutative A b, mul_commutative A (root E))
      (mul_monotone_finite b (root E) A fAb.1 fr fAb.0 mE (unsigned_le A uA)) in
      let m2 : T (le x (A ⊗ root E ⊗ C)) = mul_monotone (A ⊗ b) (A ⊗ root E) C fAC.1 m1 (zero-le C aC) (finite_number x fx)
      (number_scaled (A ⊗ root E) C (mul_number A (root E) fAb.0 fr) pC) in
      let px = positive_is x n.x_above fx in
      let fd = finite_under d largest_number (positive_unsigned d n.area_above) n.area_fits largest_finite_lem in
      let fz = fourfold_finite z fd in
      let pz = positive_is z (fourfold_above z n.area_above) fz.0 in
      let pd = positive_is d n.area_above fd in
      let pe = positive_is e n.beyond_above (finite_under e largest_number (positive_unsigned e n.beyond_above) n.beyond_fits largest_finite_lem) in
      let mz = root_most z s g k pz (long_positive s k l h) n.long in
      let md = fourfold_monotone (root s) z (length_unsigned s k l h) fz.0 mz fz.1 in
      let pD = fourfold_positive s k l h in
      lt_le_trans w e (A ⊗ root E ⊗ C ⊘ D) n.apart
      (le_trans e (x ⊘ d) (A ⊗ root E ⊗ C ⊘ D) (quotient_least x e d (mul-fits binary32 (A ⊗ b) C) i px pe pd n.out)
      (le_trans (x ⊘ d) (x ⊘ D) (A ⊗ root E ⊗ C ⊘ D) (quotient_antitone x D d px pD pd md) (div_monotone x (A ⊗ root E ⊗ C) D pD m2)))

-- ---- the triangle

-- the circumradius, where there is an area
module _ (p1 p2 p3 : Point3f) where
  some_area : T (le tiny (root (cross_squared p1 p2 p3) ⊗ half)) → lt (area p1 p2 p3) tiny ≡ false
  unfolding area magnitude cross_squared
  some_area h = is_false (lt (area p1 p2 p3) tiny) (not_T (lt (area p1 p2 p3) tiny) (λ k. le_not_lt tiny (area p1 p2 p3) h k))

  radius_is : T (le tiny (root (cross_squared p1 p2 p3) ⊗ half)) → circumradius p1 p2 p3 ≡ edges p1 p2 p3 ⊘ fourfold (root (cross_squared p1 p2 p3))
  unfolding circumradius edges fourfold radius_of
  radius_is h = rw (some_area h) (unfold area magnitude cross_squared in refl)

module _ (p1 p2 p3 : Point3f) (b z radius : Float) (f : T (fits binary32 b)) (g : T (fits binary32 z)) (l : T (le least_cross (cross_squared p1 p2 p3)))
    (h : T (le (cross_squared p1 p2 p3) largest_number)) where
  pub narrow_sound : NarrowTriangle (distance p2 p1 ⊗ b ⊗ distance p1 p3) z b (squared p3 p2) (cross_squared p1 p2 p3) (radius ⊗ f32 0x3fc00000)
      → sound p1 p2 p3 radius ≡ true
  unfolding sound
  narrow_sound n =
      let S = cross_squared p1 p2 p3 in
      let k = cross_fits p1 p2 p3 in
      let w = radius ⊗ f32 0x3fc00000 in
      let long : lt (f32 0x358637bd) (magnitude (cross (difference p2 p1) (difference p3 p1)))
      ≡ true = unfold magnitude cross_squared in is_true (lt (f32 0x358637bd) (root S)) (length_long S k l h) in
      let r : T (le (circumradius p1 p2 p3) w) = rw (radius_is p1 p2 p3 (area_some S k l h))
      (narrow_radius p1 p2 p3 b z S f g k l h w (mul-fits binary32 radius (f32 0x3fc00000)) n) in
      rw (long, is_true (le (circumradius p1 p2 p3) w) r)

  pub wide_unsound : (e : Float) → T (fits binary32 e)
      → Wide (distance p2 p1 ⊗ b ⊗ distance p1 p3) z b (squared p3 p2) (cross_squared p1 p2 p3) (radius ⊗ f32 0x3fc00000) e → sound p1 p2 p3 radius ≡ false
  unfolding sound
  wide_unsound e i n =
      let S = cross_squared p1 p2 p3 in
      let k = cross_fits p1 p2 p3 in
      let w = radius ⊗ f32 0x3fc00000 in
      let r : T (lt w (circumradius p1 p2 p3)) = rw (radius_is p1 p2 p3 (area_some S k l h)) (wide_radius p1 p2 p3 b z S f g k l h w e i n) in
      rw (is_false (le (circumradius p1 p2 p3) w) (not_T (le (circumradius p1 p2 p3) w) (λ q. le_not_lt (circumradius p1 p2 p3) w q r)))
      (neither (lt (f32 0x358637bd) (magnitude (cross (difference p2 p1) (difference p3 p1)))))
    where
      neither : (t : Bool) → (t && false) ≡ false
      neither true = refl
      neither false = refl

pub thin_unsound : (p1 p2 p3 : Point3f) (radius : Float) → T (le (cross_squared p1 p2 p3) thin) → sound p1 p2 p3 radius ≡ false
unfolding sound magnitude cross_squared
thin_unsound p1 p2 p3 radius h =
    let v = cross (difference p2 p1) (difference p3 p1) in
    let S = magnitude_squared v in
    let m = root_monotone S thin (magnitude_fits v) (unfold fits of_bits in tt) (magnitude_nonnegative v (le_left S thin h)) h in
    let k = le_trans (root S) (root thin) (f32 0x358637bd) m (unfold root le of_bits in tt) in
    rw (is_false (lt (f32 0x358637bd) (root S)) (not_T (lt (f32 0x358637bd) (root S)) (λ q. le_not_lt (root S) (f32 0x358637bd) k q)))

-- ---- the same of numbers that are known to be the triangle's

module _ (p1 p2 p3 : Point3f) (b z radius : Float) {a c edge s w : Float} (ea : a ≡ distance p1 p2) (ec : c ≡ distance p1 p3) (ee : edge ≡ squared p3 p2)
    (es : s ≡ cross_squared p1 p2 p3) (ew : w ≡ radius ⊗ f32 0x3fc00000)
    (f : T (fits binary32 b)) (g : T (fits binary32 z)) (l : T (le least_cross s)) (h : T (le s largest_number)) where
  least_is : T (le least_cross (cross_squared p1 p2 p3))
  least_is = subst (λ (v : Float). T (le least_cross v)) es l

  largest_is : T (le (cross_squared p1 p2 p3) largest_number)
  largest_is = subst (λ (v : Float). T (le v largest_number)) es h

  pub narrow_given : NarrowTriangle (a ⊗ b ⊗ c) z b edge s w → sound p1 p2 p3 radius ≡ true
  narrow_given n =
      let n1 = subst (λ (v : Float). NarrowTriangle (v ⊗ b ⊗ c) z b edge s w) (ea ∙ distance_turned p1 p2) n in
      let n2 = subst (λ (v : Float). NarrowTriangle (distance p2 p1 ⊗ b ⊗ v) z b edge s w) ec n1 in
      let n3 = subst (λ (v : Float). NarrowTriangle (distance p2 p1 ⊗ b ⊗ distance p1 p3) z b v s w) ee n2 in
      let n4 = subst (λ (v : Float). NarrowTriangle (distance p2 p1 ⊗ b ⊗ distance p1 p3) z b (squared p3 p2) v w) es n3 in
      narrow_sound p1 p2 p3 b z radius f g least_is largest_is
      (subst (λ (v : Float). NarrowTriangle (distance p2 p1 ⊗ b ⊗ distance p1 p3) z b (squared p3 p2) (cross_squared p1 p2 p3) v) ew n4)

  pub wide_given : (e : Float) → T (fits binary32 e) → Wide (a ⊗ b ⊗ c) z b edge s w e → sound p1 p2 p3 radius ≡ false
  wide_given e i n =
      let n1 = subst (λ (v : Float). Wide (v ⊗ b ⊗ c) z b edge s w e) (ea ∙ distance_turned p1 p2) n in
      let n2 = subst (λ (v : Float). Wide (distance p2 p1 ⊗ b ⊗ v) z b edge s w e) ec n1 in
      let n3 = subst (λ (v : Float). Wide (distance p2 p1 ⊗ b ⊗ distance p1 p3) z b v s w e) ee n2 in
      let n4 = subst (λ (v : Float). Wide (distance p2 p1 ⊗ b ⊗ distance p1 p3) z b (squared p3 p2) v w e) es n3 in
      wide_unsound p1 p2 p3 b z radius f g least_is largest_is e i
      (subst (λ (v : Float). Wide (distance p2 p1 ⊗ b ⊗ distance p1 p3) z b (squared p3 p2) (cross_squared p1 p2 p3) v e) ew n4)

-- ---- answers

pub holds : {b : Bool} → b ≡ true → T b
holds e = subst T (sym e) tt

pub never : {A : Type 0} → false ≡ true → A
never e = absurd (true≢false (sym e))
