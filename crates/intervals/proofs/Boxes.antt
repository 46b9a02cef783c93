-- Boxes: laws of one axis on all three. Assumes nothing.
use mathlib.Core.Path.{◌≡◌}
use mathlib.Core.Bool.{not, ◌&&◌}
use lib.Dec.{T}
use lib.Ieee.{Float, binary32, le, is_nan, of_bits}
use lib.Ieee.Fits.{and_i, and_l, and_r, add-fits}
use lib.Ieee.Scale.{finite}
use Rattle.numbers.specs.Order.{minimum, maximum}
use Rattle.numbers.specs.Rounded.{f32, ◌⊕◌, ◌⊖◌, ◌⊗◌}
use Rattle.numbers.proofs.OrderLaws.{finite_number, le_left, le_right, le_refl, le_trans, unsigned_le}
use Rattle.numbers.proofs.Maximum.{maximum_left}
use Rattle.numbers.proofs.Minimum.{minimum_first}
use Rattle.numbers.proofs.SumOrder.{add_unsigned}
use Rattle.numbers.proofs.ProductOrder.{square_unsigned, square_turned}
use Rattle.numbers.proofs.Bounded.{add_finite}
use Rattle.vector.specs.Vector.{point, difference, magnitude_squared, cross}
use Rattle.vector.specs.Inner.Numbers.{Finite}
use Rattle.vector.specs.declared.Point3f.{Point3f}
use Rattle.vector.proofs.Distances.{magnitude_unsigned}
use Rattle.bounds.specs.declared.Bounds.{Bounds}
use Rattle.bounds.specs.declared.Interval.{Interval}
use Rattle.bounds.specs.Inner.Cover.{between}
use Rattle.bounds.specs.Inner.Within.{within}
use Rattle.intervals.specs.Inner.Enclosed.{Between, Moderate, Squares, Parts, Grown, Joined, differences_of, ModerateBox, Magnitudes, Crosses}
use Rattle.intervals.specs.Inner.Enclosed.{CrossSquares}
use Rattle.intervals.proofs.Ends.{finite_between, lesser_both, greater_both, difference_between, sum_monotone}

-- ---- a box by its axes

pub record Inside (b : Bounds) (p : Point3f) : Type 0 where
  pub x_in : Between b.lo.x b.hi.x p.x
  pub y_in : Between b.lo.y b.hi.y p.y
  pub z_in : Between b.lo.z b.hi.z p.z

module _ {lo hi x : Float} where
  read : T (between lo hi x) → Between lo hi x
  read h = record { least = and_l (le lo x) (le x hi) h; most = and_r (le lo x) (le x hi) h }

  tell : Between lo hi x → T (between lo hi x)
  tell h = and_i (le lo x) (le x hi) h.least h.most

pub inside : (b : Bounds) (p : Point3f) → T (within b p) → Inside b p
unfolding within
inside b p h =
    let X = between b.lo.x b.hi.x p.x in
    let Y = between b.lo.y b.hi.y p.y in
    let Z = between b.lo.z b.hi.z p.z in
    let k = and_r X (Y && Z) h in
    record { x_in = read (and_l X (Y && Z) h); y_in = read (and_l Y Z k); z_in = read (and_r Y Z k) }

pub is_within_lem : (b : Bounds) (p : Point3f) → Inside b p → T (within b p)
unfolding within
is_within_lem b p h =
    let X = between b.lo.x b.hi.x p.x in
    let Y = between b.lo.y b.hi.y p.y in
    let Z = between b.lo.z b.hi.z p.z in
    and_i X (Y && Z) (tell h.x_in) (and_i Y Z (tell h.y_in) (tell h.z_in))

-- ---- points

own : (x : Float) → T (finite x) → Between x x x
own x f = let h = le_refl x (finite_number x f) in record { least = h; most = h }

pub point_within : (p : Point3f) → Finite p → T (within (record { lo = p; hi = p }) p)
point_within p f =
    is_within_lem (record { lo = p; hi = p }) p (record { x_in = own p.x f.x_finite; y_in = own p.y f.y_finite; z_in = own p.z f.z_finite })

-- one axis of a box that has a point too
module _ (p lo hi : Float) {u v : Float} (el : T (not (is_nan p)) → u ≡ minimum p lo) (eg : T (not (is_nan p)) → v ≡ maximum p hi) (f : T (finite p)) where
  still : (q : Float) → Between lo hi q → Between u v q
  still q h =
      let n = finite_number p f in
      record {
        least = le_trans u lo q (lesser_both p lo n (le_left lo q h.least) el).1 h.least;
        most = le_trans q hi v h.most (greater_both p hi n (le_right q hi h.most) eg).1;
      }

  added : Between u v p
  added =
      let n = finite_number p f in
      record { least = rw (el n) (minimum_first p lo n); most = rw (eg n) (maximum_left p hi n) }

module _ (b : Bounds) (p : Point3f) {lx ly lz hx hy hz : Float} (ax : T (not (is_nan p.x)) → lx ≡ minimum p.x b.lo.x)
    (ay : T (not (is_nan p.y)) → ly ≡ minimum p.y b.lo.y) (az : T (not (is_nan p.z)) → lz ≡ minimum p.z b.lo.z)
    (bx : T (not (is_nan p.x)) → hx ≡ maximum p.x b.hi.x) (by : T (not (is_nan p.y)) → hy ≡ maximum p.y b.hi.y)
    (bz : T (not (is_nan p.z)) → hz ≡ maximum p.z b.hi.z) where
  abbrev larger : Bounds
  larger = record { lo = point lx ly lz; hi = point hx hy hz }

  pub grown : Grown b p larger
  grown = record {
    keeps = λ q f h.
        let i = inside b q h in
        is_within_lem larger q (record {
          x_in = still p.x b.lo.x b.hi.x ax bx f.x_finite q.x i.x_in;
          y_in = still p.y b.lo.y
              b.hi.y ay by f.y_finite q.y i.y_in;
          z_in = still p.z b.lo.z b.hi.z az bz f.z_finite q.z i.z_in;
        });
    own = λ f. is_within_lem larger p
        (record {
          x_in = added p.x b.lo.x b.hi.x ax bx f.x_finite;
          y_in = added p.y b.lo.y b.hi.y ay by f.y_finite;
          z_in = added
              p.z b.lo.z b.hi.z az bz f.z_finite;
        });
  }

-- ---- differences

pub differences_has : (p q : Bounds) (a b : Point3f) → Finite a → Finite b → T (within p a) → T (within q b) → T (within (differences_of p q) (difference a b))
unfolding differences_of difference
differences_has p q a b f g h k =
    let i = inside p a h in
    let j = inside q b k in
    is_within_lem (differences_of p q) (difference a b) (record {
      x_in = difference_between _ _ _ _ a.x b.x f.x_finite g.x_finite i.x_in j.x_in;
      y_in = difference_between _ _ _ _ a.y b.y f.y_finite g.y_finite i.y_in j.y_in;
      z_in = difference_between _ _ _ _ a.z b.z f.z_finite g.z_finite i.z_in j.z_in;
    })

-- one axis of them the other way
turned : (a b c d : Float) → Moderate (a ⊖ d) (b ⊖ c) → Moderate (c ⊖ b) (d ⊖ a)
turned a b c d m = record { lo_square = rw (square_turned c b) m.hi_square; hi_square = rw (square_turned d a) m.lo_square }

pub moderate_turned : (p q : Bounds) → ModerateBox (differences_of p q) → ModerateBox (differences_of q p)
unfolding differences_of difference
moderate_turned p q m =
    record { x_moderate = turned _ _ _ _ m.x_moderate; y_moderate = turned _ _ _ _ m.y_moderate; z_moderate = turned _ _ _ _ m.z_moderate }

-- ---- two intervals

pub joined_held : (a b : Interval) {l g : Float} → (T (not (is_nan a.lo)) → l ≡ minimum a.lo b.lo)
    → (T (not (is_nan a.hi)) → g ≡ maximum a.hi b.hi) → Joined a b (record {
      lo =
          l;
      hi = g;
    })
joined_held a b {l} {g} el eg = record {
  holds = λ x y h k.
      let i = lesser_both a.lo b.lo (le_left a.lo x h.least) (le_left b.lo y k.least) el in
      let j = greater_both a.hi b.hi (le_right x a.hi h.most) (le_right y b.hi k.most) eg in (
        record { least = le_trans l a.lo x i.0 h.least; most = le_trans x a.hi g h.most j.0 },
        record { least = le_trans l b.lo y i.1 k.least; most = le_trans y b.hi g k.most j.1 },
      );
}

-- ---- lengths

pub magnitudes_held : (v : Bounds) {x y z : Interval} → Squares v.lo.x v.hi.x x → Squares v.lo.y v.hi.y y → Squares v.lo.z v.hi.z z
    → Magnitudes v (record { lo = x.lo ⊕ y.lo ⊕ z.lo; hi = x.hi ⊕ y.hi ⊕ z.hi })
unfolding magnitude_squared
magnitudes_held v {x} {y} {z} a b c = record {
  held = (add-fits binary32 (x.lo ⊕ y.lo) z.lo, add-fits binary32 (x.hi ⊕ y.hi) z.hi);
  above = λ u h.
      let i = inside v u h in
      unsigned_le _ (add_unsigned (x.lo ⊕ y.lo) z.lo (add_unsigned x.lo y.lo (a.signless u.x i.x_in).0 (b.signless u.y i.y_in).0)
      (c.signless u.z i.z_in).0);
  holds = λ u h.
      let i = inside v u h in
      let p = u.x ⊗ u.x in
      let q = u.y ⊗ u.y in
      let r = u.z ⊗ u.z in
      let up = square_unsigned u.x (le_right _ u.x i.x_in.least) in
      let uq = square_unsigned u.y (le_right _ u.y i.y_in.least) in
      let ur = square_unsigned u.z (le_right _ u.z i.z_in.least) in
      let sx = a.signless u.x i.x_in in
      let sy = b.signless u.y i.y_in in
      let sz = c.signless u.z i.z_in in
      let hx = a.holds u.x i.x_in in
      let hy = b.holds u.y i.y_in in
      let hz = c.holds u.z i.z_in in
      record {
        least = sum_monotone (x.lo ⊕ y.lo) (p ⊕ q) z.lo r (add_unsigned x.lo y.lo sx.0 sy.0) (add_unsigned p q up uq) sz.0 ur
            (sum_monotone x.lo p y.lo q sx.0 up sy.0 uq hx.least hy.least) hz.least;
        most = sum_monotone (p ⊕ q) (x.hi ⊕ y.hi) r z.hi (add_unsigned p q up uq) (add_unsigned x.hi y.hi sx.1 sy.1) ur sz.1
            (sum_monotone p x.hi q y.hi up sx.1 uq sy.1 hx.most hy.most) hz.most;
      };
  moderate = λ f u h.
      let i = inside v u h in
      let g = add_finite (x.hi ⊕ y.hi) z.hi f in
      let k = add_finite x.hi y.hi g.0 in
      record {
        x_moderate = a.moderate k.0 u.x i.x_in;
        y_moderate = b.moderate k.1 u.y i.y_in;
        z_moderate = c.moderate g.1 u.z
            i.z_in;
      };
}

-- if the longest square is at most the largest f32
pub magnitudes_moderate : (v : Bounds) {r : Interval} → Magnitudes v r → T (le r.hi (f32 0x7f7fffff)) → (u : Point3f) → T (within v u) → ModerateBox v
magnitudes_moderate v {r} m h u k =
    let i = inside v u k in
    let z = unsigned_le (magnitude_squared u)
    (magnitude_unsigned u (le_right _ u.x i.x_in.least) (le_right _ u.y i.y_in.least) (le_right _ u.z i.z_in.least)) in
    m.moderate (finite_between (f32 0) r.hi (f32 0x7f7fffff) (unfold of_bits in tt) (unfold of_bits in tt)
    (le_trans (f32 0) (magnitude_squared u) r.hi z (m.holds u k).most) h) u k

-- ---- cross products

module _ (v w : Bounds) {x y z : Interval} (a : Parts v.lo.y v.hi.y w.lo.z w.hi.z v.lo.z v.hi.z w.lo.y w.hi.y x)
    (b : Parts v.lo.z v.hi.z w.lo.x w.hi.x v.lo.x v.hi.x w.lo.z w.hi.z y)
    (c : Parts v.lo.x v.hi.x w.lo.y w.hi.y v.lo.y v.hi.y w.lo.x w.hi.x z) where
  pub crosses_held : Crosses v w (record { lo = point x.lo y.lo z.lo; hi = point x.hi y.hi z.hi })
  unfolding cross
  crosses_held = record {
    has = λ m n s t h k.
        let i = inside v s h in
        let j = inside w t k in
        is_within_lem (record { lo = point x.lo y.lo z.lo; hi = point x.hi y.hi z.hi }) (cross s t) (record {
          x_in = a.holds m.y_moderate n.z_moderate m.z_moderate n.y_moderate s.y t.z s.z t.y i.y_in j.z_in i.z_in j.y_in;
          y_in = b.holds m.z_moderate n.x_moderate m.x_moderate n.z_moderate s.z t.x s.x t.z i.z_in j.x_in i.x_in j.z_in;
          z_in = c.holds m.x_moderate n.y_moderate m.y_moderate n.x_moderate s.x t.y s.y t.x i.x_in j.y_in i.y_in j.x_in;
        });
  }

pub cross_squares_held : (v w : Bounds) {b : Bounds} {r : Interval} → Crosses v w b → Magnitudes b r → CrossSquares v w r
cross_squares_held v w a h = record { holds = λ m n s t i j. h.holds (cross s t) (a.has m n s t i j) }
