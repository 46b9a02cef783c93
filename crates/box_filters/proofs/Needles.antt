-- The least angles of needles whose squares lie in intervals (`needles_within`), whichever edge is the shortest
-- (`second_within`, `third_within`). Assumes nothing.
use mathlib.Core.Path.{◌≡◌}
use Rattle.std.specs.Prelude.{Option, Some, None, IfSome, unwrap_or}
use lib.Ieee.{Float, nan, is_nan}
use Rattle.numbers.specs.Order.{minimum, maximum}
use Rattle.numbers.proofs.OrderLaws.{le_left, le_right, le_trans}
use Rattle.numbers.proofs.Minimum.{minimum_first, minimum_le}
use Rattle.numbers.proofs.Maximum.{maximum_left, maximum_right}
use Rattle.bounds.specs.declared.Interval.{Interval}
use Rattle.six_orders.proofs.Scores.{second_angle, third_angle}
use Rattle.needle_angles.specs.Inner.NeedleAngles.{NeedleAngle}
use Rattle.box_filters.specs.Inner.LowBy.{AnglesWithin}

pub needles_within : (i j k : Interval) {short long m : Float} → short ≡ minimum j.lo k.lo → long ≡ maximum j.hi k.hi
    → NeedleAngle i.lo i.hi short long m → AnglesWithin i j k m
needles_within i j k es el h = record {
  bound = λ a b c fa fb fc x y z.
      h.bound a b c fa fb fc x.least x.most (rw es (le_trans _ j.lo b (minimum_first j.lo k.lo (le_left j.lo b y.least)) y.least))
      (rw el (le_trans b j.hi _ y.most (maximum_left j.hi k.hi (le_right b j.hi y.most))))
      (rw es (le_trans _ k.lo c (minimum_le j.lo k.lo (le_left k.lo c z.least)) z.least))
      (rw el (le_trans c k.hi _ z.most (maximum_right j.hi k.hi (le_right c k.hi z.most))));
}

pub second_within : {i j k : Interval} {m : Float} → AnglesWithin j i k m → AnglesWithin i j k m
second_within h = record { bound = λ a b c fa fb fc x y z. second_angle (h.bound b a c fb fa fc y x z) }

pub third_within : {i j k : Interval} {m : Float} → AnglesWithin k i j m → AnglesWithin i j k m
third_within h = record { bound = λ a b c fa fb fc x y z. third_angle (h.bound c a b fc fa fb z x y) }

-- a bound that there is none of is not a number
pub angle_or_none : {least most short long : Float} (m : Option Float) → IfSome m (NeedleAngle least most short long)
    → NeedleAngle least most short long (unwrap_or m nan)
angle_or_none (Some m) h = h
angle_or_none None h = record { bound = λ x y z fx fy fz a b c d e f. record { most = λ u v t o n. absurd (unfold is_nan in n) } }
