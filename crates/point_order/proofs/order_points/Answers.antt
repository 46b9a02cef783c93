use lib.Dec.{lit≤}
use native.Mathlib.Omega.{arith}
use Rattle.point_order.proofs.order_points.Goals as goal

pub order_in-requires : goal.order_in-requires
order_in-requires c =
    let h = c.requires in (
      record {
        cloud = h.cloud;
        count = h.count;
        work_enough = omega
            (arith, h.count, h.cloud.few);
        counts_enough = lit≤ tt;
        floats_enough = h.floats_enough;
      },
      omega (arith, h.count, h.cloud.few),
      omega
          (arith, h.count, h.cloud.few),
      omega (arith, h.count, h.cloud.few),
    )
