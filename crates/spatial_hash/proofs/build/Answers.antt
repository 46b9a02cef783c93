-- `build` meets its contract: the heads are cleared, the points linked, and the order made from the links; what each of
-- the three leaves is what the next one asks for. Assumes nothing.
use mathlib.Core.Path.{sym, ap, ◌∙◌}
use Prim.Native.Nat.{◌*◌}
use native.Mathlib.Omega.{arith}
use lib.ListN.{take}
use lib.Seq.{take-take}
use Rattle.spatial_hash.specs.Inner.Near.{HashSound, Heading}
use Rattle.spatial_hash.proofs.Kept.{ready_same}
use Rattle.spatial_hash.proofs.Heads.{hashed_all}
use Rattle.spatial_hash.proofs.build.Goals as goal

pub link_points-requires : goal.link_points-requires
link_points-requires c =
    let after-side-for = c in
    let e = c.clear_heads in
    record {
      ready = ready_same _ _ _ _ e.auto.w c.requires;
      sound = (let sound_here : HashSound (record {
        least =
            c.least_corner-least.result;
        scale = c.scale_for-scale.result;
        side = c.side_for-side.result;
      }) c.args.n = record {
        some = c.side_for-side.ensures.0;
        few = c.side_for-side.ensures.1;
        fitting = c.side_for-side.ensures.2;
        positive = c.scale_for-scale.ensures.0;
        scale_finite = c.scale_for-scale.ensures.1;
        corner = c.least_corner-least.ensures;
      } in sound_here);
      empty = e.ensures.0;
    }

pub order_points-requires : goal.order_points-requires
order_points-requires c = (let heading_here : Heading (record {
  least =
      c.least_corner-least.result;
  scale = c.scale_for-scale.result;
  side = c.side_for-side.result;
}) c.args.points.now c.args.n c.link_points.new.w = let clear-heads = c.clear_heads in
    let after-side-for = c in
    let e = clear-heads in
    record {
      ready = ready_same _ _ _ _ (c.link_points.auto.w ∙ e.auto.w) c.requires;
      sound = (let sound_here : HashSound (record {
        least =
            c.least_corner-least.result;
        scale = c.scale_for-scale.result;
        side = c.side_for-side.result;
      }) c.args.n = record {
        some = c.side_for-side.ensures.0;
        few = c.side_for-side.ensures.1;
        fitting = c.side_for-side.ensures.2;
        positive = c.scale_for-scale.ensures.0;
        scale_finite = c.scale_for-scale.ensures.1;
        corner = c.least_corner-least.ensures;
      } in sound_here);
      chained = c.link_points.ensures.0;
    } in heading_here)

pub returns : goal.returns
returns c =
    let e = c.clear_heads in
    let n = c.args.n in
    record {
      hashed = hashed_all _ _ _ _ _ (let heading_here : Heading (record {
        least =
            c.least_corner-least.result;
        scale = c.scale_for-scale.result;
        side = c.side_for-side.result;
      }) c.args.points.now c.args.n c.link_points.new.w = let clear-heads = c.clear_heads in
          let after-side-for = c in
          let e = clear-heads in
          record {
            ready = ready_same _ _ _ _ (c.link_points.auto.w ∙ e.auto.w) c.requires;
            sound = (let sound_here : HashSound (record {
              least =
                  c.least_corner-least.result;
              scale = c.scale_for-scale.result;
              side = c.side_for-side.result;
            }) c.args.n = record {
              some = c.side_for-side.ensures.0;
              few = c.side_for-side.ensures.1;
              fitting = c.side_for-side.ensures.2;
              positive = c.scale_for-scale.ensures.0;
              scale_finite = c.scale_for-scale.ensures.1;
              corner = c.least_corner-least.ensures;
            } in sound_here);
            chained = c.link_points.ensures.0;
          } in heading_here) c.order_points.auto.w c.order_points.ensures.1 c.order_points.ensures.0;
      before =
          sym (take-take (9 * n) (10 * n) c.order_points.new.w (omega arith))
          ∙ ap (take (9 * n)) c.order_points.ensures.1
          ∙ take-take (9 * n) (10 * n) c.link_points.new.w (omega arith)
          ∙ c.link_points.ensures.1
          ∙ e.ensures.1;
      length_same = c.order_points.auto.w ∙ c.link_points.auto.w ∙ e.auto.w;
    }
