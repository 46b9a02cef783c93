-- `remove` meets its contract: a point that is out already changes nothing; any other leaves the order of its row, and
-- its link then says that it is out. Assumes nothing.
use mathlib.Core.Path.{◌≡◌, refl, sym, ap, ◌∙◌}
use mathlib.Core.Bool.{false}
use Prim.Native.Nat.{◌+◌, ◌*◌, ◌<◌}
use native.Mathlib.Omega.{arith}
use Rattle.points.specs.Points.{point_at}
use Rattle.spatial_hash.specs.Inner.Buckets.{row_for, place_for, links_of, is_out}
use Rattle.spatial_hash.proofs.Sizes.{rows_few, joined_below}
use Rattle.spatial_hash.proofs.Removing.{removed_before, leaving, removed}
use Rattle.spatial_hash.proofs.remove.Goals as goal

pub returns-then-is_out : goal.returns-then-is_out
returns-then-is_out c = removed_before _ _ _ _ _ c.requires.0 c.requires.1 (sym c.is_out.ensures ∙ c.if-is_out.true)

pub overflow_mul-row-2 : goal.overflow_mul-row-2
overflow_mul-row-2 c = let f : c.row_of.result * (c.args.hash.side + 1) + c.args.hash.side < 14400 = let m = c.args.hash.side in
    omega (arith, joined_below (m * m) (m + 1) c.row_of.result m c.row_of.ensures.1 (omega arith), rows_few m c.requires.0.sound.few) in omega arith

pub overflow_add-row-2 : goal.overflow_add-row-2
overflow_add-row-2 c = let f : c.row_of.result * (c.args.hash.side + 1) + c.args.hash.side < 14400 = let m = c.args.hash.side in
    omega (arith, joined_below (m * m) (m + 1) c.row_of.result m c.row_of.ensures.1 (omega arith), rows_few m c.requires.0.sound.few) in omega (arith, c.requires.0.ready.few)

pub overflow_add-own : goal.overflow_add-own
overflow_add-own c = let f : c.row_of.result * (c.args.hash.side + 1) + c.args.hash.side < 14400 = let m = c.args.hash.side in
    omega (arith, joined_below (m * m) (m + 1) c.row_of.result m c.row_of.ensures.1 (omega arith), rows_few m c.requires.0.sound.few) in omega (arith, c.requires.0.ready.few, c.place_in_row.ensures.1)

pub overflow_add-row-3 : goal.overflow_add-row-3
overflow_add-row-3 c = let f : c.row_of.result * (c.args.hash.side + 1) + c.args.hash.side < 14400 = let m = c.args.hash.side in
    omega (arith, joined_below (m * m) (m + 1) c.row_of.result m c.row_of.ensures.1 (omega arith), rows_few m c.requires.0.sound.few) in omega (arith, c.requires.0.ready.few)

pub leave_row-requires : goal.leave_row-requires
leave_row-requires c =
    leaving _ _ _ _ _ c.requires.0 c.requires.1 _ _ (let own_row_here : c.row_of.result
    ≡ row_for c.args.hash (point_at c.args.points.now c.args.k) = c.row_of.ensures.0 ∙ ap (row_for c.args.hash) c.point_at-place.ensures in own_row_here)
    (let own_place_here : c.place_in_row.result
    ≡ place_for c.args.hash (point_at c.args.points.now c.args.k) = c.place_in_row.ensures.0 ∙ ap (place_for c.args.hash) c.point_at-place.ensures in own_place_here) (let inside_here : is_out c.args.n (links_of c.args.n c.args.w.now) c.args.k
    ≡ false = sym c.is_out.ensures ∙ c.if-is_out.false in inside_here)

pub returns : goal.returns
returns c =
    removed _ _ _ _ _ c.requires.0 c.requires.1 _ _ (let own_row_here : c.row_of.result
    ≡ row_for c.args.hash (point_at c.args.points.now c.args.k) = c.row_of.ensures.0 ∙ ap (row_for c.args.hash) c.point_at-place.ensures in own_row_here) (let own_place_here : c.place_in_row.result
    ≡ place_for c.args.hash (point_at c.args.points.now c.args.k) = c.place_in_row.ensures.0 ∙ ap (place_for c.args.hash) c.point_at-place.ensures in own_place_here) (let inside_here : is_out c.args.n (links_of c.args.n c.args.w.now) c.args.k
    ≡ false = sym c.is_out.ensures ∙ c.if-is_out.false in inside_here) c.leave_row.new.w _
    c.leave_row.ensures refl
