-- `search_ranges` meets its contract. What falls is how many points the two ranges have together. Assumes nothing.
use native.Mathlib.Omega.{arith}
use Rattle.seedless_pairs.proofs.Halves.{listed_fewer, none_later, refused_pairs, ranged, all_parts}
use Prim.Native.Nat.{◌+◌, ◌-◌, ◌/◌}
use Rattle.std.proofs.lemmas.Option.{IfSome_then}
use Rattle.seedless_pairs.proofs.+search_ranges.Goals as goal

pub returns-then-second-first : goal.returns-then-second-first
returns-then-second-first t c = let g = c.requires in
    none_later g c.if-second-first.true

pub overflow_sub-x : goal.overflow_sub-x
overflow_sub-x t c = let g = c.requires in
    omega (arith, g.first_in.rises)

pub overflow_sub-y : goal.overflow_sub-y
overflow_sub-y t c = let g = c.requires in
    omega (arith, g.second_in.rises)

pub overflow_add-price : goal.overflow_add-price
overflow_add-price t c = let g = c.requires in
    omega (arith, g.first_in.rises, g.second_in.rises, g.first_in.listed.most, g.second_in.listed.most, g.held.few)

pub overflow_add-price-2 : goal.overflow_add-price-2
overflow_add-price-2 t c = let g = c.requires in
    omega (arith, g.first_in.rises, g.second_in.rises, g.first_in.listed.most, g.second_in.listed.most, g.held.few)

pub point_at-p-requires : goal.point_at-p-requires
point_at-p-requires t c = let g = c.requires in
    omega (arith, g.inside, g.held.points_long)

pub returns-then-is_refused_within : goal.returns-then-is_refused_within
returns-then-is_refused_within t c =
    let shared-slice-known = c.type_inv.points in
    let start = c in
    let g = start.requires in
    refused_pairs g shared-slice-known c.point_at-p.ensures (c.is_refused_within.ensures c.if-is_refused_within.true)

pub overflow_add-x : goal.overflow_add-x
overflow_add-x t c = let g = c.requires in
    omega (arith, g.first_in.rises, g.second_in.rises, g.first_in.listed.most, g.second_in.listed.most, g.held.few)

pub search_each-requires : goal.search_each-requires
search_each-requires t c = c.requires

pub returns-then-not-are_halved : goal.returns-then-not-are_halved
returns-then-not-are_halved t c = c.search_each.ensures

pub overflow_add-j : goal.overflow_add-j
overflow_add-j t c = let g = c.requires in
    omega (arith, g.first_in.rises, g.second_in.rises, g.first_in.listed.most, g.second_in.listed.most, g.held.few)

pub overflow_add-k : goal.overflow_add-k
overflow_add-k t c = let g = c.requires in
    omega (arith, g.first_in.rises, g.second_in.rises, g.first_in.listed.most, g.second_in.listed.most, g.held.few)

pub range_of-a-requires : goal.range_of-a-requires
range_of-a-requires t c =
    let start = c in
    let g = start.requires in
    let f = start.args.first in
    let h = start.args.second in
    let j = f.from + (f.to - f.from) / 2 in
    let k = h.from + (h.to - h.from) / 2 in
    (g.held, omega arith, listed_fewer j (omega (arith, g.first_in.rises)) g.first_in.listed)

pub range_of-b-requires : goal.range_of-b-requires
range_of-b-requires t c =
    let start = c in
    let g = start.requires in
    let f = start.args.first in
    let h = start.args.second in
    let j = f.from + (f.to - f.from) / 2 in
    let k = h.from + (h.to - h.from) / 2 in
    (g.held, omega (arith, g.first_in.rises), g.first_in.listed)

pub range_of-c-requires : goal.range_of-c-requires
range_of-c-requires t c =
    let start = c in
    let g = start.requires in
    let f = start.args.first in
    let h = start.args.second in
    let j = f.from + (f.to - f.from) / 2 in
    let k = h.from + (h.to - h.from) / 2 in
    (g.held, omega arith, listed_fewer k (omega (arith, g.second_in.rises)) g.second_in.listed)

pub range_of-d-requires : goal.range_of-d-requires
range_of-d-requires t c =
    let start = c in
    let g = start.requires in
    let f = start.args.first in
    let h = start.args.second in
    let j = f.from + (f.to - f.from) / 2 in
    let k = h.from + (h.to - h.from) / 2 in
    (g.held, omega (arith, g.second_in.rises), g.second_in.listed)

pub search_ranges-requires : goal.search_ranges-requires
search_ranges-requires t c =
    let if4 = c.if-not-are_halved in
    let are-halved = c.are_halved in
    let start = c in
    let g = start.requires in
    let f = start.args.first in
    let h = start.args.second in
    let j = f.from + (f.to - f.from) / 2 in
    let k = h.from + (h.to - h.from) / 2 in
    let a = c.range_of-a.ensures in
    let b = c.range_of-c.ensures in
    let long = are-halved.ensures if4.false in
    (omega (arith, start.decreases, a.from_is, a.to_is, b.from_is, b.to_is, g.first_in.rises, g.second_in.rises), ranged g a.in_range_lem b.in_range_lem)

pub search_ranges-requires-2 : goal.search_ranges-requires-2
search_ranges-requires-2 t c =
    let range-of = c.range_of-a in
    let if4 = c.if-not-are_halved in
    let are-halved = c.are_halved in
    let start = c in
    let g = start.requires in
    let f = start.args.first in
    let h = start.args.second in
    let j = f.from + (f.to - f.from) / 2 in
    let k = h.from + (h.to - h.from) / 2 in
    let a = range-of.ensures in
    let b = c.range_of-d.ensures in
    let long = are-halved.ensures if4.false in
    (omega (arith, start.decreases, a.from_is, a.to_is, b.from_is, b.to_is, g.first_in.rises, g.second_in.rises), ranged g a.in_range_lem b.in_range_lem)

pub search_ranges-requires-3 : goal.search_ranges-requires-3
search_ranges-requires-3 t c =
    let range-of3 = c.range_of-c in
    let range-of2 = c.range_of-b in
    let if4 = c.if-not-are_halved in
    let are-halved = c.are_halved in
    let start = c in
    let g = start.requires in
    let f = start.args.first in
    let h = start.args.second in
    let j = f.from + (f.to - f.from) / 2 in
    let k = h.from + (h.to - h.from) / 2 in
    let a = range-of2.ensures in
    let b = range-of3.ensures in
    let long = are-halved.ensures if4.false in
    (omega (arith, start.decreases, a.from_is, a.to_is, b.from_is, b.to_is, g.first_in.rises, g.second_in.rises), ranged g a.in_range_lem b.in_range_lem)

pub search_ranges-requires-4 : goal.search_ranges-requires-4
search_ranges-requires-4 t c =
    let range-of4 = c.range_of-d in
    let range-of2 = c.range_of-b in
    let if4 = c.if-not-are_halved in
    let are-halved = c.are_halved in
    let start = c in
    let g = start.requires in
    let f = start.args.first in
    let h = start.args.second in
    let j = f.from + (f.to - f.from) / 2 in
    let k = h.from + (h.to - h.from) / 2 in
    let a = range-of2.ensures in
    let b = range-of4.ensures in
    let long = are-halved.ensures if4.false in
    (omega (arith, start.decreases, a.from_is, a.to_is, b.from_is, b.to_is, g.first_in.rises, g.second_in.rises), ranged g a.in_range_lem b.in_range_lem)

pub returns : goal.returns
returns t c =
    let g = c.requires in
    let f = c.args.first in
    let h = c.args.second in
    let j = f.from + (f.to - f.from) / 2 in
    let k = h.from + (h.to - h.from) / 2 in
    IfSome_then c.search_ranges-4.result c.search_ranges-4.ensures (λ _. all_parts g j k c.range_of-a.ensures c.range_of-b.ensures
    c.range_of-c.ensures c.range_of-d.ensures c.in_ok-ac.ensures c.in_ok-ad.ensures c.in_ok-bc.ensures)
