-- `spatial_hash::cells::span_of` meets its contract. Assumes nothing.
use Rattle.spatial_hash.proofs.Residues.{span_empty, span_part, span_whole}
use Rattle.spatial_hash.proofs.cells.span_of.Goals as goal

pub returns-then-b-a : goal.returns-then-b-a
returns-then-b-a c = span_empty c.args.side c.args.a c.args.b c.requires c.if-b-a.true

pub returns-then-gap-side : goal.returns-then-gap-side
returns-then-gap-side c = span_part c.args.side c.args.a c.args.b c.requires c.if-b-a.false c.if-gap-side.true

pub returns : goal.returns
returns c = span_whole c.args.side c.args.a c.args.b c.requires
