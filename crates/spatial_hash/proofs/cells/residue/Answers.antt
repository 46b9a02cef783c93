-- `spatial_hash::cells::residue` meets its contract. Assumes nothing.
use mathlib.Core.Path.{ap}
use Prim.Native.Nat.{ℕ, ◌%◌}
use native.Mathlib.Nat.{mod-lt}
use Rattle.spatial_hash.proofs.cells.residue.Goals as goal

pub returns : goal.returns
returns c = (ap (λ (i : ℕ). i % c.args.side) c.slot.ensures, mod-lt c.slot.result c.requires)
