-- Entries of the frontier kept as one number each. For contracts inside. Definitions only.
use Rattle.std.specs.Prelude.{ℕ, ◌+◌, ◌*◌, ◌/◌, ◌%◌}
use Rattle.patch.specs.Lay.{Edge, edge}

-- points are below 4096
abbrev pub encode : Edge → ℕ
encode e = e.v1 * 4096 + e.v2

abbrev pub decode : ℕ → Edge
decode x = edge (x / 4096) (x % 4096)
