-- What the library says of itself. Definitions only.
use Rattle.std.specs.Prelude.{ℕ, ◌+◌, ◌*◌}

-- the version 0.4.0: a million times the first number, a thousand times the second, and the third
abbrev pub version : ℕ
version = 1000000 * 0 + 1000 * 4 + 0

-- the layout of the structs that go in and out: FNV-1a of their names, sizes, fields and offsets, which a test of
-- rust/yarrowbleat works out from the sources
abbrev pub layout : ℕ
layout = 1298813845
