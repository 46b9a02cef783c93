-- The length below which all edges of a triangle make its circumradius tiny.
use lib.Ieee.{Float}
use Rattle.numbers.specs.Rounded.{f32}

-- 2^-30
abbrev pub short : Float
short = f32 0x30800000
