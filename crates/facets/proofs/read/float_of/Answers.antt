-- `read::float_of` meets its contract: a not-a-number's pattern is asked for first. Assumes nothing.
use Rattle.facets.proofs.Floats.{float_nan, float_number}
use Rattle.facets.proofs.read.float_of.Goals as goal

pub returns-then-b-gt2139095040 : goal.returns-then-b-gt2139095040
returns-then-b-gt2139095040 c = float_nan _ c.if-b-gt2139095040.true

pub float_from_bits-result : goal.float_from_bits-result
float_from_bits-result c = float_number _ c.if-b-gt2139095040.false
