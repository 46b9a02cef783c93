-- `write::bits_of` meets its contract: a not-a-number is asked for first. Assumes nothing.
use Rattle.numbers.proofs.RootSpecial.{not_self}
use Rattle.facets.proofs.Floats.{pattern_nan}
use Rattle.facets.proofs.write.bits_of.Goals as goal

pub returns-then-x : goal.returns-then-x
returns-then-x c = pattern_nan _ c.if-x.true

pub float_to_bits-result : goal.float_to_bits-result
float_to_bits-result c = not_self _ c.if-x.false
