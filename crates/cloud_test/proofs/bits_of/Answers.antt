-- `cloud_test::bits_of` meets its contract: the float is no not-a-number where its pattern is read. Assumes nothing.
use Rattle.numbers.proofs.RootSpecial.{not_self}
use Rattle.cloud_test.proofs.bits_of.Goals as goal

pub float_to_bits-result : goal.float_to_bits-result
float_to_bits-result c = not_self _ c.if-x.false
