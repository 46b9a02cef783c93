use Rattle.filling.proofs.Fill.{bits_step}
use Rattle.filling.proofs.put_bits.Goals as goal

pub loop-i-preserved : goal.loop-i-preserved
loop-i-preserved c =
    bits_step c.loop-i.invariant c.requires c.loop-i-test.true
    c.bits_of.ensures
