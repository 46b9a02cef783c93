-- `needle_limits` meets its contract.
use Rattle.needle_angles.specs.Inner.NeedleAngles.{angle_of, ratio_of}
use Rattle.needle_limits.proofs.needle_limits.Goals as goal

pub returns : goal.returns
unfolding angle_of ratio_of
returns c = record {
  times_10 = c.needle_limit-times_10.ensures;
  times_16 = c.needle_limit-times_16.ensures;
  times_32 = c.needle_limit-times_32.ensures;
  times_64 = c.needle_limit-times_64.ensures;
  times_128 = c.needle_limit-times_128.ensures;
}
