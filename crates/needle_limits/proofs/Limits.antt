-- Where the score of an angle, an aspect ratio and an edge ratio is below a threshold, that aspect ratio's limit is one
-- for needles (`needle_limit`); where that isn't known, one that passes no triangle is (`no_needle_limit`). Assumes
-- nothing.
use lib.Dec.{T}
use lib.Ieee.{Float, nan, neg, lt, is_nan}
use Rattle.numbers.specs.Rounded.{f32}
use Rattle.numbers.proofs.OrderLaws.{le_right}
use Rattle.quality.specs.Measures.{score}
use Rattle.six_orders.proofs.Scores.{low_by_aspect}
use Rattle.thin.specs.Inner.Thin.{ThinLimit}
use Rattle.thin.proofs.Thin.{no_limit}
use Rattle.needle_limits.specs.Inner.Needles.{NeedleLimit}

pub needle_limit : {threshold angle ratio limit : Float} (aspect : Float) → T (lt (f32 0) threshold) → T (lt (score angle aspect ratio) threshold)
    → ThinLimit aspect limit → NeedleLimit threshold angle ratio limit
needle_limit {threshold} {angle} {ratio} aspect above low thins = record {
  aspect = aspect;
  refuses = record { below = λ a b c u v w area angles edge. low_by_aspect a b c angle aspect ratio threshold above angles edge low u v w area };
  thins = thins;
}

pub no_needle_limit : (threshold angle ratio : Float) → NeedleLimit threshold angle ratio (neg (f32 0x3f800000))
no_needle_limit threshold angle ratio = record {
  aspect = nan;
  refuses = record { below = λ a b c u v w area angles edge o h. absurd (unfold is_nan in le_right _ nan h) };
  thins = no_limit nan;
}
