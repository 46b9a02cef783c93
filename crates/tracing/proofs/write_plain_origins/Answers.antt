-- One face more, and all of them. Assumes nothing.
use Prim.Native.Nat.{◌*◌}
use mathlib.Core.Path.{refl}
use native.Mathlib.Omega.{arith}
use native.Mathlib.Numerals.{add-one}
use Rattle.words.proofs.Chunks.{lay_none, lay_more, lay_all_lem}
use Rattle.tracing.specs.Plain.{plain_origin, plain_origins}
use Rattle.tracing.proofs.write_plain_origins.Goals as goal

pub loop-k-init : goal.loop-k-init
loop-k-init c = lay_none plain_origin 0 _

pub loop-k-preserved : goal.loop-k-preserved
loop-k-preserved c =
    lay_more plain_origin 2 (λ i. refl) 0 _ _ _ _ (2 * c.loop-k.k) c.loop-k.invariant (omega arith)
    (rw (add-one (2 * c.loop-k.k)))

pub returns : goal.returns
unfolding plain_origins
returns c = lay_all_lem plain_origin 0 _ _ _ _ c.loop-k.auto.k-end c.loop-k-test.false c.loop-k.invariant
