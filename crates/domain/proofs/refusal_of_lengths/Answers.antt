-- `domain::refusal_of_lengths` meets its contract. Assumes nothing.
use mathlib.Core.Logic.{⊎_elim}
use mathlib.Core.Path.{◌≡◌}
use native.Mathlib.Omega.{arith}
use Rattle.domain.specs.Refusals.{refusal, first_refusal, size_checks}
use Rattle.domain.proofs.Refusals.{size_none, size_not_threes, size_other, size_many, size_good}
use Rattle.domain.proofs.refusal_of_lengths.Goals as goal

pub returns-then-points-eq0 : goal.returns-then-points-eq0
returns-then-points-eq0 c = rw (c.plainly.ensures, size_none _ c.args.normals c.if-points-eq0.true)

pub returns-then-points-ne0 : goal.returns-then-points-ne0
returns-then-points-ne0 c =
    let p = c.args.points in
    let q = c.args.normals in
    let refused : first_refusal (size_checks p q) ≡ refusal 2 0 = ⊎_elim
    (λ t. size_not_threes p q c.if-points-eq0.false t)
    (λ b. size_other p q c.if-points-eq0.false b.0 b.1)
    c.then-points-ne0.either in
    rw (c.plainly-then-points-ne0.ensures, refused)

pub returns-then-points-gt4096 : goal.returns-then-points-gt4096
returns-then-points-gt4096 c =
    rw (
      c.plainly-then-points-gt4096.ensures,
      size_many _ _ c.if-points-eq0.false c.if-points-ne0.false c.if-normals-points.false c.if-points-gt4096.true,
    )

pub returns : goal.returns
returns c =
    let good = size_good c.args.points c.args.normals
    (record { some = omega arith; threes = c.if-points-ne0.false; as_long = c.if-normals-points.false; few = c.if-points-gt4096.false }) in
    rw good
