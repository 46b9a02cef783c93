-- `is_sparse` meets its contract. Assumes nothing.
use mathlib.Core.Path.{refl, ◌∙◌}
use Rattle.cell_sizes.proofs.is_sparse.Goals as goal

pub returns-then-n-lt-FEW : goal.returns-then-n-lt-FEW
returns-then-n-lt-FEW c = c.requires

pub loop-i-init : goal.loop-i-init
loop-i-init c = (c.requires, refl)

pub is_lonely-requires : goal.is_lonely-requires
is_lonely-requires c = (c.loop-i.invariant.0, c.loop-i-test.true)

pub shape_of-words-then-not-is_lonely : goal.shape_of-words-then-not-is_lonely
shape_of-words-then-not-is_lonely c = c.is_lonely.auto.words ∙ c.loop-i.invariant.1

pub returns-then-not-is_lonely : goal.returns-then-not-is_lonely
returns-then-not-is_lonely c = c.is_lonely.ensures

pub loop-i-preserved : goal.loop-i-preserved
loop-i-preserved c = (
  c.is_lonely.ensures,
  c.is_lonely.auto.words ∙ c.loop-i.invariant.1,
)
