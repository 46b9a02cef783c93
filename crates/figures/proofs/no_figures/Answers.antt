-- `figures::no_figures` meets its contract. Assumes nothing.
use mathlib.Core.Path.{refl}
use Rattle.figures.specs.Working.{no_figures}
use Rattle.figures.proofs.no_figures.Goals as goal

pub returns : goal.returns
unfolding no_figures
returns c = refl
