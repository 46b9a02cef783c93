-- `cloud::refused` meets its contract: by computation. Assumes nothing.
use mathlib.Core.Path.{refl}
use Rattle.cloud.specs.Answers.{read_of}
use Rattle.cloud.proofs.refused.Goals as goal

pub returns : goal.returns
unfolding read_of
returns c = refl
