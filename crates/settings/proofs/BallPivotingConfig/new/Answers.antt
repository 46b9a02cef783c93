-- `settings::BallPivotingConfig::new` meets its contract. Assumes nothing.
use Rattle.settings.specs.Settings.{defaults}
use mathlib.Core.Path.{refl}
use Rattle.settings.proofs.BallPivotingConfig.new.Goals as goal

pub returns : goal.returns
unfolding defaults
returns c = refl
