-- `thin_at` meets its contract. Assumes nothing.
use Rattle.scores.proofs.thin_at.Goals as goal

pub returns : goal.returns
returns c = record { aspect = c.aspect_limit.result; aspects = c.aspect_limit.ensures; thins = c.thin_limit.ensures }
