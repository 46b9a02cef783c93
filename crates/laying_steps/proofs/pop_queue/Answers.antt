-- `laying_steps::pop_queue` meets its contract. Assumes nothing.
use mathlib.Core.Path.{refl}
use Rattle.laying_steps.proofs.Work.{queue_takes}
use Rattle.laying_steps.proofs.pop_queue.Goals as goal

pub returns : goal.returns
returns c =
    let s = c in
    queue_takes s.args.n s.args.c s.args.w.now _ s.requires.1 refl
