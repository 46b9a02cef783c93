-- `laying::look` meets its contract. Assumes nothing.
use Rattle.laying.proofs.Looks.{pop_ready, skipped, pivoting, looked_over}
use Rattle.laying.proofs.look.Goals as goal

pub pop-top-requires : goal.pop-top-requires
pop-top-requires c = (pop_ready c.args.p.rule c.args.p.radius c.requires.0 c.requires.1, c.requires.1)

pub pivot_over-requires : goal.pivot_over-requires
pivot_over-requires c =
    pivoting c.args.p.rule c.args.p.radius c.requires.0 c.requires.1 c.pop-top.ensures.pops c.pop-top.ensures.only_in c.in-Some.ensures

pub returns-in-Some : goal.returns-in-Some
returns-in-Some c =
    looked_over c.args.p.rule c.args.p.radius c.requires.0 c.requires.1 c.pop-top.ensures.pops c.pop-top.ensures.only_in c.in-Some.ensures
    c.pivot_over.ensures

pub returns-in-None : goal.returns-in-None
returns-in-None c =
    skipped c.args.p.rule c.args.p.radius c.requires.0 c.requires.1 c.pop-top.ensures.pops c.pop-top.ensures.only_in c.in-None.ensures
