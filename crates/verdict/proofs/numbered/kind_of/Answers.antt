-- `verdict::numbered::kind_of` meets its contract. Assumes nothing.
use Rattle.verdict.specs.Verdict.{kind_of, measured_of}
use Rattle.verdict.specs.Numbered.{verdict_numbers}
use Rattle.verdict.proofs.numbered.kind_of.Goals as goal

pub returns-in-Good : goal.returns-in-Good
unfolding verdict_numbers kind_of measured_of
returns-in-Good c = rw c.in-Good.is

pub returns-in-NoArea : goal.returns-in-NoArea
unfolding verdict_numbers kind_of measured_of
returns-in-NoArea c = rw c.in-NoArea.is

pub returns-in-Small : goal.returns-in-Small
unfolding verdict_numbers kind_of measured_of
returns-in-Small c = rw c.in-Small.is

pub returns-in-Poor : goal.returns-in-Poor
unfolding verdict_numbers kind_of measured_of
returns-in-Poor c = rw c.in-Poor.is

pub returns-in-Long : goal.returns-in-Long
unfolding verdict_numbers kind_of measured_of
returns-in-Long c = rw c.in-Long.is
