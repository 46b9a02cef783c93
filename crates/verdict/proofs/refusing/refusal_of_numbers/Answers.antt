-- `verdict::refusing::refusal_of_numbers` meets its contract: each way out is a check. Assumes nothing.
use mathlib.Core.Path.{◌≡◌}
use Rattle.domain.specs.Refusals.{refusal, first_refusal}
use Rattle.verdict.specs.Judged.{number_checks}
use Rattle.verdict.proofs.Checks.{first_missing, second_missing, third_missing, first_equal, second_equal, third_equal, none_equal}
use Rattle.verdict.proofs.refusing.refusal_of_numbers.Goals as goal
use Rattle.verdict.proofs.refusing.refusal_of_numbers.Goals.{then-n-i-via-then-n-i, then-n-i-via-else-n-i+then-n-j, then-n-i-via-else-n-i+else-n-j+then-n-k}
use Rattle.verdict.proofs.refusing.refusal_of_numbers.Goals.{then-i-j-via-then-i-j, then-i-j-via-else-i-j+then-j-k, then-i-j-via-else-i-j+else-j-k+then-k-i}

pub returns-then-n-i : goal.returns-then-n-i
returns-then-n-i c =
    let a = c.args in
    let missing : first_refusal (number_checks a.n a.i a.j a.k) ≡ refusal 14 0 = elim c.then-n-i.branch [
      | then-n-i-via-then-n-i w ↦ first_missing _ _ _ _ w.if-n-i.true
      | then-n-i-via-else-n-i+then-n-j w ↦ second_missing _ _ _ _ w.if-n-i.false w.if-n-j.true
      | then-n-i-via-else-n-i+else-n-j+then-n-k w ↦ third_missing _ _ _ _ w.if-n-i.false w.if-n-j.false w.if-n-k.true
    ] in
    rw missing

pub returns-then-i-j : goal.returns-then-i-j
returns-then-i-j c =
    let a = c.args in
    let i = c.if-n-i.false in
    let j = c.if-n-j.false in
    let k = c.if-n-k.false in
    let equal : first_refusal (number_checks a.n a.i a.j a.k) ≡ refusal 17 0 = elim c.then-i-j.branch [
      | then-i-j-via-then-i-j w ↦ first_equal _ _ _ _ i j k w.if-i-j.true
      | then-i-j-via-else-i-j+then-j-k w ↦ second_equal _ _ _ _ i j k w.if-i-j.false w.if-j-k.true
      | then-i-j-via-else-i-j+else-j-k+then-k-i w ↦ third_equal _ _ _ _ i j k w.if-i-j.false w.if-j-k.false w.if-k-i.true
    ] in
    rw equal

pub returns : goal.returns
returns c = let a = c.args in rw (none_equal a.n a.i a.j a.k c.if-n-i.false c.if-n-j.false c.if-n-k.false c.if-i-j.false c.if-j-k.false c.if-k-i.false)
