-- `listing::put::put_byte` meets its contract: past the end nothing is stored. Assumes nothing.
use mathlib.Core.Path.{refl, sym, ◌∙◌}
use lib.Seq.{set_out}
use Rattle.listing.proofs.put.put_byte.Goals.{then-at-out, else-at-out}
use Rattle.listing.proofs.put.put_byte.Goals as goal

pub returns : goal.returns
returns c =
    record {
      holds = elim c.if-at-out.branch [
        | then-at-out w ↦ w.out-is
        | else-at-out w ↦ w.out-is ∙ sym (set_out c.args.out.now c.args.at c.args.b w.if-at-out.false)
      ];
      next = refl;
    }
