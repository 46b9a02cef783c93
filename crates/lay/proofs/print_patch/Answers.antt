-- The buffer is long enough, so what is handed on is the text, whole. Assumes nothing.
use mathlib.Core.Path.{◌≡◌}
use native.Mathlib.Omega.{arith}
use lib.ListN.{length, length-take}
use Rattle.patch_text.specs.Text.{printed}
use Rattle.patch_text.proofs.Laid.{prints_within}
use borrow.Author.Rules.{rules}
use Rattle.lay.proofs.print_patch.Goals as goal

pub unwrap-n-requires : goal.unwrap-n-requires
unwrap-n-requires c = rw (c.program_text.ensures.number (search rules)) (search rules)

pub slice_bounds-out-end : goal.slice_bounds-out-end
slice_bounds-out-end c = prints_within (rw c.unwrap-n.ensures at c.program_text.ensures.text)

pub slice_bounds-write_text-end : goal.slice_bounds-write_text-end
slice_bounds-write_text-end c =
    let inside = prints_within (rw c.unwrap-n.ensures at c.program_text.ensures.text) in
    simp length-take (omega arith)

pub write_text-requires : goal.write_text-requires
write_text-requires c =
    let p = c.program_text.ensures in
    let n : c.unwrap-n.result ≡ length (printed c.args.input.now) = let e = p.number (search rules) in let f = c.unwrap-n.ensures in cc in
    rw n (p.front (search rules))
