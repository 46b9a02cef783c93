-- What a reader says of a line that was read, and of one that wasn't. Assumes nothing.
use mathlib.Core.Path.{◌≡◌, sym, ap, ◌∙◌}
use native.Mathlib.Omega.{arith}
use mathlib.Core.List.{List}
use Prim.Native.Nat.{ℕ, ◌-◌, ◌≤◌}
use lib.ListN.{length, drop, length-drop}
use Rattle.std.specs.Prelude.{Some, None}
use Rattle.numerals.specs.Format.{parsed, malformed}
use Rattle.cloud_lines.specs.Format.{point_fields}
use Rattle.numerals.specs.Inner.Answers.{taken_means, taken_end}
use Rattle.cloud_lines.specs.Reading.{read_means, place_after, Stepped}
use Rattle.cloud_lines.specs.declared.line.Point.{Point}

module _ (s : List ℕ) (at : ℕ) where
  pub stepped_line : (r : Point × ℕ) → taken_means s (Some r) ≡ point_fields (drop at s) → taken_end (Some r) ≤ length s
      → Stepped s at (Some r.0) r.1
  unfolding taken_means taken_end read_means place_after
  stepped_line r means within =
      let left : length (drop r.1 s) ≡ length s - r.1 = length-drop r.1 s in
      record { means = means; place = omega arith ∙ ap (place_after (length s) at) means }

  pub stepped_not : taken_means s None ≡ point_fields (drop at s) → Stepped s at None at
  unfolding taken_means read_means place_after
  stepped_not means = record { means = means; place = ap (place_after (length s) at) means }

  pub step_got : (p : Point) (next : ℕ) → Stepped s at (Some p) next → point_fields (drop at s) ≡ parsed p (drop next s)
  unfolding read_means
  step_got p next h = sym h.means

  pub step_not : (next : ℕ) → Stepped s at None next → point_fields (drop at s) ≡ malformed
  unfolding read_means
  step_not next h = sym h.means
