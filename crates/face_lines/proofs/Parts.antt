-- Laws of a number and a line at a place of the bytes, as the code meets them; and that each takes a byte. Assumes
-- nothing.
use mathlib.Core.Path.{◌≡◌, subst}
use mathlib.Core.Bool.{true, false, ◌&&◌}
use mathlib.Core.List.{List}
use Prim.Native.Nat.{ℕ, ◌+◌, ◌-◌, ◌≤◌, ◌<◌}
use native.Mathlib.Omega.{arith}
use lib.ListN.{length, take, drop, length-drop}
use lib.Seq.{drop-drop}
use Rattle.std.specs.Prelude.{None}
use Rattle.lists.proofs.Bools.{and_both}
use Rattle.numerals.specs.Format.{parsed, malformed, starts_with, digits, few, digits_value}
use Rattle.numerals.specs.Inner.Answers.{skipped_digits}
use Rattle.numerals.proofs.Numeral.{few_most, Skipped, skipped_none, skipped_count, skipped_rest}
use Rattle.numerals.proofs.Shorter.{Below, below_cond, below_then, digits_within, next_below}
use Rattle.patch.specs.Lay.{Face}
use Rattle.face_lines.specs.Format.{point_number, line}

-- ---- a number, by what the code found of its digits and of the byte behind them
module _ (s : List ℕ) (at end : ℕ) where
  pub number_digits : None ≡ skipped_digits s at 5 → malformed ≡ point_number end (drop at s)
  unfolding point_number
  number_digits e = rw (skipped_none s at 5 e)

  module _ (stop : ℕ) (k : Skipped s at 5 stop) where
    pub number_open : starts_with end (drop stop s) ≡ false → malformed ≡ point_number end (drop at s)
    unfolding point_number
    number_open b = rw (skipped_rest s at 5 stop k, ← skipped_count s at 5 stop k, k.few, b)

    pub number_read : (v : ℕ) → starts_with end (drop stop s) ≡ true → v ≡ digits_value 0 (take (stop - at) (drop at s)) → parsed v (drop (stop + 1) s)
        ≡ point_number end (drop at s)
    unfolding point_number
    number_read v b w = rw (skipped_rest s at 5 stop k, ← skipped_count s at 5 stop k, k.few, b, drop-drop 1 stop s, w)

-- ---- fewer bytes are left
number_below : (end : ℕ) (bs : List ℕ) → Below (length bs) (point_number end bs)
unfolding point_number
number_below end bs =
    let count = digits bs in
    let within : digits bs ≤ length bs = digits_within bs in
    below_cond (length bs) (few count 5 && starts_with end (drop count bs)) (parsed _ (drop 1 (drop count bs))) malformed
    (λ e. let some = few_most count 5 (and_both {p = few count 5} {q = starts_with end (drop count bs)} e).0 in
    let len : length (drop 1 (drop count bs)) ≡ length (drop count bs) - 1 = length-drop 1 (drop count bs) in
    let rest : length (drop count bs) ≡ length bs - count = length-drop count bs in
    omega arith)
    tt

line_below : (bs : List ℕ) → Below (length bs) (line bs)
unfolding line
line_below bs =
    let n = length bs in
    below_then n (point_number 44 bs) _ (number_below 44 bs)
    (λ a r h. below_then n (point_number 44 r) _ (next_below (point_number 44) (number_below 44) n r h) (λ b r' h'.
    below_then n (point_number 10 r') _ (next_below (point_number 10) (number_below 10) n r' h') (λ c rest g. g)))

-- at places: what is left after a line is shorter
pub line_shorter : (s : List ℕ) (at next : ℕ) (f : Face) → line (drop at s) ≡ parsed f (drop next s) → length s - next < length s - at
line_shorter s at next f e =
    let h : Below (length (drop at s)) (parsed f (drop next s)) = subst (Below (length (drop at s))) e (line_below (drop at s)) in
    let a : length (drop at s) ≡ length s - at = length-drop at s in
    let b : length (drop next s) ≡ length s - next = length-drop next s in
    omega arith
