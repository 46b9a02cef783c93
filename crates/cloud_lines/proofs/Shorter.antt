-- A field, a triple and a point's line take at least a byte: fewer are left. Assumes nothing.
use mathlib.Core.Path.{◌≡◌, subst}
use mathlib.Core.List.{List}
use Prim.Native.Nat.{ℕ, ◌-◌, ◌<◌}
use native.Mathlib.Omega.{arith}
use lib.ListN.{length, drop, length-drop}
use Rattle.numerals.specs.Format.{parsed, malformed, starts_with, number}
use Rattle.numerals.proofs.Shorter.{Below, below_cond, below_then, number_below, next_below}
use Rattle.cloud_lines.specs.Format.{field, triple, point_fields}
use Rattle.cloud_lines.specs.declared.line.Point.{Point}

pub field_below : (end : ℕ) (bs : List ℕ) → Below (length bs) (field end bs)
unfolding field
field_below end bs = below_then (length bs) (number bs) _ (number_below bs)
    (λ v rest h. below_cond (length bs) (starts_with end rest) (parsed v (drop 1 rest)) malformed
    (λ _. let len : length (drop 1 rest) ≡ length rest - 1 = length-drop 1 rest in omega arith) tt)

pub triple_below : (last : ℕ) (bs : List ℕ) → Below (length bs) (triple last bs)
unfolding triple
triple_below last bs =
    let n = length bs in
    below_then n (field 44 bs) _ (field_below 44 bs) (λ x r h. below_then n (field 44 r) _ (next_below (field 44) (field_below 44) n r h) (λ y r' h'.
    below_then n (field last r') _ (next_below (field last) (field_below last) n r' h') (λ z rest g. g)))

pub point_below : (bs : List ℕ) → Below (length bs) (point_fields bs)
unfolding point_fields
point_below bs =
    let n = length bs in
    below_then n (triple 44 bs) _ (triple_below 44 bs) (λ p r h. below_then n (triple 10 r) _ (next_below (triple 10) (triple_below 10) n r h) (λ q rest g. g))

-- at places: what is left after a point's line is shorter
pub point_shorter : (s : List ℕ) (at next : ℕ) (p : Point) → point_fields (drop at s) ≡ parsed p (drop next s) → length s - next < length s - at
point_shorter s at next p e =
    let h : Below (length (drop at s)) (parsed p (drop next s)) = subst (Below (length (drop at s))) e (point_below (drop at s)) in
    let a : length (drop at s) ≡ length s - at = length-drop at s in
    let b : length (drop next s) ≡ length s - next = length-drop next s in
    omega arith
