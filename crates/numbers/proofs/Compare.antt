-- Laws of a float compared with itself, and of the code's infinity. Assumes nothing.
use mathlib.Core.Path.{◌≡◌, refl, sym, ap}
use mathlib.Core.Bool.{Bool, true, false, not, ◌&&◌, ◌||◌, beq}
use Prim.Native.Nat.{ℕ, ◌*◌}
use lib.Dec.{eqb}
use lib.Ieee.Bits.{is_true}
use lib.Ieee.Fits.{eq→eqb}
use lib.Ieee.{Float, nan, inf, fin, binary32, ne, eq, div, of_bits, is_nan, up, down}

same : (s : Bool) → beq s s ≡ true
same true = refl
same false = refl

level_self : (s : Bool) (a : ℕ) → (eqb a a && (beq s s || eqb a 0)) ≡ true
level_self s a =
    let e : eqb a a ≡ true = is_true (eqb a a) (eq→eqb {a = a} refl) in
    rw (e, same s)

-- the code's test `x != x`
pub is_nan_lem : (x : Float) → is_nan x ≡ ne x x
unfolding is_nan ne eq
is_nan_lem nan = refl
is_nan_lem (inf s) = ap not (sym (same s))
is_nan_lem (fin s m e) = ap not (sym (level_self s (m * up e * down e)))

-- the code's infinity
pub infinite : div binary32 (of_bits binary32 0x3f800000) (of_bits binary32 0) ≡ inf false
unfolding div of_bits
infinite = refl
