-- Laws of three numbers at a place of a list, and of the lists that a carried reader leaves. Assumes nothing.
use Prim.Native.Nat.{ℕ, ◌+◌, ◌*◌, ◌/◌, ◌≤◌, ◌<◌}
use mathlib.Core.Path.{◌≡◌, refl, sym, ◌∙◌, subst}
use mathlib.Core.List.{List}
use native.Mathlib.Numerals.{add-one}
use lib.ListN.{length, set, length-set}
use lib.Ieee.{Float}
use borrow.Author.Tests.{le-leb, lt-leb}
use Rattle.cloud_lines.specs.declared.line.Triple.{Triple}
use Rattle.cloud_lines.specs.declared.line.Point.{Point}
use Rattle.std.specs.Prelude.{Option, Some, None}
use Rattle.cloud_lines.specs.Reading.{Stepped}
use Rattle.cloud_lines.specs.Inner.Storing.{position_of, normal_of, placed, placed_of, StoredLines}

pub placed_short : (k : ℕ) (t : Triple) (d : List Float) → length d / 3 ≤ k → d ≡ placed k t d
unfolding placed
placed_short k t d h = rw (le-leb (length d / 3) k h)

pub placed_fits : (k : ℕ) (t : Triple) (d : List Float) → k < length d / 3
    → set (set (set d (3 * k) t.x) (3 * k + 1) t.y) (3 * k + 2) t.z ≡ placed k t d
unfolding placed
placed_fits k t d h = rw (lt-leb (length d / 3) k h)

pub set_three : (d : List Float) (i j k : ℕ) (x y z : Float) → length (set (set (set d i x) j y) k z) ≡ length d
set_three d i j k x y z = length-set (set (set d i x) j y) k z ∙ length-set (set d i x) j y ∙ length-set d i x

-- ---- what is read of a line
pub placed_point : (part : Point → Triple) (k : ℕ) (p : Point) (read : Option Point) (d : List Float) → read ≡ Some p
    → placed k (part p) d ≡ placed_of part k read d
unfolding placed_of
placed_point part k p read d e = rw e

pub placed_malformed : (part : Point → Triple) (k : ℕ) (read : Option Point) (d : List Float) → read ≡ None
    → d ≡ placed_of part k read d
unfolding placed_of
placed_malformed part k read d e = rw e

-- ---- the lines so far
pub none_stored : (s : List ℕ) (from : ℕ) (points normals : List Float)
    → StoredLines s from 0 from points normals points normals
unfolding StoredLines
none_stored s from points normals = (refl, (refl, refl))

pub one_stored : (s : List ℕ) (from k b at : ℕ) (read : Option Point) (points₀ normals₀ ps ns points normals : List Float)
    → StoredLines s from k b points₀ normals₀ ps ns → Stepped s b read at
    → (points ≡ placed_of position_of k read ps) × (normals ≡ placed_of normal_of k read ns)
    → StoredLines s from (k + 1) at points₀ normals₀ points normals
unfolding StoredLines
one_stored s from k b at read points₀ normals₀ ps ns points normals h st e =
    subst (λ (j : ℕ). StoredLines s from j at points₀ normals₀ points normals) (sym (add-one k))
    (b, (ps, (ns, (read, (h, (st, e))))))
