-- Squared distances and their roots: numbers without a minus sign, so that the order's equality is that of data.
-- Assumes nothing.
use mathlib.Core.Path.{◌≡◌, sym, ap, ◌∙◌, subst}
use mathlib.Core.Bool.{Bool, true, false, not}
use Prim.Native.Nat.{ℕ, zero, suc, ◌^◌}
use native.Mathlib.Nat.{zero-lt-suc}
use lib.Dec.{T, lt→ltb}
use lib.Ieee.{Float, nan, inf, fin, binary32, fits}
use lib.Ieee.Exact.{HasValue}
use Rattle.numbers.specs.Root.{root}
use Rattle.numbers.specs.Inner.Bounds.{unsigned}
use Rattle.numbers.proofs.RootNearest.{root_nearest}
use Rattle.vector.specs.declared.Point3f.{Point3f}
use Rattle.vector.specs.Vector.{squared, distance}
use Rattle.vector.specs.Inner.Numbers.{Finite}
use Rattle.vector.proofs.Distances.{squared_fits, squared_unsigned, squared_turned, distance_is}

abbrev pub Good : Float → Type 0
Good x = T (fits binary32 x) × T (unsigned x)

-- ---- roots
valued : (x : Float) (a c : ℕ) → HasValue x false a c → T (unsigned x)
valued nan a c v = absurd v
valued (inf s) a c v = absurd v
valued (fin s m e) a c v = subst (λ (b : Bool). T (not b)) (sym v.0) tt

pub root_good : (x : Float) → Good x → Good (root x)
unfolding root
root_good nan g = absurd g.1
root_good (inf true) g = absurd g.1
root_good (inf false) g = g
root_good (fin true m e) g = absurd g.1
root_good (fin false zero e) g = g
root_good (fin false (suc m) e) g =
    let r = root_nearest (fin false (suc m) e) g.0 (lt→ltb 0 (suc m) (zero-lt-suc m)) in
    (r.held, valued (root (fin false (suc m) e)) r.R (2 ^ 149) r.result)

pub squared_good : (p q : Point3f) → Finite p → Finite q → Good (squared p q)
squared_good p q f g = (squared_fits p q, squared_unsigned p q f g)

pub distance_back : (p q : Point3f) → distance p q ≡ root (squared q p)
distance_back p q = distance_is p q ∙ ap root (squared_turned p q)
