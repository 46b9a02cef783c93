-- The answers of the search for a seed as the code gives them. Assumes nothing.
use Prim.Native.Nat.{ℕ}
use mathlib.Core.Path.{◌≡◌, refl, sym, ap}
use mathlib.Core.Bool.{true, false}
use mathlib.Core.List.{List}
use mathlib.Core.Option.{Option, none, some}
use native.Mathlib.Omega.{arith}
use Rattle.std.specs.Prelude.{Some, None}
use Rattle.lists.specs.Inner.Found.{option_found}
use Rattle.patch.specs.Search.{Floats, is_second, third_of}
use Rattle.nearby.proofs.Laws.{chosen, passed}
use Rattle.seedless.specs.Inner.Parts.{with_second}
use Rattle.seedless.proofs.Laws.{or_else}

-- ---- the first answer, or else another

pub else_hit : (x y : Option (ℕ × ℕ × ℕ)) (t : ℕ × ℕ × ℕ) → option_found x ≡ Some t → option_found (or_else x y) ≡ Some t
else_hit none y t h = absurd (let z : ◌≡◌ {A = ℕ} 0 1 = cc in omega arith)
else_hit (some x) y t h = h

pub else_miss : (x y : Option (ℕ × ℕ × ℕ)) → option_found x ≡ None → or_else x y ≡ y
else_miss none y h = refl
else_miss (some t) y h = absurd (let z : ◌≡◌ {A = ℕ} 0 1 = cc in omega arith)

-- ---- the second point
module _ {R : Type 0} (floats : Floats R) (r : R) (used : List ℕ) where
  pub second_not : (i j : ℕ) (ks : List ℕ) → is_second floats r used i j ≡ false → None ≡ option_found (with_second floats r used i ks j)
  unfolding with_second
  second_not i j ks h = ap option_found (sym (passed (is_second floats r used i j) (third_of floats r used i j ks) none h))

  pub second_is : (i j : ℕ) (ks : List ℕ) → is_second floats r used i j ≡ true → option_found (third_of floats r used i j ks)
      ≡ option_found (with_second floats r used i ks j)
  unfolding with_second
  second_is i j ks h = ap option_found (sym (chosen (is_second floats r used i j) (third_of floats r used i j ks) none h))
