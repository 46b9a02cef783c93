-- What a search comes to is the same value in the definition and in the code. Assumes nothing.
use mathlib.Core.Path.{◌≡◌, refl, sym, ap, ◌∙◌}
use mathlib.Core.Option.{Option as Sought, none, some}
use Rattle.std.specs.Prelude.{Option, Some, None}
use Rattle.lists.specs.Inner.Found.{option_found, option_sought}

module _ {A : Type 0} where
  pub sought_found : (o : Sought A) → option_sought (option_found o) ≡ o
  sought_found none = refl
  sought_found (some x) = refl

  pub found_sought : (o : Option A) → option_found (option_sought o) ≡ o
  found_sought None = refl
  found_sought (Some x) = refl

  pub found_some : (o : Sought A) {x : A} → option_found o ≡ Some x → o ≡ some x
  found_some o h = sym (sought_found o) ∙ ap option_sought h

  pub found_none : (o : Sought A) → option_found o ≡ None → o ≡ none
  found_none o h = sym (sought_found o) ∙ ap option_sought h
