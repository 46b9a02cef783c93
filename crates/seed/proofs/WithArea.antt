-- No seed is without area: what is accepted is not (`seed_area`). Assumes nothing.
use Prim.Native.Nat.{ℕ}
use mathlib.Core.Path.{◌≡◌, sym, ap, ◌∙◌, subst}
use mathlib.Core.Bool.{true, false}
use mathlib.Core.List.{List}
use mathlib.Core.Option.{Option, none, some}
use lib.Ieee.{Float}
use Rattle.std.specs.Prelude.{Option as Outcome}
use Rattle.lists.specs.Inner.Found.{option_found}
use Rattle.triangle.specs.Quality.{is_zero}
use Rattle.triangle.proofs.Acceptance.{zero_refused}
use Rattle.lists.proofs.Bools.{not-true, true_not_false}
use Rattle.patch.specs.Search.{searching}
use Rattle.amending.proofs.Fitting.{seed_fits}
use Rattle.decisions.specs.declared.Scene.{Scene}
use Rattle.decisions.specs.Decisions.{quality_at, accepts, floats_of}
use Rattle.decisions.specs.Found.{area_at}
use Rattle.decisions.proofs.Completed.{area_at_lem}
use Rattle.seed.specs.Inner.Found.{WithArea}

accepted_area : (s : Scene) (pts : List Float) (r : Float) (i j k : ℕ) → accepts s r (quality_at pts i j k) ≡ true → is_zero (area_at pts i j k) ≡ false
unfolding accepts
accepted_area s pts r i j k h = not-true (λ (z : is_zero (area_at pts i j k) ≡ true).
    true_not_false h (zero_refused (quality_at pts i j k) r s.min_triangle_area s.quality_threshold s.max_edge_factor
    (ap is_zero (area_at_lem pts i j k) ∙ z)))

module _ (s : Scene) (pts : List Float) (r : Float) (used : List ℕ) where
  found_area : (o : Option (ℕ × ℕ × ℕ)) → (searching (floats_of s pts) s.n).seed_of r used ≡ o → WithArea pts (option_found o)
  unfolding floats_of
  found_area none q = tt
  found_area (some t) q = accepted_area s pts r t.0 t.1 t.2 (seed_fits (floats_of s pts) r used s.n t q)

  pub seed_area : {x : Outcome (ℕ × ℕ × ℕ)} → x ≡ option_found ((searching (floats_of s pts) s.n).seed_of r used) → WithArea pts x
  seed_area e = subst (WithArea pts) (sym e)
      (found_area ((searching (floats_of s pts) s.n).seed_of r used) (λ i. (searching (floats_of s pts) s.n).seed_of r used))
