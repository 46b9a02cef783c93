-- What holds at a first point from step to step, as long as nothing but the list of neighbours changes. Assumes
-- nothing.
use Prim.Native.Nat.{ℕ}
use mathlib.Core.Path.{◌≡◌, sym, ap, subst}
use mathlib.Core.Bool.{Bool, true}
use mathlib.Core.List.{List}
use lib.ListN.{length, take}
use lib.Ieee.{Float}
use Rattle.std.specs.Prelude.{Option as Outcome, None}
use Rattle.lists.specs.Inner.Found.{option_found}
use Rattle.grid.proofs.Near.{indexed_kept}
use Rattle.decisions.specs.declared.Scene.{Scene}
use Rattle.nearby.specs.declared.Filter.{Filter}
use Rattle.nearby.specs.Inner.Ready.{SceneKept, used_in_scene}
use Rattle.nearby.proofs.Keeping.{kept_self, held_kept, hashed_search}
use Rattle.seedless.specs.declared.Site.{Site}
use Rattle.seedless.specs.Inner.Seedless.{SeedlessFrom}
use Rattle.seedless.proofs.Threes.{seedless_next, seedless_nothing}
use Rattle.seed.specs.Inner.Seconds.{SecondsTried, SiteSearchable, SeedlessBefore, FirstTried}

pub searchable_kept : {p : Site} {pts : List Float} {w : List ℕ} {i : ℕ} (v : List ℕ) → SiteSearchable p pts w i → SceneKept p.scene w v → length v
    ≡ length w → SiteSearchable p pts v i
searchable_kept {p} v h k l = record {
  held = held_kept v h.held l;
  indexed = indexed_kept v h.indexed l k.before;
  hashed = hashed_search {s = p.scene} v h.hashed l k;
  limiting = h.limiting;
  inside = h.inside;
}

-- which points are used stays the same
used_same : {s : Scene} {w v : List ℕ} → SceneKept s w v → used_in_scene s v ≡ used_in_scene s w
used_same {s} k = ap (take s.n) k.after

pub before_kept : {p : Site} {pts : List Float} {w v : List ℕ} {lo i : ℕ} → SeedlessBefore p pts (used_in_scene p.scene w) lo i → SceneKept p.scene w v
    → SeedlessBefore p pts (used_in_scene p.scene v) lo i
before_kept {p} {pts} {lo = lo} {i = i} b k = subst (λ (u : List ℕ). SeedlessBefore p pts u lo i) (sym (used_same {s = p.scene} k)) b

module _ {s : Scene} {pts : List Float} {r : Float} {w v : List ℕ} (k : SceneKept s w v) where
  pub seconds_kept : {f : Filter} {i from to : ℕ} {found : Outcome (ℕ × ℕ × ℕ)} → SecondsTried s pts r (used_in_scene s w) f i from to found
      → SecondsTried s pts r (used_in_scene s v) f i from to found
  seconds_kept {f} {i} {from} {to} {found} = subst (λ (u : List ℕ). SecondsTried s pts r u f i from to found) (sym (used_same {s = s} k))

  pub seconds_back : {f : Filter} {i from to : ℕ} {found : Outcome (ℕ × ℕ × ℕ)} → SecondsTried s pts r (used_in_scene s v) f i from to found
      → SecondsTried s pts r (used_in_scene s w) f i from to found
  seconds_back {f} {i} {from} {to} {found} = subst (λ (u : List ℕ). SecondsTried s pts r u f i from to found) (used_same {s = s} k)

  pub first_back : {lo i : ℕ} {found : Outcome (ℕ × ℕ × ℕ)} {seedless : Bool} → FirstTried s pts r (used_in_scene s v) lo i found seedless
      → FirstTried s pts r (used_in_scene s w) lo i found seedless
  first_back {lo} {i} {found} {seedless} = subst (λ (u : List ℕ). FirstTried s pts r u lo i found seedless) (used_same {s = s} k)

-- a point of which it is told gives nothing
pub first_seedless : {p : Site} {pts : List Float} {w : List ℕ} {lo i : ℕ} → SiteSearchable p pts w i → SeedlessBefore p pts (used_in_scene p.scene w) lo i
    → SeedlessFrom p.scene pts p.radius (used_in_scene p.scene w) lo i
    → FirstTried p.scene pts p.radius (used_in_scene p.scene w) lo i None true
first_seedless {p} {w = w} h b f = record {
  same = sym (ap option_found
      (seedless_nothing (used_in_scene p.scene w) b.free h.inside b.order (seedless_next {w₀ = w} b.between (kept_self p.scene w) f)));
  told = λ _. f;
}
