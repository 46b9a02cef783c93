-- The points that are listed around a first one are those that may make a seed with it. Assumes nothing.
use Prim.Native.Nat.{ℕ, ◌<◌}
use mathlib.Core.Path.{◌≡◌}
use mathlib.Core.List.{List}
use lib.ListN.{length}
use lib.Ieee.{Float}
use Rattle.points.specs.Points.{point_at}
use Rattle.spatial_hash.specs.Inner.Near.{Hashed, NearPlace}
use Rattle.filters.specs.Inner.Refused.{Limiting}
use Rattle.nearby.specs.Inner.Ready.{SceneHeld, NeighborsListed, SceneKept, used_in_scene}
use Rattle.nearby.proofs.Keeping.{kept_on, held_kept}
use Rattle.nearby.proofs.Narrowing.{near_kept, below_listed}
use Rattle.three_points.specs.Inner.Judged.{LimitsAtRadius}
use Rattle.seedless.specs.declared.Site.{Site}
use Rattle.seedless.specs.Inner.Seedless.{SeedlessFrom, AllLeftSeedless}
use Rattle.seedless.proofs.Threes.{seedless_from}

module _ {p : Site} {pts : List Float} {w u : List ℕ} {i found : ℕ} (held : SceneHeld p.scene pts w) (hashed : Hashed p.hash pts p.scene.n w)
    (inside : i < p.scene.n) (limiting : Limiting p.scene p.radius p.limits) (near : NearPlace pts p.scene.n (point_at pts i) p.limits.far w u found)
    (long : length u ≡ length w) where
  judged : LimitsAtRadius p.scene pts p.radius p.limits
  judged = record { numbers = hashed.linked.ready.numbers; limits = limiting }

  pub around_ready : SceneHeld p.scene pts u × NeighborsListed p.scene u found × (i < p.scene.n) × LimitsAtRadius p.scene pts p.radius p.limits
  around_ready = let h = held_kept u held long in (h, below_listed h.work_long near.most near.surrounds.below, inside, judged)

  pub around_seedless : (lo : ℕ) → AllLeftSeedless p.scene pts p.radius lo i u found → SeedlessFrom p.scene pts p.radius (used_in_scene p.scene w) lo i
  around_seedless lo all = seedless_from lo i found judged (near_kept {s = p.scene} near)
      (λ k i free t. near.surrounds.complete k i (hashed.unused_in k i free) t) all

  pub around_kept : {v : List ℕ} → SceneKept p.scene u v → SceneKept p.scene w v
  around_kept = kept_on (near_kept {s = p.scene} near)
