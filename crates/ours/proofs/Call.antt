-- No patch of the multi-radius path is turned down, plain or turned, whatever the order of its lines. Assumes nothing.
use Prim.Native.Nat.{ℕ, ◌<◌}
use mathlib.Core.Path.{◌≡◌}
use mathlib.Core.Bool.{Bool}
use mathlib.Core.List.{List}
use lib.Ieee.{Float}
use Rattle.settings.specs.declared.BallPivotingConfig.{BallPivotingConfig}
use Rattle.patch.specs.Lay.{Face}
use Rattle.patch.specs.Shape.{Shape}
use Rattle.orders.proofs.Decide.{accepted_valid}
use Rattle.orders.proofs.Patches.{shape_accepted, shape_different}
use Rattle.origins.specs.Turned.{turned}
use Rattle.origins.proofs.Claim.{shape_turned}
use Rattle.ball_pivoting.specs.declared.Patch.{Patch}
use Rattle.ball_pivoting.specs.Outcome.{faces_in, Reconstructs}
use Rattle.ball_pivoting.specs.Reconstruct.{laid_of}
use Rattle.ours.specs.Ours.{Ours}

-- whatever has the shape of a patch
pub shape_ours : (fs : List Face) (flags : List Bool) (F S looks pivots : ℕ) → Shape fs flags F S looks pivots → Ours fs
shape_ours fs flags F S looks pivots s = record {
  ours = λ hs order k. shape_accepted fs flags F S looks pivots s hs order k;
  ordered = λ hs order k. accepted_valid hs (shape_different fs flags F S looks pivots s hs order k) (shape_accepted fs flags F S looks pivots s hs order k);
}

module _ (points normals : List Float) (c : BallPivotingConfig) (faces words : List ℕ) (floats : List Float) (p : Patch) (faces' words' : List ℕ)
    (floats' : List Float)
    (r : Reconstructs points normals c faces words floats p faces' words' floats') (a : p.answer ≡ 0) (b : 0 < p.radii_count) where
  shape : Shape (faces_in p.faces faces') (laid_of c points).seed_flags p.faces p.seeds p.looks p.pivots
  shape = (r.shape a b).shape

  pub call_ours : Ours (faces_in p.faces faces')
  call_ours = shape_ours (faces_in p.faces faces') (laid_of c points).seed_flags p.faces p.seeds p.looks p.pivots shape

  -- whatever the parents are taken to be
  pub turned_ours : (parents : List ℕ) → Ours (turned parents (faces_in p.faces faces'))
  turned_ours parents =
      let fs = faces_in p.faces faces' in
      let flags = (laid_of c points).seed_flags in
      shape_ours (turned parents fs) flags p.faces p.seeds p.looks p.pivots
      (shape_turned parents fs flags p.faces p.seeds p.looks p.pivots shape)
