-- The index is the definition's, and the slice is ready for the searches. Assumes nothing.
use mathlib.Core.Path.{refl}
use native.Mathlib.Omega.{arith}
use Rattle.ball_pivoting.specs.Reconstruct.{spatial_index_of, scene_of}
use Rattle.ball_pivoting.proofs.Found.{all_searchable}
use Rattle.surveying.proofs.index_points.Goals as goal

pub build-hash-requires : goal.build-hash-requires
build-hash-requires c =
    let h = c.requires in
    record {
      few = h.few;
      points_long = omega
          (arith, h.threes);
      work_long = c.build_spatial_grid-grid.ensures.1.room;
      numbers = h.numbers;
    }

pub returns : goal.returns
unfolding spatial_index_of scene_of
returns c = (
  cc,
  all_searchable refl c.requires
      c.build_spatial_grid-grid.ensures.1 c.build-hash.ensures,
)
