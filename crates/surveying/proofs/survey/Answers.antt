-- The points indexed and hashed, and the radii. Assumes nothing.
use mathlib.Core.Path.{◌∙◌}
use Rattle.laying.proofs.Kept.{all_searchable_searched}
use Rattle.ball_pivoting.proofs.Found.{radii_ready, listed_at}
use Rattle.surveying.proofs.survey.Goals as goal

pub is_sparse-sparse-requires : goal.is_sparse-sparse-requires
is_sparse-sparse-requires c = c.index_points-site.ensures.1

pub rehash-wide-requires : goal.rehash-wide-requires
rehash-wide-requires c = c.is_sparse-sparse.ensures

pub compute_adaptive_radii-radii-requires : goal.compute_adaptive_radii-radii-requires
compute_adaptive_radii-radii-requires c =
    radii_ready _ _ _ _ _ _
    c.index_points-site.ensures.0
    c.requires c.rehash-wide.ensures

pub rehash-hash-requires : goal.rehash-hash-requires
rehash-hash-requires c =
    let r = c.compute_adaptive_radii-radii in
    all_searchable_searched _ (record { before = r.ensures.1; after = r.ensures.2 }) r.auto.w
    c.rehash-wide.ensures

pub shape_of-words : goal.shape_of-words
shape_of-words c =
    c.rehash-hash.auto.words
    ∙ c.compute_adaptive_radii-radii.auto.w
    ∙ c.rehash-wide.auto.words
    ∙ c.is_sparse-sparse.auto.words ∙ c.index_points-site.auto.words

pub returns : goal.returns
returns c =
    let i = c.index_points-site.ensures in (
      i.0,
      c.rehash-hash.ensures,
      listed_at _ _ _ _ i.0
          c.compute_adaptive_radii-radii.ensures.0,
    )
