use mathlib.Core.Path.{refl, sym, ap, ◌∙◌, subst⁻¹}
use native.Mathlib.Omega.{arith}
use lib.Dec.{T}
use lib.Ieee.{Float, binary32, fits}
use Rattle.vector.specs.Vector.{squared}
use Rattle.vector.proofs.Distances.{squared_fits}
use Rattle.vector.specs.declared.Point3f.{Point3f}
use Rattle.index_search.proofs.Own.{whole_length, first_six, started, nearest_found}
use Rattle.index_search.proofs.nearest_in.Reads as reads
use Rattle.index_search.proofs.nearest_in.Lts as lts
use Rattle.nearest.proofs.limit_of.Reads as limit-of-reads
use Rattle.box_search.proofs.reach.Reads as reach-reads
use Rattle.box_search.proofs.search.Reads as search-reads
use Rattle.points.proofs.point_at.Reads as point-at-reads
use Rattle.vector.proofs.distance_squared.Reads as distance-squared-reads
use Rattle.index_search.proofs.nearest_in.Goals as goal

pub point_at-requires : goal.point_at-requires
point_at-requires c = omega (arith, c.requires.0.cloud.some, c.requires.0.cloud.threes)

pub limit_of-requires : goal.limit_of-requires
limit_of-requires c =
    subst⁻¹ (λ (z : Float). T (fits binary32 z)) c.distance_squared-square.ensures (squared_fits _ c.args.spot)

pub reach-far-requires : goal.reach-far-requires
reach-far-requires c =
    let a = c.args in let own = c.requires.0 in let
    fit = c.type_inv.points in first_six own fit a.width c.requires.1

pub slice_bounds-search-end : goal.slice_bounds-search-end
slice_bounds-search-end c =
    let own = c.requires.0 in let
    fit = c.type_inv.points in sym (whole_length own fit)

pub search-number-requires : goal.search-number-requires
search-number-requires c =
    let a = c.args in let
    own = c.requires.0 in let
    fit = c.type_inv.points in started own fit a.spot
    c.requires.3 a.width
    c.requires.1
    c.requires.2
    (c.distance_squared-square.ensures ∙ ap (λ (p : Point3f). squared p a.spot)
    c.point_at.ensures) c.limit_of.ensures
    c.reach-far.ensures

pub returns : goal.returns
returns c =
    let a = c.args in let
    own = c.requires.0 in let
    fit = c.type_inv.points in nearest_found own fit a.spot
    c.requires.3
    (c.distance_squared-square.ensures ∙ ap (λ (p : Point3f). squared p a.spot)
    c.point_at.ensures) refl c.search-number.ensures
