-- The claims of Cuts.antt, for every accepted cloud. Assumes nothing.
use Prim.Native.Nat.{ℕ}
use native.Mathlib.Omega.{arith}
use lib.ListN.{length, get_or}
use lib.Ieee.{Float, nan}
use Rattle.numbers.specs.Rounded.{f32}
use Rattle.ranges.specs.Range.{percentile_inside}
use Rattle.domain.proofs.Accepted.{accepted_estimate, accepted_reconstruct}
use Rattle.sorting.specs.Sorted.{sorted}
use Rattle.radii.specs.Radii.{step_of, sample_count}
use Rattle.estimate.specs.Estimate as estimate
use Rattle.ball_pivoting.specs.Reconstruct.{point_count, spatial_index_of, radii_of}
use Rattle.total_order.specs.TotalOrder.{densities_of, samples_of}
use Rattle.cuts.specs.Cuts.{CutsSame, EstimateCutsSame}
use Rattle.cuts.proofs.Cells.{within_range_lem, cells_same, middles_same}
use Rattle.cuts.proofs.Ranges.{ranges_same, sample_range_same}
use Rattle.cuts.proofs.Places.{place_same, sorted_length, densities_most, samples_most, samples_few}

pub cuts_alike : CutsSame
unfolding spatial_index_of radii_of
cuts_alike points normals c words floats e given f32s =
    let a = accepted_reconstruct points normals c words floats e in
    let n : ℕ = point_count points in
    let g = spatial_index_of c points in
    record {
      cells = λ i l. cells_same c points n a.cloud a.settled i l;
      middles = λ i j l m. middles_same c points n a.cloud a.settled f32s i j l m;
      ranges = ranges_same c points n a.cloud a.settled given g;
      sample_range = sample_range_same c points n a.cloud a.settled given g;
      places = λ some k l.
          let p : Float = get_or c.adaptive_percentiles k nan in
          let r = within_range_lem (f32 0) (f32 0x3f800000) p (a.settled.percentiles.each k l) in
          place_same (length (sorted (densities_of c points))) p
          (omega (arith, sorted_length (densities_of c points)))
          (omega (
            arith,
            sorted_length (densities_of c points),
            densities_most c g points n (step_of n) 0
                (sample_count n),
            samples_few n (step_of n) a.cloud.some,
            a.cloud.few,
          ))
          r.0 r.1;
    }

pub estimate_cuts_alike : EstimateCutsSame
unfolding percentile_inside
estimate_cuts_alike points p words floats e some =
    let a = accepted_estimate points p words floats e in
    let n : ℕ = point_count points in
    let r = within_range_lem (f32 0) (f32 0x3f800000) p a.percentile_inside_lem in
    place_same (length (sorted (samples_of points))) p
    (omega (arith, sorted_length (samples_of points)))
    (omega (
      arith,
      sorted_length (samples_of points),
      samples_most points n (estimate.estimate_step n) 0
          (estimate.estimate_samples n),
      samples_few n (estimate.estimate_step n) a.cloud.some,
      a.cloud.few,
    ))
    r.0 r.1
