-- The claims of TotalOrder.antt, for every accepted cloud. Assumes nothing.
use Prim.Native.Nat.{ℕ}
use Rattle.domain.proofs.Accepted.{accepted_estimate, accepted_reconstruct}
use Rattle.ball_pivoting.specs.Reconstruct.{point_count, spatial_index_of}
use Rattle.total_order.specs.TotalOrder.{RadiiSorted, EstimateSorted}
use Rattle.total_order.proofs.Radii.{near_sorted, densities_sorted, candidates_sorted}
use Rattle.total_order.proofs.Estimate.{samples_sorted}

pub radii_alike : RadiiSorted
radii_alike points normals c words floats e given =
    let a = accepted_reconstruct points normals c words floats e in
    let n : ℕ = point_count points in
    let g = spatial_index_of c points in
    record {
      distances = λ i l. near_sorted c points n a.cloud a.settled given g i l;
      densities = densities_sorted c points n a.cloud a.settled given g;
      radii = candidates_sorted c points n a.cloud a.settled given g;
    }

pub estimate_alike : EstimateSorted
estimate_alike points percentile words floats e =
    samples_sorted points (point_count points) (accepted_estimate points percentile words floats e).cloud
