-- Laws of building: points that are linked one by one. Assumes nothing.
use mathlib.Core.Path.{◌≡◌, refl, ap, ◌∙◌, subst}
use mathlib.Core.Bool.{false}
use mathlib.Core.List.{List}
use Prim.Native.Nat.{ℕ, ◌+◌, ◌*◌, ◌≤◌, ◌<◌}
use native.Mathlib.Nat.{mod-lt}
use native.Mathlib.Omega.{arith}
use lib.ListN.{length, take, get_or, set, length-set}
use lib.Seq.{take-set-le}
use lib.Ieee.{Float}
use Rattle.vector.specs.declared.Point3f.{Point3f}
use Rattle.spatial_hash.specs.declared.Hash.{Hash}
use Rattle.bucket_order.specs.Inner.Chains.{Chained}
use Rattle.spatial_hash.specs.Inner.Buckets.{row_for, place_for, bucket_of, bucket_at, buckets, links_of, is_out, bucket_in}
use Rattle.bucket_order.specs.Inner.Order.{BucketsLaid}
use Rattle.spatial_hash.specs.Inner.Near.{EmptyHash, Heading, HashedAll}
use Rattle.spatial_hash.proofs.Sizes.{joined_below}
use Rattle.bucket_order.proofs.Chains.{last_le, chained_start, chained_step}
use Rattle.spatial_hash.proofs.Inside.{link_in, bucket_in_lem}
use Rattle.bucket_order.proofs.Ordering.{in_front}
use Rattle.spatial_hash.proofs.Kept.{ready_same, laid_same}

pub row_below : (h : Hash) (p : Point3f) → 0 < h.side → row_for h p < h.side * h.side
unfolding row_for
row_below h p l = joined_below h.side h.side _ _ (mod-lt _ l) (mod-lt _ l)

pub place_below : (h : Hash) (p : Point3f) → 0 < h.side → place_for h p < h.side
unfolding place_for
place_below h p l = mod-lt _ l

pub bucket_below : (h : Hash) (p : Point3f) → 0 < h.side → bucket_of h p < buckets h
unfolding bucket_of
bucket_below h p l = let k = place_below h p l in joined_below (h.side * h.side) (h.side + 1) (row_for h p) (place_for h p) (row_below h p l) (omega arith)

-- the first j points are chained, and what lies before the links is as it was
pub record Linking (h : Hash) (pts : List Float) (n : ℕ) (w₀ w : List ℕ) (j : ℕ) : Type 0 where
  pub chained : Chained (bucket_at h pts) n (buckets h) w j
  pub before : take (9 * n) w ≡ take (9 * n) w₀
  pub length_same : length w ≡ length w₀
  pub most : j ≤ n

pub linking_start : (h : Hash) (pts : List Float) (n : ℕ) (w : List ℕ) → EmptyHash h pts n w → Linking h pts n w w 0
linking_start h pts n w e =
    record { chained = chained_start (bucket_at h pts) n (buckets h) w e.empty; before = refl; length_same = refl; most = omega arith }

pub linking_step : (h : Hash) (pts : List Float) (n : ℕ) (w₀ w u : List ℕ) (j b : ℕ) → EmptyHash h pts n w₀ → j < n → b ≡ bucket_at h pts j
    → u ≡ set (set w (9 * n + j) (get_or w (10 * n + b) 0)) (10 * n + b) (j + 1) → Linking h pts n w₀ w j → Linking h pts n w₀ u (j + 1)
linking_step h pts n w₀ w u j b e l q s i =
    let same = i.length_same in
    let a = get_or w (10 * n + b) 0 in
    let v = set w (9 * n + j) a in
    let long : 24 * n + 64 ≤ length w = let o = e.ready.work_long in omega arith in
    record {
      chained = chained_step (bucket_at h pts) n (buckets h) j w l (bucket_below h _ e.sound.some) e.sound.fitting long i.chained u
          (s ∙ ap (λ (a : ℕ). set (set w (9 * n + j) (get_or w (10 * n + a) 0)) (10 * n + a) (j + 1)) q);
      before = ap (take (9 * n)) s ∙ take-set-le (9 * n) v (10 * n + b) (j + 1) (omega arith) ∙ take-set-le (9 * n) w (9 * n + j) a (omega arith) ∙ i.before;
      length_same = ap length s ∙ length-set v (10 * n + b) (j + 1) ∙ length-set w (9 * n + j) a ∙ same;
      most = omega arith;
    }

pub linking_end : (h : Hash) (pts : List Float) (n : ℕ) (w₀ w : List ℕ) (j : ℕ) → n ≤ j → Linking h pts n w₀ w j → Chained (bucket_at h pts) n (buckets h) w n
linking_end h pts n w₀ w j l s = let e : j ≡ n = let m = s.most in omega arith in subst (Chained (bucket_at h pts) n (buckets h) w) e s.chained

-- where all points are chained and put into the order nobody is out: w before that, u after
pub hashed_all : (h : Hash) (pts : List Float) (n : ℕ) (w u : List ℕ) → Heading h pts n w → length u ≡ length w → take (10 * n) u ≡ take (10 * n) w
    → BucketsLaid (bucket_at h pts) n h.side u → HashedAll h pts n u
hashed_all h pts n w u c l same s = record {
  linked = record {
    ready = ready_same pts n w u l c.ready;
    sound = c.sound;
    laid = laid_same (bucket_at h pts) (bucket_in h pts n (links_of n u)) n h.side u u (λ i k. refl) (λ i k. bucket_in_lem h pts n (links_of n u) i (inside i k)) s;
  };
  all_in = inside;
}
  where
    inside : (j : ℕ) → j < n → is_out n (links_of n u) j ≡ false
    inside j k =
        link_in n j u
        (omega (
          arith,
          in_front (10 * n) w u same (9 * n + j) (omega arith),
          c.chained.links j k (bucket_below h _ c.sound.some),
          last_le (bucket_at h pts)
              (bucket_at h pts j) j,
        ))
