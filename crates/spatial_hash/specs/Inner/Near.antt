-- Lists of the points within bounds and near a place, and what the hash asks and keeps. Definitions only.
use Rattle.std.specs.Prelude.{ℕ, ◌+◌, ◌*◌, ◌≤◌, ◌<◌, ◌≡◌, ◌≢◌, Bool, false, true, List, T, eqb, length, take, drop, get_or, Float}
use Rattle.std.specs.Float.Ieee.{lt}
use Rattle.std.specs.Float.Ieee.Scale.{finite}
use Rattle.numbers.specs.Rounded.{f32}
use Rattle.vector.specs.Inner.Numbers.{Finite}
use Rattle.vector.specs.declared.Point3f.{Point3f}
use Rattle.points.specs.Points.{point_at}
use Rattle.regions.specs.Inner.Regions.{neighbors_at, used_at, links_at, starts_at, bucket_room, words_length}
use Rattle.lists.specs.Lists.{count, unused}
use Rattle.lists.specs.Members.{Below}
use Rattle.bounds.specs.declared.Bounds.{Bounds}
use Rattle.bounds.specs.Inner.Within.{within}
use Rattle.sifting.specs.Inner.Sift.{is_within}
use Rattle.spatial_hash.specs.declared.Hash.{Hash}
use Rattle.bucket_order.specs.Inner.Chains.{Chained}
use Rattle.spatial_hash.specs.Inner.Buckets.{bucket_at, bucket_in, buckets, links_of, is_out}
use Rattle.bucket_order.specs.Inner.Order.{BucketsLaid}

-- js has every point within the bounds but some that are out, each at most once, and none but the n of the cloud
pub record Gathers (pts : List Float) (n : ℕ) (out : ℕ → Bool) (b : Bounds) (js : List ℕ) : Type 0 where
  pub below : Below n js
  pub once : (j : ℕ) → count (eqb j) js ≤ 1
  pub complete : (j : ℕ) → j < n → out j ≡ false → within b (point_at pts j) ≡ true → 1 ≤ count (eqb j) js

-- js has every point whose squared distance from a place is not above a limit but some that are out, each at most once,
-- and none but the n of the cloud
pub record Surrounds (pts : List Float) (n : ℕ) (out : ℕ → Bool) (p : Point3f) (t : Float) (js : List ℕ) : Type 0 where
  pub below : Below n js
  pub once : (j : ℕ) → count (eqb j) js ≤ 1
  pub complete : (j : ℕ) → j < n → out j ≡ false → is_within pts p t j ≡ true → 1 ≤ count (eqb j) js

-- out is nobody
abbrev pub none_out : ℕ → Bool
none_out j = false

-- n points whose coordinates are numbers, and room for what is kept of them
pub record HashReady (pts : List Float) (n : ℕ) (w : List ℕ) : Type 0 where
  pub few : n ≤ 4096
  pub points_long : 3 * n ≤ length pts
  pub work_long : words_length n ≤ length w
  pub numbers : (i : ℕ) → i < n → Finite (point_at pts i)

-- a hash whose cell numbers keep the order of the coordinates, and whose buckets have words
pub record HashSound (h : Hash) (n : ℕ) : Type 0 where
  pub some : 0 < h.side
  pub few : h.side ≤ 24
  pub fitting : buckets h ≤ bucket_room n
  pub positive : T (lt (f32 0) h.scale)
  pub scale_finite : T (finite h.scale)
  pub corner : Finite h.least

-- a hash with empty buckets
pub record EmptyHash (h : Hash) (pts : List Float) (n : ℕ) (w : List ℕ) : Type 0 where
  pub ready : HashReady pts n w
  pub sound : HashSound h n
  pub empty : (b : ℕ) → b < buckets h → get_or w (starts_at n + b) 0 ≡ 0

-- a hash whose buckets have chains of all points
pub record Heading (h : Hash) (pts : List Float) (n : ℕ) (w : List ℕ) : Type 0 where
  pub ready : HashReady pts n w
  pub sound : HashSound h n
  pub chained : Chained (bucket_at h pts) n (buckets h) w n

-- what `gather_within` needs and `remove` keeps: it lies in the words from `links_at` on
pub record HashLinked (h : Hash) (pts : List Float) (n : ℕ) (w : List ℕ) : Type 0 where
  pub ready : HashReady pts n w
  pub sound : HashSound h n
  pub laid : BucketsLaid (bucket_in h pts n (links_of n w)) n h.side w

-- whoever is out is used
pub record Hashed (h : Hash) (pts : List Float) (n : ℕ) (w : List ℕ) : Type 0 where
  pub linked : HashLinked h pts n w
  pub unused_in : (j : ℕ) → j < n → unused (take n (drop (used_at n) w)) j ≡ true → is_out n (links_of n w) j ≡ false

-- what `build` leaves: nobody is out
pub record HashedAll (h : Hash) (pts : List Float) (n : ℕ) (w : List ℕ) : Type 0 where
  pub linked : HashLinked h pts n w
  pub all_in : (j : ℕ) → j < n → is_out n (links_of n w) j ≡ false

-- a hash, and room for so many more neighbours
pub record NeighborRoom (h : Hash) (pts : List Float) (n : ℕ) (w : List ℕ) (at : ℕ) (js : List ℕ) : Type 0 where
  pub linked : HashLinked h pts n w
  pub enough : at + length js ≤ n

pub record Built (h : Hash) (pts : List Float) (n : ℕ) (w u : List ℕ) : Type 0 where
  pub hashed : HashedAll h pts n u
  pub before : take (links_at n) u ≡ take (links_at n) w
  pub length_same : length u ≡ length w

-- r points within bounds were gathered, and only the list of neighbours was changed: w before, u after
pub record Gathered (pts : List Float) (n : ℕ) (b : Bounds) (w u : List ℕ) (r : ℕ) : Type 0 where
  pub most : r ≤ n
  pub gathers : Gathers pts n (is_out n (links_of n w)) b (take r (drop (neighbors_at n) u))
  pub before : take (neighbors_at n) u ≡ take (neighbors_at n) w
  pub after : drop (used_at n) u ≡ drop (used_at n) w

-- r points near a place were gathered, and only the list of neighbours was changed: w before, u after
pub record NearPlace (pts : List Float) (n : ℕ) (p : Point3f) (t : Float) (w u : List ℕ) (r : ℕ) : Type 0 where
  pub most : r ≤ n
  pub surrounds : Surrounds pts n (is_out n (links_of n w)) p t (take r (drop (neighbors_at n) u))
  pub before : take (neighbors_at n) u ≡ take (neighbors_at n) w
  pub after : drop (used_at n) u ≡ drop (used_at n) w

-- point k was taken out, and nobody else; only words from `links_at` on were changed: w before, u after
pub record Removed (h : Hash) (pts : List Float) (n : ℕ) (w u : List ℕ) (k : ℕ) : Type 0 where
  pub linked : HashLinked h pts n u
  pub gone : is_out n (links_of n u) k ≡ true
  pub others : (j : ℕ) → j < n → j ≢ k → is_out n (links_of n u) j ≡ is_out n (links_of n w) j
  pub before : take (links_at n) u ≡ take (links_at n) w
