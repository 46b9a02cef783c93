-- Who is in a bucket, by the links. Assumes nothing.
use Prim.Native.Nat.{ℕ, ◌+◌, ◌*◌, ◌≤◌, ◌<◌}
use mathlib.Core.Path.{◌≡◌, sym, ap, ◌∙◌}
use mathlib.Core.Bool.{true, false}
use mathlib.Core.List.{List}
use borrow.Author.Tests.{lt-ltb, le-ltb}
use lib.Dec.{ltb}
use lib.ListN.{get_or}
use lib.Seq.{get_or-drop}
use lib.Ieee.{Float}
use Rattle.spatial_hash.specs.declared.Hash.{Hash}
use Rattle.spatial_hash.specs.Inner.Buckets.{bucket_at, buckets, links_of, is_out, bucket_in}

module _ (n j : ℕ) (w : List ℕ) where
  pub link_in : get_or w (9 * n + j) 0 ≤ n → is_out n (links_of n w) j ≡ false
  unfolding is_out
  link_in h = ap (ltb n) (get_or-drop (9 * n) w j 0) ∙ le-ltb n (get_or w (9 * n + j) 0) h

  pub link_out : n < get_or w (9 * n + j) 0 → is_out n (links_of n w) j ≡ true
  unfolding is_out
  link_out h = ap (ltb n) (get_or-drop (9 * n) w j 0) ∙ lt-ltb n (get_or w (9 * n + j) 0) h

  -- a link that is the same
  pub link_same : (u : List ℕ) → get_or u (9 * n + j) 0 ≡ get_or w (9 * n + j) 0 → is_out n (links_of n u) j ≡ is_out n (links_of n w) j
  unfolding is_out
  link_same u e = ap (ltb n) (get_or-drop (9 * n) u j 0 ∙ e ∙ sym (get_or-drop (9 * n) w j 0))

module _ (h : Hash) (pts : List Float) (n : ℕ) (ls : List ℕ) (j : ℕ) where
  pub bucket_in_lem : is_out n ls j ≡ false → bucket_in h pts n ls j ≡ bucket_at h pts j
  unfolding bucket_in
  bucket_in_lem e = rw (e, bucket_in)

  -- in or out as by other links, and so in the same bucket
  pub bucket_same : (ks : List ℕ) → is_out n ls j ≡ is_out n ks j → bucket_in h pts n ls j ≡ bucket_in h pts n ks j
  unfolding bucket_in
  bucket_same ks e = rw (e, bucket_in)

  pub bucket_out : is_out n ls j ≡ true → bucket_in h pts n ls j ≡ buckets h
  unfolding bucket_in
  bucket_out e = rw (e, bucket_in)
