-- Laws of runs: buckets of a row that follow one another have their points one after another, and a span is one run or
-- two. Assumes nothing.
use mathlib.Core.Path.{◌≡◌, refl, sym, ap, ◌∙◌, subst}
use mathlib.Core.List.{List, [], ◌∷◌, ◌++◌}
use Prim.Native.Nat.{ℕ, zero, suc, ◌+◌, ◌-◌, ◌*◌, ◌≤◌, ◌<◌}
use native.Mathlib.Omega.{arith}
use lib.ListN.{length, get_or, set}
use lib.Ieee.{Float}
use Rattle.spatial_hash.specs.declared.Hash.{Hash}
use Rattle.bucket_order.specs.Inner.Chains.{chain, buckets_listed}
use Rattle.spatial_hash.specs.Inner.Buckets.{bucket_in, links_of, next_residue, residues, row, points_in, Appended}
use Rattle.bucket_order.specs.Inner.Order.{reads, start_of, BucketsLaid}
use Rattle.spatial_hash.specs.Inner.Near.{HashLinked, NeighborRoom}
use Rattle.bucket_order.proofs.Chains.{listed_append}
use Rattle.bucket_order.proofs.Words.{reads_length, reads_append}
use Rattle.spatial_hash.proofs.Sizes.{joined_below}
use Rattle.bucket_order.proofs.Ordering.{row_goes}
use Rattle.spatial_hash.proofs.Kept.{behind}
use Rattle.spatial_hash.proofs.Residues.{next_goes, next_wraps}
use Rattle.spatial_hash.proofs.Appending.{Walking, appended_none, appended_one, appended_both, walking_start, walking_as, walking_room, walking_step}

-- ---- remainders that follow one another

-- as long as none wraps the next one is one more
residues_next : (m r j : ℕ) → r + suc j ≤ m → residues m (next_residue m r) j ≡ residues m (r + 1) j
unfolding residues
residues_next m r zero h = refl
residues_next m r (suc j) h = ap (λ (i : ℕ). residues m i (suc j)) (next_goes m r (λ (e : r + 1 ≡ m). omega arith))

-- after the last one they start at 0
pub residues_wrap : (m j r k : ℕ) → r + suc j ≡ m → residues m r (suc j + k) ≡ residues m r (suc j) ++ residues m 0 k
unfolding residues
residues_wrap m zero r k h =
    let e : 1 + k ≡ suc k = omega arith in
    ap (residues m r) e ∙ ap (λ (i : ℕ). r ∷ residues m i k) (next_wraps m r (omega arith))
residues_wrap m (suc j) r k h =
    let e : suc (suc j) + k ≡ suc (suc j + k) = omega arith in
    let g = next_goes m r (λ (q : r + 1 ≡ m). omega arith) in
    ap (residues m r) e
    ∙ ap (λ (i : ℕ). r ∷ residues m i (suc j + k)) g
    ∙ ap (λ (l : List ℕ). r ∷ l) (residues_wrap m j (r + 1) k (omega arith))
    ∙ ap (λ (i : ℕ). r ∷ residues m i (suc j) ++ residues m 0 k) (sym g)

row_append : (m p : ℕ) (qs rs : List ℕ) → row m p (qs ++ rs) ≡ row m p qs ++ row m p rs
unfolding row
row_append m p [] rs = refl
row_append m p (q ∷ qs) rs = ap (λ (l : List ℕ). (p * m + q) ∷ l) (row_append m p qs rs)

-- a row's last bucket is one of all
row_last : (m p z : ℕ) → p < m * m → z ≤ m → p * (m + 1) + z < m * m * (m + 1)
row_last m p z h l = joined_below (m * m) (m + 1) p z h (omega arith)

-- ---- the points of a run

module _ (f : ℕ → ℕ) (n m : ℕ) (w : List ℕ) (s : BucketsLaid f n m w) (p : ℕ) (small : p < m * m) where
  abbrev start : ℕ → ℕ
  start z = start_of n w (p * (m + 1) + z)

  start_rises : (z : ℕ) → z < m → start z ≤ start (z + 1)
  start_rises z h =
      let g = row_goes m p z small h in
      let e : p * (m + 1) + z + 1 ≡ p * (m + 1) + (z + 1) = omega arith in
      let q = ap (start_of n w) e in
      let r = s.rising (p * (m + 1) + z) g in
      omega arith

  pub run_rises : (r j : ℕ) → r + j ≤ m → start r ≤ start (r + j)
  run_rises r zero h = let e : r + 0 ≡ r = omega arith in let q = ap start e in omega arith
  run_rises r (suc j) h =
      let ih = run_rises r j (omega arith) in
      let q = start_rises (r + j) (omega arith) in
      let e : r + j + 1 ≡ r + suc j = omega arith in
      let x = ap start e in
      omega arith

  -- one bucket's
  run_one : (z : ℕ) → z < m → reads w (16 * n + 64 + start z) (start (z + 1) - start z) ≡ chain f (p * (m + 1) + z) n
  run_one z h =
      let e : p * (m + 1) + (z + 1) ≡ p * (m + 1) + z + 1 = omega arith in
      ap (λ (i : ℕ). reads w (16 * n + 64 + start z) (start_of n w i - start z)) e ∙ s.parts p z small h

  pub run_listed : (j r : ℕ) → r + j ≤ m → reads w (16 * n + 64 + start r) (start (r + j) - start r) ≡ buckets_listed f n (row (m + 1) p (residues m r j))
  unfolding reads residues row buckets_listed
  run_listed zero r h =
      let e : r + 0 ≡ r = omega arith in
      let q = ap start e in
      let z : start (r + 0) - start r ≡ 0 = omega arith in
      ap (reads w (16 * n + 64 + start r)) z
  run_listed (suc j) r h =
      let e : r + suc j ≡ r + 1 + j = omega arith in
      let a = start_rises r (omega arith) in
      let b = run_rises (r + 1) j (omega arith) in
      let q = ap start e in
      let x : start (r + suc j) - start r ≡ (start (r + 1) - start r) + (start (r + 1 + j) - start (r + 1)) = omega arith in
      let y : 16 * n + 64 + start r + (start (r + 1) - start r) ≡ 16 * n + 64 + start (r + 1) = omega arith in
      ap (reads w (16 * n + 64 + start r)) x
      ∙ reads_append w (16 * n + 64 + start r) (start (r + 1) - start r) (start (r + 1 + j) - start (r + 1))
      ∙ ap (λ (l : List ℕ). l ++ reads w (16 * n + 64 + start r + (start (r + 1) - start r)) (start (r + 1 + j) - start (r + 1))) (run_one r (omega arith))
      ∙ ap (λ (i : ℕ). chain f (p * (m + 1) + r) n ++ reads w i (start (r + 1 + j) - start (r + 1))) y
      ∙ ap (λ (l : List ℕ). chain f (p * (m + 1) + r) n ++ l) (run_listed j (r + 1) (omega arith))
      ∙ ap (λ (rs : List ℕ). chain f (p * (m + 1) + r) n ++ buckets_listed f n (row (m + 1) p rs)) (sym (residues_next m r j (omega arith)))

-- ---- a run of a hash, and a span of one or two runs

-- the points of the buckets of row p from `first` to before `end`, the links being ls
abbrev pub run_of : Hash → List Float → ℕ → ℕ → ℕ → ℕ → List ℕ → List ℕ
run_of h pts n p first end ls = points_in h pts n ls (row (h.side + 1) p (residues h.side first (end - first)))

module _ (h : Hash) (pts : List Float) (n : ℕ) (w : List ℕ) (p first end : ℕ) (small : p < h.side * h.side) (rises : first ≤ end) (fits : end ≤ h.side) where
  -- where place z of the row starts
  abbrev start_in : ℕ → ℕ
  start_in z = get_or w (10 * n + p * (h.side + 1) + z) 0

  start_is : (z : ℕ) → start_in z ≡ start_of n w (p * (h.side + 1) + z)
  start_is z = let e : 10 * n + p * (h.side + 1) + z ≡ 10 * n + (p * (h.side + 1) + z) = omega arith in ap (λ (i : ℕ). get_or w i 0) e

  pub start_most : HashLinked h pts n w → (z : ℕ) → z ≤ h.side → start_in z ≤ n
  start_most s z l = let q = row_last h.side p z small l in omega (arith, start_is z, s.laid.few (p * (h.side + 1) + z) q)

  pub run_goes : HashLinked h pts n w → start_in first ≤ start_in end
  run_goes s =
      let e : first + (end - first) ≡ end = omega arith in
      let r = subst (λ (i : ℕ). start_of n w (p * (h.side + 1) + first) ≤ start_of n w (p * (h.side + 1) + i)) e
      (run_rises _ n h.side w s.laid p small first (end - first) (omega arith)) in
      omega (arith, start_is first, start_is end)

  pub run_is : HashLinked h pts n w → reads w (16 * n + 64 + start_in first) (start_in end - start_in first) ≡ run_of h pts n p first end (links_of n w)
  run_is s =
      let e : end ≡ first + (end - first) = omega arith in
      ap (λ (a : ℕ). reads w (16 * n + 64 + a) (start_in end - a)) (start_is first)
      ∙ ap (λ (a : ℕ). reads w (16 * n + 64 + start_of n w (p * (h.side + 1) + first)) (a - start_of n w (p * (h.side + 1) + first)))
      (start_is end ∙ ap (λ (i : ℕ). start_of n w (p * (h.side + 1) + i)) e)
      ∙ run_listed (bucket_in h pts n (links_of n w)) n h.side w s.laid p small (end - first) first (omega arith)

  -- there is room for it
  pub run_room : (count : ℕ) → NeighborRoom h pts n w count (run_of h pts n p first end (links_of n w)) → count + (start_in end - start_in first) ≤ n
  run_room count r =
      let e = ap length (run_is r.linked) in
      let l = reads_length w (16 * n + 64 + start_in first) (start_in end - start_in first) in
      let o = r.enough in
      omega arith

module _ (h : Hash) (pts : List Float) (n p first count : ℕ) where
  -- no remainder of the span wraps
  pub span_one : (ls : List ℕ) → run_of h pts n p first (first + count) ls ≡ points_in h pts n ls (row (h.side + 1) p (residues h.side first count))
  span_one ls = let e : first + count - first ≡ count = omega arith in ap (λ (k : ℕ). points_in h pts n ls (row (h.side + 1) p (residues h.side first k))) e

  -- some do
  pub span_two : (ls : List ℕ) → first < h.side → h.side < first + count
      → points_in h pts n ls (row (h.side + 1) p (residues h.side first count)) ≡ run_of h pts n p first h.side ls
      ++ run_of h pts n p 0 (first + count - h.side) ls
  span_two ls l k =
      let m = h.side in
      let e : count ≡ suc (m - first - 1) + (first + count - m) = omega arith in
      let q : suc (m - first - 1) ≡ m - first = omega arith in
      let z : first + count - m ≡ first + count - m - 0 = omega arith in
      ap (λ (k : ℕ). points_in h pts n ls (row (m + 1) p (residues m first k))) e
      ∙ ap (λ (rs : List ℕ). points_in h pts n ls (row (m + 1) p rs)) (residues_wrap m (m - first - 1) first (first + count - m) (omega arith))
      ∙ ap (points_in h pts n ls) (row_append (m + 1) p (residues m first (suc (m - first - 1))) (residues m 0 (first + count - m)))
      ∙ listed_append (bucket_in h pts n ls) n (row (m + 1) p (residues m first (suc (m - first - 1)))) (row (m + 1) p (residues m 0 (first + count - m)))
      ∙ ap (λ (k : ℕ). points_in h pts n ls (row (m + 1) p (residues m first k)) ++ points_in h pts n ls (row (m + 1) p (residues m 0 (first + count - m)))) q
      ∙ ap (λ (k : ℕ). points_in h pts n ls (row (m + 1) p (residues m first (m - first))) ++ points_in h pts n ls (row (m + 1) p (residues m 0 k))) z

-- a walk over a span of one run
module _ (h : Hash) (pts : List Float) (n p first count : ℕ) {w : List ℕ} {at : ℕ}
    (room : NeighborRoom h pts n w at (points_in h pts n (links_of n w) (row (h.side + 1) p (residues h.side first count)))) where
  pub one_room : NeighborRoom h pts n w at (run_of h pts n p first (first + count) (links_of n w))
  one_room = subst (NeighborRoom h pts n w at) (sym (span_one h pts n p first count (links_of n w))) room

  pub one_appended : (u : List ℕ) (r : ℕ) → Appended n w u at r (run_of h pts n p first (first + count) (links_of n w))
      → Appended n w u at r (points_in h pts n (links_of n w) (row (h.side + 1) p (residues h.side first count)))
  one_appended u r a = subst (Appended n w u at r) (span_one h pts n p first count (links_of n w)) a

  -- and over two
  module _ (l : first < h.side) (k : h.side < first + count) where
    walking : Walking h pts n w at (points_in h pts n (links_of n w) (row (h.side + 1) p (residues h.side first count))) w at
        (run_of h pts n p first h.side (links_of n w) ++ run_of h pts n p 0 (first + count - h.side) (links_of n w))
    walking = walking_as (span_two h pts n p first count (links_of n w) l k) (walking_start room)

    pub first_room : NeighborRoom h pts n w at (run_of h pts n p first h.side (links_of n w))
    first_room = walking_room (run_of h pts n p first h.side (links_of n w)) (run_of h pts n p 0 (first + count - h.side) (links_of n w)) walking

    module _ (u : List ℕ) (r : ℕ) (a : Appended n w u at r (run_of h pts n p first h.side (links_of n w))) where
      walked : Walking h pts n w at (points_in h pts n (links_of n w) (row (h.side + 1) p (residues h.side first count))) u r
          (run_of h pts n p 0 (first + count - h.side) (links_of n w))
      walked = walking_step (run_of h pts n p first h.side (links_of n w)) (run_of h pts n p 0 (first + count - h.side) (links_of n w)) walking a

      pub second_room : NeighborRoom h pts n u r (run_of h pts n p 0 (first + count - h.side) (links_of n u))
      second_room = subst (λ (ls : List ℕ). NeighborRoom h pts n u r (run_of h pts n p 0 (first + count - h.side) ls)) (sym walked.links_same) walked.room

      pub two_appended : (v : List ℕ) (t : ℕ) → Appended n u v r t (run_of h pts n p 0 (first + count - h.side) (links_of n u))
          → Appended n w v at t (points_in h pts n (links_of n w) (row (h.side + 1) p (residues h.side first count)))
      two_appended v t b = walked.leads v t
          (subst (λ (ls : List ℕ). Appended n u v r t (run_of h pts n p 0 (first + count - h.side) ls)) walked.links_same b)

-- ---- copying points of the order

-- those from `from` to before i were appended to the neighbours
pub record Copying (n : ℕ) (w₀ : List ℕ) (from to count : ℕ) (w : List ℕ) (total i : ℕ) : Type 0 where
  pub least : from ≤ i
  pub most : i ≤ to
  pub total_is : total ≡ count + (i - from)
  pub appended : Appended n w₀ w count total (reads w₀ (16 * n + 64 + from) (i - from))

module _ (n : ℕ) (w₀ : List ℕ) (from to count : ℕ) where
  pub copying_start : from ≤ to → Copying n w₀ from to count w₀ count from
  unfolding reads
  copying_start h =
      let z : 0 ≡ from - from = omega arith in
      record {
        least = omega arith;
        most = h;
        total_is = omega arith;
        appended = subst (λ (k : ℕ). Appended n w₀ w₀ count count (reads w₀ (16 * n + 64 + from) k)) z (appended_none n w₀ count);
      }

  module _ (w : List ℕ) (total i : ℕ) (h : i < to) (few : to ≤ n) (room : count + (to - from) ≤ n) (long : 24 * n + 64 ≤ length w₀)
      (s : Copying n w₀ from to count w total i) where
    -- the order is as it was
    read : get_or w (16 * n + 64 + i) 0 ≡ get_or w₀ (16 * n + 64 + i) 0
    read = behind (5 * n) (16 * n + 64 + i) w₀ w s.appended.after (omega arith)

    one_more : reads w₀ (16 * n + 64 + from) (i - from) ++ get_or w (16 * n + 64 + i) 0 ∷ [] ≡ reads w₀ (16 * n + 64 + from) (i + 1 - from)
    unfolding reads
    one_more =
        let l = s.least in
        let e : (i - from) + 1 ≡ i + 1 - from = omega arith in
        let q : 16 * n + 64 + i ≡ 16 * n + 64 + from + (i - from) = omega arith in
        ap (λ (x : ℕ). reads w₀ (16 * n + 64 + from) (i - from) ++ x ∷ []) (read ∙ ap (λ (k : ℕ). get_or w₀ k 0) q)
        ∙ sym (reads_append w₀ (16 * n + 64 + from) (i - from) 1)
        ∙ ap (reads w₀ (16 * n + 64 + from)) e

    pub copying_step : Copying n w₀ from to count (set w (4 * n + total) (get_or w (16 * n + 64 + i) 0)) (total + 1) (i + 1)
    copying_step =
        let l = s.least in
        let t = s.total_is in
        let q = s.appended.length_same in
        record {
          least = omega arith;
          most = omega arith;
          total_is = omega arith;
          appended = subst (Appended n w₀ (set w (4 * n + total) (get_or w (16 * n + 64 + i) 0)) count (total + 1)) one_more
              (appended_both s.appended (appended_one n w total (get_or w (16 * n + 64 + i) 0) (omega arith) (omega arith)));
        }

  pub copying_end : (w : List ℕ) (total i : ℕ) → to ≤ i → Copying n w₀ from to count w total i
      → Appended n w₀ w count total (reads w₀ (16 * n + 64 + from) (to - from))
  copying_end w total i h s =
      let m = s.most in
      let e : i - from ≡ to - from = omega arith in
      subst (λ (k : ℕ). Appended n w₀ w count total (reads w₀ (16 * n + 64 + from) k)) e s.appended
