-- A point is removed from a hash: it leaves its bucket, and all others are as they were. Assumes nothing.
use mathlib.Core.Path.{◌≡◌, refl, sym, ap, ◌∙◌, subst}
use mathlib.Core.Logic.{◌≢◌, ⊎_elim}
use mathlib.Core.Bool.{true, false}
use mathlib.Core.List.{List, ◌∷◌}
use Prim.Native.Nat.{ℕ, zero, suc, ◌+◌, ◌-◌, ◌*◌, ◌≤◌, ◌<◌}
use native.Mathlib.Decide.{dec_lt}
use native.Mathlib.Omega.{arith}
use borrow.Author.Tests.{eqb-true, eqb-false, eq-eqb, ne_eqb}
use lib.Dec.{eqb}
use lib.ListN.{length, take, get_or, set, length-set}
use lib.Seq.{get_or-set_same, get_or-set_other, take-set-le, take-take}
use lib.Ieee.{Float}
use Rattle.points.specs.Points.{point_at}
use Rattle.lists.specs.Lists.{bit, count}
use Rattle.lists.proofs.Bools.{either}
use Rattle.spatial_hash.specs.declared.Hash.{Hash}
use Rattle.bucket_order.specs.Inner.Chains.{chain}
use Rattle.spatial_hash.specs.Inner.Buckets.{row_for, place_for, bucket_of, bucket_in, links_of, is_out}
use Rattle.bucket_order.specs.Inner.Order.{reads, start_of, part_of, BucketsLaid}
use Rattle.bucket_order.specs.Inner.Leave.{Leaving, LeftBucket}
use Rattle.spatial_hash.specs.Inner.Near.{HashLinked, Removed}
use Rattle.spatial_hash.proofs.Inside.{link_out, link_same, bucket_in_lem, bucket_out, bucket_same}
use Rattle.bucket_order.proofs.Chains.{chain_has, chain_same, chain_without, without, without_hit, without_miss}
use Rattle.bucket_order.proofs.Words.{reads_same, reads_cons}
use Rattle.bucket_order.proofs.Ordering.{in_front, row_goes}
use Rattle.spatial_hash.proofs.Heads.{row_below, place_below}
use Rattle.spatial_hash.proofs.Residues.{joined_apart}
use Rattle.spatial_hash.proofs.Sizes.{joined_below}
use Rattle.spatial_hash.proofs.Kept.{ready_same, part_same, laid_same}

-- the words from a on, without the first k, which is at q: those before it stayed, and those after it moved down
closed_reads : (w u : List ℕ) (k q : ℕ) (len a : ℕ) → a ≤ q → q < a + len → ((i : ℕ) → a ≤ i → i < q → get_or w i 0 ≢ k) → get_or w q 0 ≡ k
    → ((i : ℕ) → a ≤ i → i < q → get_or u i 0 ≡ get_or w i 0) → ((i : ℕ) → q ≤ i → i + 1 < a + len → get_or u i 0 ≡ get_or w (i + 1) 0)
    → reads u a (len - 1) ≡ without k (reads w a len)
closed_reads w u k q zero a h l none there same moved = absurd (omega arith)
closed_reads w u k q (suc len) a h l none there same moved =
    let e : suc len - 1 ≡ len = omega arith in
    let c : reads w a (suc len)
    ≡ get_or w a 0 ∷ reads w (a + 1) len = reads_cons w a (suc len) (omega arith) ∙ ap (λ (i : ℕ). get_or w a 0 ∷ reads w (a + 1) i) e in
    elim (dec_lt a q) [
      | yes p ↦
          ap (reads u a) e
          ∙ reads_cons u a len (omega arith)
          ∙ ap (λ (x : ℕ). x ∷ reads u (a + 1) (len - 1)) (same a (omega arith) p)
          ∙ ap (λ (t : List ℕ). get_or w a 0 ∷ t)
          (closed_reads w u k q len (a + 1) (omega arith) (omega arith) (λ i x y. none i (omega arith) y) there (λ i x y. same i (omega arith) y)
          (λ i x y. moved i x (omega arith)))
          ∙ sym (without_miss k (get_or w a 0) (reads w (a + 1) len) (λ (x : k ≡ get_or w a 0). none a (omega arith) p (sym x)))
          ∙ ap (without k) (sym c)
      | no p ↦
          let z : q ≡ a = omega arith in
          ap (reads u a) e
          ∙ reads_same u w a (a + 1) len (λ i x. moved (a + i) (omega arith) (omega arith) ∙ ap (λ (t : ℕ). get_or w t 0) (swap i))
          ∙ sym (without_hit k (get_or w a 0) (reads w (a + 1) len) (sym there ∙ ap (λ (t : ℕ). get_or w t 0) z))
          ∙ ap (without k) (sym c)
    ]
  where
    swap : (i : ℕ) → a + i + 1 ≡ a + 1 + i
    swap i = omega arith

-- ---- the order after that

-- point k is in place z of row p, where f puts it; g puts it into none, and all others where f does
module _ (f g : ℕ → ℕ) (n m : ℕ) (w u : List ℕ) (k p z : ℕ) (s : BucketsLaid f n m w) (row_small : p < m * m) (place_small : z < m)
    (l : LeftBucket n k (10 * n + p * (m + 1) + z) (10 * n + p * (m + 1) + m) w u) (fitting : m * m * (m + 1) ≤ 6 * n + 64) where
  abbrev own : ℕ
  own = p * (m + 1) + z

  abbrev last : ℕ
  last = p * (m + 1) + m

  last_below : last < m * m * (m + 1)
  last_below = let z' : m - 1 < m = omega arith in let q = row_goes m p (m - 1) row_small z' in omega arith

  rise : (b d : ℕ) → b + d < m * m * (m + 1) → start_of n w b ≤ start_of n w (b + d)
  rise b zero h = let e : b + 0 ≡ b = omega arith in let q = ap (start_of n w) e in omega arith
  rise b (suc d) h =
      let ih = rise b d (omega arith) in
      let q = s.rising (b + d) (omega arith) in
      let e : b + d + 1 ≡ b + suc d = omega arith in
      let x = ap (start_of n w) e in
      omega arith

  rises : (b c : ℕ) → b ≤ c → c < m * m * (m + 1) → start_of n w b ≤ start_of n w c
  rises b c h q = let e : b + (c - b) ≡ c = omega arith in subst (λ (i : ℕ). start_of n w b ≤ start_of n w i) e (rise b (c - b) (omega arith))

  -- the words that `LeftBucket` speaks of
  word_is : (i : ℕ) → 10 * n + p * (m + 1) + i ≡ 10 * n + (p * (m + 1) + i)
  word_is i = omega arith

  at_own : get_or w (10 * n + p * (m + 1) + z) 0 ≡ start_of n w own
  at_own = ap (λ (i : ℕ). get_or w i 0) (word_is z)

  at_next : get_or w (10 * n + p * (m + 1) + z + 1) 0 ≡ start_of n w (own + 1)
  at_next = let e : 10 * n + p * (m + 1) + z + 1 ≡ 10 * n + (own + 1) = omega arith in ap (λ (i : ℕ). get_or w i 0) e

  at_last : get_or w (10 * n + p * (m + 1) + m) 0 ≡ start_of n w last
  at_last = ap (λ (i : ℕ). get_or w i 0) (word_is m)

  place_above : 16 * n + 64 + start_of n w own ≤ l.place
  place_above = let e = at_own in let q = l.found.least in omega arith

  place_below' : l.place < 16 * n + 64 + start_of n w (own + 1)
  place_below' = let e = at_next in let q = l.inside in omega arith

  -- ---- starts

  start_before : (b : ℕ) → b ≤ own → start_of n u b ≡ start_of n w b
  start_before b h = in_front (10 * n + p * (m + 1) + z + 1) w u l.before (10 * n + b) (omega arith)

  start_lowered : (b : ℕ) → own < b → b ≤ last → start_of n u b + 1 ≡ start_of n w b
  start_lowered b h q = l.lowered (10 * n + b) (omega arith) (omega arith)

  start_after : (b : ℕ) → last < b → b < m * m * (m + 1) → start_of n u b ≡ start_of n w b
  start_after b h q = let a = place_above in l.between (10 * n + b) (omega arith) (omega arith)

  rising : (b : ℕ) → b + 1 < m * m * (m + 1) → start_of n u b ≤ start_of n u (b + 1)
  rising b h =
      let r = s.rising b h in
      elim (dec_lt b own) [
        | yes x ↦ let d = start_before b (omega arith) in let e = start_before (b + 1) (omega arith) in omega arith
        | no x ↦ elim (dec_lt own b) [
          | yes y ↦ elim (dec_lt b last) [
            | yes t ↦ let d = start_lowered b y (omega arith) in let e = start_lowered (b + 1) (omega arith) (omega arith) in omega arith
            | no t ↦ elim (dec_lt last b) [
              | yes v ↦ let d = start_after b v (omega arith) in let e = start_after (b + 1) (omega arith) h in omega arith
              | no v ↦ let d = start_lowered b y (omega arith) in let e = start_after (b + 1) (omega arith) h in omega arith
            ]
          ]
          | no y ↦
              let q : b ≡ own = omega arith in
              let d = start_before b (omega arith) in
              let e = start_lowered (b + 1) (omega arith) (omega arith) in
              let a = place_above in
              let c = place_below' in
              let o = ap (start_of n w) q in
              let o' = ap (λ (i : ℕ). start_of n w (i + 1)) q in
              omega arith
        ]
      ]

  few : (b : ℕ) → b < m * m * (m + 1) → start_of n u b ≤ n
  few b h =
      let r = s.few b h in
      elim (dec_lt own b) [
        | yes y ↦ elim (dec_lt last b) [
          | yes v ↦ let d = start_after b v h in omega arith
          | no v ↦ let d = start_lowered b y (omega arith) in omega arith
        ]
        | no y ↦ let d = start_before b (omega arith) in omega arith
      ]

  -- ---- parts

  part_before : (b : ℕ) → b < own → part_of n u b ≡ part_of n w b
  part_before b h =
      let a = place_above in
      let o = last_below in
      let r = rises (b + 1) own (omega arith) (omega arith) in
      part_same n b w u (start_before b (omega arith)) (start_before (b + 1) (omega arith)) (λ i x y. l.between (16 * n + 64 + i) (omega arith) (omega arith))

  part_after : (b : ℕ) → last < b → b + 1 < m * m * (m + 1) → part_of n u b ≡ part_of n w b
  part_after b h q =
      let e = at_last in
      let r = rises last b (omega arith) (omega arith) in
      part_same n b w u (start_after b h (omega arith)) (start_after (b + 1) (omega arith) q) (λ i x y. l.after (16 * n + 64 + i) (omega arith))

  part_moved : (b : ℕ) → own < b → b < last → part_of n u b ≡ part_of n w b
  part_moved b h q =
      let e = at_last in
      let d = start_lowered b h (omega arith) in
      let d' = start_lowered (b + 1) (omega arith) (omega arith) in
      let o = last_below in
      let r = rises (own + 1) b (omega arith) (omega arith) in
      let r' = rises (b + 1) last (omega arith) (omega arith) in
      let c = place_below' in
      let x : start_of n u b ≡ start_of n w b - 1 = omega arith in
      let y : start_of n u (b + 1) - start_of n u b ≡ start_of n w (b + 1) - start_of n w b = omega arith in
      ap (reads u (16 * n + 64 + start_of n u b)) y
      ∙ ap (λ (t : ℕ). reads u (16 * n + 64 + t) (start_of n w (b + 1) - start_of n w b)) x
      ∙ reads_same u w (16 * n + 64 + (start_of n w b - 1)) (16 * n + 64 + start_of n w b) (start_of n w (b + 1) - start_of n w b) (λ i v.
      let t : 16 * n + 64 + (start_of n w b - 1) + i + 1 ≡ 16 * n + 64 + start_of n w b + i = omega arith in
      l.moved (16 * n + 64 + (start_of n w b - 1) + i) (omega arith) (omega arith) ∙ ap (λ (j : ℕ). get_or w j 0) t)

  part_own : part_of n u own ≡ without k (part_of n w own)
  part_own =
      let a = at_own in
      let e = at_next in
      let e' = at_last in
      let o = last_below in
      let d = start_before own (omega arith) in
      let d' = start_lowered (own + 1) (omega arith) (omega arith) in
      let c = place_above in
      let c' = place_below' in
      let r = rises (own + 1) last (omega arith) (omega arith) in
      let y : start_of n u (own + 1) - start_of n w own ≡ (start_of n w (own + 1) - start_of n w own) - 1 = omega arith in
      ap (λ (t : ℕ). reads u (16 * n + 64 + t) (start_of n u (own + 1) - t)) d
      ∙ ap (reads u (16 * n + 64 + start_of n w own)) y
      ∙ closed_reads w u k l.place (start_of n w (own + 1) - start_of n w own) (16 * n + 64 + start_of n w own) c (omega arith)
      (λ i v t. l.found.none i (omega arith) t) (l.found.there l.inside) (λ i v t. l.between i (omega arith) t) (λ i v t. l.moved i v (omega arith))

  module _ (small : k < n) (in_f : f k ≡ own) (out-g : g k ≡ m * m * (m + 1)) (agree : (i : ℕ) → i < n → i ≢ k → g i ≡ f i) where
    other : (b : ℕ) → b ≢ own → b < m * m * (m + 1) → chain g b n ≡ chain f b n
    other b d h = chain_same f g b n (λ i q. ⊎_elim
        (λ (t : eqb i k ≡ true).
        let e = eqb-true i k t in
        ne_eqb (g i) b (λ (x : g i ≡ b). let v : m * m * (m + 1) ≡ b = sym out-g ∙ ap g (sym e) ∙ x in omega arith)
        ∙ sym (ne_eqb (f i) b (λ (x : f i ≡ b). d (sym x ∙ ap f e ∙ in_f))))
        (λ (t : eqb i k ≡ false). ap (λ (x : ℕ). eqb x b) (agree i q (eqb-false i k t)))
        (either (eqb i k)))

    parts : (q t : ℕ) → q < m * m → t < m → part_of n u (q * (m + 1) + t) ≡ chain g (q * (m + 1) + t) n
    parts q t h v =
        let b = row_goes m q t h v in
        let e = s.parts q t h v in
        elim (dec_lt (q * (m + 1) + t) own) [
          | yes x ↦ part_before (q * (m + 1) + t) x ∙ e ∙ sym (other (q * (m + 1) + t) (λ c. omega arith) (omega arith))
          | no x ↦ elim (dec_lt own (q * (m + 1) + t)) [
            | yes y ↦ elim (dec_lt (q * (m + 1) + t) last) [
              | yes o ↦ part_moved (q * (m + 1) + t) y o ∙ e ∙ sym (other (q * (m + 1) + t) (λ c. omega arith) (omega arith))
              | no o ↦
                  let d : q * (m + 1) + t ≡ last → ⊥ = λ c. joined_apart (m + 1) q t p m (omega arith) (omega arith) (λ a. omega arith) c in
                  part_after (q * (m + 1) + t) (above d o) b ∙ e ∙ sym (other (q * (m + 1) + t) (λ c. omega arith) (omega arith))
            ]
            | no y ↦
                let c : own ≡ q * (m + 1) + t = omega arith in
                subst (λ (i : ℕ). part_of n u i ≡ chain g i n) c
                (part_own ∙ ap (without k) (s.parts p z row_small place_small) ∙ sym
                (chain_without f g own k in_f (λ a. let r = last_below in omega arith) n small agree))
          ]
        ]
      where
        above : (q * (m + 1) + t ≡ last → ⊥) → (q * (m + 1) + t < last → ⊥) → last < q * (m + 1) + t
        above d o = omega arith

    pub laid_without : BucketsLaid g n m u
    laid_without = record { rising = rising; few = few; parts = parts }

-- ---- a point of a hash

module _ (h : Hash) (pts : List Float) (n : ℕ) (w : List ℕ) (k : ℕ) (s : HashLinked h pts n w) (small : k < n) where
  -- it was out already
  pub removed_before : is_out n (links_of n w) k ≡ true → Removed h pts n w w k
  removed_before o = record { linked = s; gone = o; others = λ j l d. refl; before = refl }

  -- r and z are its row and its place there
  module _ (r z : ℕ) (is_row : r ≡ row_for h (point_at pts k)) (is-place : z ≡ place_for h (point_at pts k)) (inside : is_out n (links_of n w) k ≡ false) where
    abbrev m : ℕ
    m = h.side

    abbrev f : ℕ → ℕ
    f = bucket_in h pts n (links_of n w)

    row_small : r < m * m
    row_small = subst (λ (a : ℕ). a < m * m) (sym is_row) (row_below h _ s.sound.some)

    place_small : z < m
    place_small = subst (λ (a : ℕ). a < m) (sym is-place) (place_below h _ s.sound.some)

    own_bucket : f k ≡ r * (m + 1) + z
    unfolding bucket_of
    own_bucket =
        bucket_in_lem h pts n (links_of n w) k inside
        ∙ ap (λ (a : ℕ). a * (m + 1) + place_for h (point_at pts k)) (sym is_row)
        ∙ ap (λ (a : ℕ). r * (m + 1) + a) (sym is-place)

    last_small : r * (m + 1) + m < m * m * (m + 1)
    last_small = let q = joined_below (m * m) (m + 1) r m row_small (omega arith) in q

    -- the bucket has it
    met : count (eqb k) (part_of n w (r * (m + 1) + z)) ≡ 1
    met =
        ap (count (eqb k)) (s.laid.parts r z row_small place_small)
        ∙ chain_has f (r * (m + 1) + z) k n small
        ∙ ap bit (eq-eqb (f k) (r * (m + 1) + z) own_bucket)

    pub leaving : Leaving n k (10 * n + r * (m + 1) + z) (10 * n + r * (m + 1) + m) w
    leaving =
        let p = place_small in
        let q = last_small in
        let g = s.sound.fitting in
        let e : 10 * n + r * (m + 1) + z ≡ 10 * n + (r * (m + 1) + z) = omega arith in
        let e' : 10 * n + r * (m + 1) + z + 1 ≡ 10 * n + (r * (m + 1) + z + 1) = omega arith in
        let t : 10 * n + r * (m + 1) + m ≡ 10 * n + (r * (m + 1) + m) = omega arith in
        record {
          few = s.ready.few;
          long = s.ready.work_long;
          before_last = omega arith;
          before_order = omega arith;
          rising = λ i x y.
              let c : 10 * n + (i - 10 * n) ≡ i = omega arith in
              let d : 10 * n + (i - 10 * n + 1) ≡ i + 1 = omega arith in
              let o = s.laid.rising (i - 10 * n) (omega arith) in
              let c' = ap (λ (a : ℕ). get_or w a 0) c in
              let d' = ap (λ (a : ℕ). get_or w a 0) d in
              omega arith;
          most = let o = s.laid.few (r * (m + 1) + m) q in let t' = ap (λ (a : ℕ). get_or w a 0) t in omega arith;
          has =
              let o = ap (λ (a : ℕ). count (eqb k) (reads w (16 * n + 64 + get_or w a 0) (get_or w (10 * n + r * (m + 1) + z + 1) 0 - get_or w a 0))) e in
              let o' = ap (λ (a : ℕ). count (eqb k) (reads w (16 * n + 64 + start_of n w (r * (m + 1) + z)) (get_or w a 0 - start_of n w (r * (m + 1) + z)))) e' in
              let one = met in
              omega arith;
        }

    module _ (u v : List ℕ) (l : LeftBucket n k (10 * n + r * (m + 1) + z) (10 * n + r * (m + 1) + m) w u) (now-is : v ≡ set u (9 * n + k) (n + 1)) where
      abbrev g : ℕ → ℕ
      g = bucket_in h pts n (links_of n v)

      length_kept : length v ≡ length w
      length_kept = ap length now-is ∙ length-set u (9 * n + k) (n + 1) ∙ l.length_same

      out : is_out n (links_of n v) k ≡ true
      out =
          let q = l.length_same in
          let o = s.ready.work_long in
          let e = ap (λ (x : List ℕ). get_or x (9 * n + k) 0) now-is ∙ get_or-set_same u (9 * n + k) (n + 1) 0 (omega arith) in
          link_out n k v (omega arith)

      -- another word is as it was left
      word_kept : (i : ℕ) → i ≢ 9 * n + k → get_or v i 0 ≡ get_or u i 0
      word_kept i d = ap (λ (x : List ℕ). get_or x i 0) now-is ∙ get_or-set_other u (9 * n + k) i (n + 1) 0 d

      others : (j : ℕ) → j < n → j ≢ k → is_out n (links_of n v) j ≡ is_out n (links_of n w) j
      others j q d =
          link_same n j w v
          (word_kept (9 * n + j) (λ (e : 9 * n + j ≡ 9 * n + k). d (omega arith)) ∙ in_front (10 * n + r * (m + 1) + z + 1) w u l.before (9 * n + j)
          (omega arith))

      pub removed : Removed h pts n w v k
      removed = record {
        linked = record {
          ready = ready_same pts n w v length_kept s.ready;
          sound = s.sound;
          laid =
              laid_same g g n m u v (λ i q. word_kept i (λ (e : i ≡ 9 * n + k). omega arith)) (λ i q. refl)
              (laid_without f g n m w u k r z s.laid row_small place_small l s.sound.fitting small own_bucket (bucket_out h pts n (links_of n v) k out)
              (λ i q d. bucket_same h pts n (links_of n v) i (links_of n w) (others i q d)));
        };
        gone = out;
        others = others;
        before =
            ap (take (9 * n)) now-is
            ∙ take-set-le (9 * n) u (9 * n + k) (n + 1) (omega arith)
            ∙ sym (take-take (9 * n) (10 * n + r * (m + 1) + z + 1) u (omega arith))
            ∙ ap (take (9 * n)) l.before
            ∙ take-take (9 * n) (10 * n + r * (m + 1) + z + 1) w (omega arith);
      }
