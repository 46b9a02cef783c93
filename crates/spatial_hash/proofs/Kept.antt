-- A hash lasts as long as its own words do: those from `links_at` on. Assumes nothing.
use mathlib.Core.Path.{◌≡◌, sym, ap, ◌∙◌, subst}
use mathlib.Core.Bool.{true}
use mathlib.Core.List.{List}
use Prim.Native.Nat.{ℕ, ◌+◌, ◌-◌, ◌*◌, ◌≤◌, ◌<◌}
use native.Mathlib.Omega.{arith}
use lib.Dec.{eqb}
use lib.ListN.{length, take, drop, get_or}
use lib.Seq.{get_or-drop}
use lib.Ieee.{Float}
use Rattle.sifting.proofs.Parts.{drop_more}
use Rattle.spatial_hash.specs.declared.Hash.{Hash}
use Rattle.lists.specs.Lists.{unused}
use Rattle.spatial_hash.specs.Inner.Buckets.{bucket_in, links_of, is_out}
use Rattle.bucket_order.specs.Inner.Order.{reads, start_of, part_of, BucketsLaid}
use Rattle.spatial_hash.specs.Inner.Near.{HashReady, HashLinked, Hashed, HashedAll}
use Rattle.bucket_order.proofs.Chains.{chain_same}
use Rattle.bucket_order.proofs.Words.{reads_same}

pub ready_same : (pts : List Float) (n : ℕ) (w u : List ℕ) → length u ≡ length w → HashReady pts n w → HashReady pts n u
ready_same pts n w u l s = record { few = s.few; points_long = s.points_long; work_long = let o = s.work_long in omega arith; numbers = s.numbers }

pub behind : (a k : ℕ) (w u : List ℕ) → drop a u ≡ drop a w → a ≤ k → get_or u k 0 ≡ get_or w k 0
behind a k w u e h =
    let s : a + (k - a) ≡ k = omega arith in
    ap (λ (i : ℕ). get_or u i 0) (sym s)
    ∙ sym (get_or-drop a u (k - a) 0)
    ∙ ap (λ (l : List ℕ). get_or l (k - a) 0) e
    ∙ get_or-drop a w (k - a) 0
    ∙ ap (λ (i : ℕ). get_or w i 0) s

-- a bucket's points are the same where its words and theirs are
pub part_same : (n b : ℕ) (w u : List ℕ) → start_of n u b ≡ start_of n w b → start_of n u (b + 1) ≡ start_of n w (b + 1)
    → ((i : ℕ) → start_of n w b ≤ i → i < start_of n w (b + 1) → get_or u (16 * n + 64 + i) 0 ≡ get_or w (16 * n + 64 + i) 0) → part_of n u b ≡ part_of n w b
part_same n b w u e f same =
    ap (λ (x : ℕ). reads u (16 * n + 64 + x) (start_of n u (b + 1) - x)) e
    ∙ ap (λ (y : ℕ). reads u (16 * n + 64 + start_of n w b) (y - start_of n w b)) f
    ∙ reads_same u w (16 * n + 64 + start_of n w b) (16 * n + 64 + start_of n w b) (start_of n w (b + 1) - start_of n w b) (λ i l. moved i l)
  where
    moved : (i : ℕ) → i < start_of n w (b + 1) - start_of n w b → get_or u (16 * n + 64 + start_of n w b + i) 0 ≡ get_or w (16 * n + 64 + start_of n w b + i) 0
    moved i l =
        let q : 16 * n + 64 + start_of n w b + i ≡ 16 * n + 64 + (start_of n w b + i) = omega arith in
        ap (λ (x : ℕ). get_or u x 0) q ∙ same (start_of n w b + i) (omega arith) (omega arith) ∙ ap (λ (x : ℕ). get_or w x 0) (sym q)

-- the same words from `starts_at` on, and each point in the same bucket
pub laid_same : (f g : ℕ → ℕ) (n m : ℕ) (w u : List ℕ) → ((i : ℕ) → 10 * n ≤ i → get_or u i 0 ≡ get_or w i 0) → ((i : ℕ) → i < n → g i ≡ f i) → BucketsLaid f n m w
    → BucketsLaid g n m u
laid_same f g n m w u same agree s = record {
  rising = λ b l. omega (arith, same (10 * n + b) (omega arith), same (10 * n + (b + 1)) (omega arith), s.rising b l);
  few = λ b l. omega (arith, same (10 * n + b) (omega arith), s.few b l);
  parts = λ p z l k.
      part_same n (p * (m + 1) + z) w u (same _ (omega arith)) (same _ (omega arith)) (λ i x y. same _ (omega arith))
      ∙ s.parts p z l k
      ∙ sym (chain_same f g (p * (m + 1) + z) n (λ i q. ap (λ (x : ℕ). eqb x (p * (m + 1) + z)) (agree i q)));
}

-- only words before a were changed
module _ (h : Hash) (pts : List Float) (n a : ℕ) (w u : List ℕ) (q : a ≤ 9 * n) (e : drop a u ≡ drop a w) (l : length u ≡ length w) where
  pub links_behind : links_of n u ≡ links_of n w
  links_behind = drop_more w u a (9 * n) q e

  pub linked_behind : HashLinked h pts n w → HashLinked h pts n u
  linked_behind s = record {
    ready = ready_same pts n w u l s.ready;
    sound = s.sound;
    laid = laid_same (bucket_in h pts n (links_of n w)) (bucket_in h pts n (links_of n u)) n h.side w u (λ i k. behind a i w u e (omega arith))
        (λ i k. ap (λ (ls : List ℕ). bucket_in h pts n ls i) links_behind) s.laid;
  }

  pub hashed_all_behind : HashedAll h pts n w → HashedAll h pts n u
  hashed_all_behind s = record { linked = linked_behind s.linked; all_in = λ j k. ap (λ (ls : List ℕ). is_out n ls j) links_behind ∙ s.all_in j k }

-- those before the used words
pub hashed_behind : (h : Hash) (pts : List Float) (n a : ℕ) (w u : List ℕ) → a ≤ 5 * n → drop a u ≡ drop a w → length u ≡ length w → Hashed h pts n w
    → Hashed h pts n u
hashed_behind h pts n a w u q e l s = record {
  linked = linked_behind h pts n a w u (omega arith) e l s.linked;
  unused_in = λ j k free.
      ap (λ (ls : List ℕ). is_out n ls j) (links_behind h pts n a w u (omega arith) e l)
      ∙ s.unused_in j k (subst (λ (x : List ℕ). unused (take n x) j ≡ true) (drop_more w u a (5 * n) q e) free);
}

-- nobody is out, so nobody who is unused
pub all_hashed : {h : Hash} {pts : List Float} {n : ℕ} {w : List ℕ} → HashedAll h pts n w → Hashed h pts n w
all_hashed s = record { linked = s.linked; unused_in = λ j k free. s.all_in j k }
