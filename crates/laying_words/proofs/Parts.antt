-- Entries taken and pushed, points marked, a face written. Assumes nothing.
use Prim.Native.Nat.{ℕ, ◌+◌, ◌-◌, ◌*◌, ◌≤◌, ◌<◌}
use mathlib.Core.Path.{◌≡◌, sym, ap, ap₂, ◌∙◌}
use mathlib.Core.List.{List, [], ◌∷◌}
use native.Mathlib.Omega.{arith}
use lib.ListN.{length, get_or, take, drop, set, length-drop}
use lib.Seq.{get_or-take, drop-set-add, take-set-lt}
use borrow.Rule.Slice.PartMut.{put_mid}
use Rattle.patch.specs.Lay.{face, marked}
use Rattle.patch.specs.Frontier.{after_pop}
use Rattle.patch.proofs.View.{written_more, written_full, length_written}
use Rattle.laying_words.specs.Inner.Words.{WordsSized, Taken, WordsMarked, WroteFace}
use Rattle.laying_words.proofs.Slices.{only_set, only_wider, only_both, tail_is, back, only_tail}

module _ (n first count : ℕ) (w ys : List ℕ) (r : ℕ) (sized : WordsSized n w) (some-wait : 0 < count) (few : first + count ≤ 3 * n) where
  pub taken : let at = 6 * n + first in
      r ≡ get_or (take (length w - at) (drop at w)) 0 0 → take (count - 1) ys ≡ after_pop 0 (take count (take (length w - at) (drop at w)))
      → drop count ys ≡ drop count (take (length w - at) (drop at w)) → length ys ≡ length (take (length w - at) (drop at w))
      → Taken n first count w (put_mid at (length w - at) w ys) r
  taken top rest same long =
      let at : ℕ = 6 * n + first in
      let inside : 6 * n + first ≤ length w = omega (arith, sized.long) in
      let t = tail_is (6 * n + first) w inside in
      record {
        top = top ∙ ap (λ (l : List ℕ). get_or l 0 0) t ∙ sym (get_or-take count (drop (6 * n + first) w) 0 0 some-wait);
        rest = ap (λ (l : List ℕ). take (count - 1) l) (back (6 * n + first) w inside ys) ∙ rest ∙ ap (λ (l : List ℕ). after_pop 0 (take count l)) t;
        only = only_wider (6 * n) (9 * n) (omega arith) (omega arith)
            (only_tail (6 * n + first) w inside count (9 * n) ys (omega arith) (long ∙ ap length t ∙ length-drop (6 * n + first) w)
            (same ∙ ap (λ (l : List ℕ). drop count l) t));
      }

pub marked_one : (n k : ℕ) (w : List ℕ) → k < n → WordsMarked n (k ∷ []) w (set w (5 * n + k) 1)
unfolding marked
marked_one n k w h = record {
  flags = ap (λ (l : List ℕ). take n l) (drop-set-add (5 * n) w k 1) ∙ take-set-lt n (drop (5 * n) w) k 1 h;
  only = only_set (5 * n) (6 * n) w (5 * n + k) 1 (omega arith) (omega arith);
}

pub marked_three : (n a b k : ℕ) (w w1 w2 w3 : List ℕ) → WordsMarked n (a ∷ []) w w1 → WordsMarked n (b ∷ []) w1 w2 → WordsMarked n (k ∷ []) w2 w3
    → WordsMarked n (a ∷ b ∷ k ∷ []) w w3
unfolding marked
marked_three n a b k w w1 w2 w3 p q r = record {
  flags = r.flags ∙ ap (λ (l : List ℕ). set l k 1) (q.flags ∙ ap (λ (l : List ℕ). set l b 1) p.flags);
  only = only_both (only_both p.only q.only) r.only;
}

module _ (count a b k : ℕ) (slice : List ℕ) where
  pub wrote_more : 3 * count + 3 ≤ length slice → WroteFace count (face a b k) slice (set (set (set slice (3 * count) a) (3 * count + 1) b) (3 * count + 2) k)
  wrote_more h lent fs l e =
      ap₂ (λ (m : ℕ) (xs : List ℕ). set (set (set xs (3 * m) a) (3 * m + 1) b) (3 * m + 2) k) (sym l) e
      ∙ written_more fs (face a b k) lent (omega (arith, ap length e, length_written fs lent))

  pub wrote_full : length slice < 3 * count + 3 → WroteFace count (face a b k) slice slice
  wrote_full h lent fs l e = e ∙ written_full fs (face a b k) lent (omega (arith, ap length e, length_written fs lent))
