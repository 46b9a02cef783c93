-- A change between two places of a slice leaves every part outside unchanged; one more word behind a list in a slice; a
-- tail that was lent and came back. Assumes nothing.
use Prim.Native.Nat.{ℕ, zero, suc, ◌+◌, ◌-◌, ◌≤◌, ◌<◌}
use mathlib.Core.Path.{◌≡◌, refl, sym, ap, ◌∙◌}
use mathlib.Core.List.{List, [], ◌∷◌, ◌++◌, append-nil}
use native.Mathlib.Nat.{le_of_eq}
use native.Mathlib.Omega.{arith}
use lib.ListN.{length, take, drop, set, length-set, length-drop, length-append, drop_of_length-le}
use lib.Seq.{take_all, take-take, take_at, drop_at, drop-drop, length-take-le, take-set-le, drop-set-lt, drop-set-add, take-suc-set}
use borrow.Rule.Slice.PartMut.{put_mid}
use Rattle.laying_words.specs.Inner.Words.{OnlyIn}

-- ---- parts outside
window : (at k lo : ℕ) (w : List ℕ) → at + k ≤ lo → take k (drop at (take lo w)) ≡ take k (drop at w)
window zero k lo w h = take-take k lo w (omega arith)
window (suc at) k zero w h = absurd (omega arith)
window (suc at) k (suc lo) [] h = refl
window (suc at) k (suc lo) (x ∷ w) h = window at k lo w (omega arith)

further : (hi at : ℕ) (w : List ℕ) → hi ≤ at → drop (at - hi) (drop hi w) ≡ drop at w
further hi at w h = let e : hi + (at - hi) ≡ at = omega arith in drop-drop (at - hi) hi w ∙ ap (λ (j : ℕ). drop j w) e

module _ {lo hi : ℕ} {w u : List ℕ} (o : OnlyIn lo hi w u) where
  pub before_same : (at k : ℕ) → at + k ≤ lo → take k (drop at u) ≡ take k (drop at w)
  before_same at k h = sym (window at k lo u h) ∙ ap (λ (l : List ℕ). take k (drop at l)) o.before ∙ window at k lo w h

  pub after_same : (at k : ℕ) → hi ≤ at → take k (drop at u) ≡ take k (drop at w)
  after_same at k h = ap (λ (l : List ℕ). take k l) (sym (further hi at u h) ∙ ap (λ (l : List ℕ). drop (at - hi) l) o.after ∙ further hi at w h)

pub only_none : (lo hi : ℕ) (w : List ℕ) → OnlyIn lo hi w w
only_none lo hi w = record { before = refl; after = refl; length_same = refl }

pub only_set : (lo hi : ℕ) (w : List ℕ) (i v : ℕ) → lo ≤ i → i < hi → OnlyIn lo hi w (set w i v)
only_set lo hi w i v h g = record { before = take-set-le lo w i v h; after = drop-set-lt hi w i v g; length_same = length-set w i v }

-- what lies between farther places
pub only_wider : {lo hi : ℕ} {w u : List ℕ} (lo' hi' : ℕ) → lo' ≤ lo → hi ≤ hi' → OnlyIn lo hi w u → OnlyIn lo' hi' w u
only_wider {lo} {hi} {w} {u} lo' hi' h g o = record {
  before = sym (take-take lo' lo u h) ∙ ap (λ (l : List ℕ). take lo' l) o.before ∙ take-take lo' lo w h;
  after = sym (further hi hi' u g) ∙ ap (λ (l : List ℕ). drop (hi' - hi) l) o.after ∙ further hi hi' w g;
  length_same = o.length_same;
}

pub only_both : {lo hi : ℕ} {w u v : List ℕ} → OnlyIn lo hi w u → OnlyIn lo hi u v → OnlyIn lo hi w v
only_both o p = record { before = p.before ∙ o.before; after = p.after ∙ o.after; length_same = p.length_same ∙ o.length_same }

-- ---- one more word behind the k words from `at` on
pub word_stored : (w : List ℕ) (at k c : ℕ) → at + k < length w → take (k + 1) (drop at (set w (at + k) c)) ≡ take k (drop at w) ++ (c ∷ [])
word_stored w at k c h =
    let l : k < length (drop at w) = omega (arith, length-drop at w) in
    let e : k + 1 ≡ suc k = omega arith in
    ap (λ (j : ℕ). take j (drop at (set w (at + k) c))) e ∙ ap (λ (xs : List ℕ). take (suc k) xs) (drop-set-add at w k c) ∙ take-suc-set (drop at w) k c l

-- ---- the tail from `at` on, come back as ys
module _ (at : ℕ) (w : List ℕ) (long : at ≤ length w) where
  pub tail_is : take (length w - at) (drop at w) ≡ drop at w
  tail_is = take_all (length w - at) (drop at w) (le_of_eq (length-drop at w))

  put_tail : (ys : List ℕ) → put_mid at (length w - at) w ys ≡ take at w ++ ys
  put_tail ys = ap (λ (z : List ℕ). take at w ++ (ys ++ z)) (drop_of_length-le (drop at w) (le_of_eq (length-drop at w))) ∙ ap (λ (z : List ℕ). take at w ++ z)
      (append-nil ys)

  pub front : (ys : List ℕ) → take at (put_mid at (length w - at) w ys) ≡ take at w
  front ys = ap (λ (z : List ℕ). take at z) (put_tail ys) ∙ take_at (take at w) ys at (length-take-le at w long)

  pub back : (ys : List ℕ) → drop at (put_mid at (length w - at) w ys) ≡ ys
  back ys = ap (λ (z : List ℕ). drop at z) (put_tail ys) ∙ drop_at (take at w) ys at (length-take-le at w long)

  -- where only the first m words of the tail changed
  pub only_tail : (m hi : ℕ) (ys : List ℕ) → at + m ≤ hi → length ys ≡ length w - at → drop m ys ≡ drop m (drop at w)
      → OnlyIn at hi w (put_mid at (length w - at) w ys)
  only_tail m hi ys h l e =
      let u : List ℕ = put_mid at (length w - at) w ys in
      let same : drop (at + m) u ≡ drop (at + m) w = sym (drop-drop m at u) ∙ ap (λ (z : List ℕ). drop m z) (back ys) ∙ e ∙ drop-drop m at w in
      record {
        before = front ys;
        after = sym (further (at + m) hi u h) ∙ ap (λ (z : List ℕ). drop (hi - (at + m)) z) same ∙ further (at + m) hi w h;
        length_same = ap length (put_tail ys) ∙ length-append (take at w) ys ∙ (let t = length-take-le at w long in omega arith);
      }
