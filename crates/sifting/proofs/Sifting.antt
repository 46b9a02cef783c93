-- The loop of `keep_within`: those of the first m points that are within the limit stand at the list's start, and what
-- is left leads to the whole. Assumes nothing.
use Prim.Native.Nat.{ℕ, suc, ◌+◌, ◌*◌, ◌≤◌, ◌<◌}
use mathlib.Core.Path.{◌≡◌, refl, sym, ap, ◌∙◌, subst}
use mathlib.Core.Bool.{Bool, true, false}
use mathlib.Core.List.{List, [], ◌∷◌, ◌++◌, append_assoc, append-nil}
use native.Mathlib.Omega.{arith}
use lib.ListN.{length, take, drop, get_or, set, length-drop, length-set}
use lib.Seq.{take-set-le, drop-set-lt, drop-set-add, take-suc-set}
use lib.Ieee.{Float}
use Rattle.vector.specs.declared.Point3f.{Point3f}
use Rattle.lists.specs.Members.{only}
use Rattle.sifting.specs.Inner.Sift.{is_within, PointsListed, Sifted}
use Rattle.lists.proofs.Members.{only_skip, only_take, below_part}
use Rattle.sifting.proofs.Parts.{drop_more, word_same, part_step, part_end}

-- of the points that are listed from the m-th on, those that are within the limit
abbrev coming : List Float → ℕ → Point3f → Float → List ℕ → ℕ → ℕ → List ℕ
coming pts n p t w found m = only (is_within pts p t) (drop m (take found (drop (4 * n) w)))

pub record Sifting (pts : List Float) (n : ℕ) (p : Point3f) (t : Float) (w₀ w : List ℕ) (found kept m : ℕ) : Type 0 where
  pub same : length w ≡ length w₀
  pub most : kept ≤ m
  pub inside : m ≤ found
  pub unread : drop (4 * n + m) w ≡ drop (4 * n + m) w₀
  pub rest : coming pts n p t w₀ found 0 ≡ take kept (drop (4 * n) w) ++ coming pts n p t w₀ found m
  pub before : take (4 * n) w ≡ take (4 * n) w₀
  pub after : drop (5 * n) w ≡ drop (5 * n) w₀

module _ {pts : List Float} {n : ℕ} {p : Point3f} {t : Float} {w₀ : List ℕ} {found : ℕ} where
  pub sift_start : Sifting pts n p t w₀ w₀ found 0 0
  sift_start = record { same = refl; most = omega arith; inside = omega arith; unread = refl; rest = refl; before = refl; after = refl }

  module _ (lists : PointsListed pts n w₀ found) {w : List ℕ} {kept m : ℕ} (k : Sifting pts n p t w₀ w found kept m) where
    pub sift_end : found ≤ m → Sifted pts n p t w₀ w found kept
    unfolding only
    sift_end h = record {
      most = omega (arith, k.most, k.inside);
      same = sym (k.rest ∙ ap (λ (l : List ℕ). take kept (drop (4 * n) w) ++ only (is_within pts p t) l) (part_end w₀ (4 * n) found m h) ∙ append-nil
          (take kept (drop (4 * n) w)));
      before = k.before;
      after = k.after;
    }

    -- the m-th point
    abbrev here : ℕ
    here = get_or w (4 * n + m) 0

    here_same : here ≡ get_or w₀ (4 * n + m) 0
    here_same = word_same w₀ w (4 * n + m) k.unread

    pub sift_below : m < found → here < n
    sift_below h = subst (λ (j : ℕ). j < n) (sym here_same) (below_part n w₀ (4 * n) found m lists.below h (omega (arith, lists.work_long, lists.most)))

    at_point : m < found → coming pts n p t w₀ found 0 ≡ take kept (drop (4 * n) w)
        ++ only (is_within pts p t) (here ∷ drop (m + 1) (take found (drop (4 * n) w₀)))
    at_point h =
        k.rest
        ∙ ap (λ (l : List ℕ). take kept (drop (4 * n) w) ++ only (is_within pts p t) l)
        (part_step w₀ (4 * n) found m (omega (arith, lists.work_long, lists.most)) h ∙ ap (λ (j : ℕ). j ∷ drop (m + 1) (take found (drop (4 * n) w₀)))
        (sym here_same))

    -- it is written after those that are kept, whether it stays or not
    abbrev stored : List ℕ
    stored = set w (4 * n + kept) here

    on : {left : ℕ} → m < found → left ≤ m + 1 → coming pts n p t w₀ found 0 ≡ take left (drop (4 * n) stored) ++ coming pts n p t w₀ found (m + 1)
        → Sifting pts n p t w₀ stored found left (m + 1)
    on h l e = record {
      same = length-set w (4 * n + kept) here ∙ k.same;
      most = l;
      inside = omega arith;
      unread = drop-set-lt (4 * n + (m + 1)) w (4 * n + kept) here (omega (arith, k.most)) ∙ drop_more w₀ w (4 * n + m) (4 * n + (m + 1)) (omega arith)
          k.unread;
      rest = e;
      before = take-set-le (4 * n) w (4 * n + kept) here (omega arith) ∙ k.before;
      after = drop-set-lt (5 * n) w (4 * n + kept) here (omega (arith, k.most, lists.most)) ∙ k.after;
    }

    pub sift_skip : {b : Bool} → m < found → b ≡ is_within pts p t here → b ≡ false → Sifting pts n p t w₀ stored found kept (m + 1)
    sift_skip h e f =
        on h (omega (arith, k.most))
        (at_point h
        ∙ ap (λ (l : List ℕ). take kept (drop (4 * n) w) ++ l) (only_skip (is_within pts p t) here (drop (m + 1) (take found (drop (4 * n) w₀))) (sym e ∙ f))
        ∙ ap (λ (l : List ℕ). l ++ coming pts n p t w₀ found (m + 1))
        (sym (ap (take kept) (drop-set-add (4 * n) w kept here) ∙ take-set-le kept (drop (4 * n) w) kept here (omega arith))))

    pub sift_take : {b : Bool} → m < found → b ≡ is_within pts p t here → b ≡ true → Sifting pts n p t w₀ stored found (kept + 1) (m + 1)
    sift_take h e f =
        let s : kept + 1 ≡ suc kept = omega arith in
        let long : kept < length (drop (4 * n) w) = simp length-drop (omega (arith, k.same, k.most, lists.work_long, lists.most)) in
        let one : take (kept + 1) (drop (4 * n) stored) ≡ take kept (drop (4 * n) w)
        ++ (here ∷ []) = ap (take (kept + 1)) (drop-set-add (4 * n) w kept here) ∙ ap (λ (i : ℕ). take i (set (drop (4 * n) w) kept here)) s ∙ take-suc-set
        (drop (4 * n) w) kept here long in
        on h (omega (arith, k.most))
        (at_point h
        ∙ ap (λ (l : List ℕ). take kept (drop (4 * n) w) ++ l) (only_take (is_within pts p t) here (drop (m + 1) (take found (drop (4 * n) w₀))) (sym e ∙ f))
        ∙ sym (append_assoc (take kept (drop (4 * n) w)) (here ∷ []) (coming pts n p t w₀ found (m + 1)))
        ∙ ap (λ (l : List ℕ). l ++ coming pts n p t w₀ found (m + 1)) (sym one))
