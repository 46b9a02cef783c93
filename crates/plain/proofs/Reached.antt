-- Whether some triple came to the cross product test, as the loop over i finds it: where no face is laid. And where
-- none came to it, no face is laid. Assumes nothing.
use Prim.Native.Nat.{ℕ, ◌+◌, ◌-◌, ◌/◌, ◌≤◌, ◌<◌}
use mathlib.Core.Path.{◌≡◌, refl, sym, ap, ◌∙◌}
use mathlib.Core.Logic.{⊎_elim}
use mathlib.Core.Bool.{Bool, true, false, ◌||◌}
use mathlib.Core.List.{List, [], ◌∷◌, ◌++◌}
use native.Mathlib.Omega.{arith}
use lib.Dec.{ltb}
use lib.ListN.{length, take, length-append, length-take}
use lib.Seq.{length-take-le}
use lib.Ieee.{Float}
use borrow.Author.Tests.{ltb-false, lt-ltb}
use Rattle.lists.specs.Lists.{bit, count, any, up_from}
use Rattle.lists.proofs.Bools.{either}
use Rattle.lists.proofs.Counts.{any_false}
use Rattle.patch.specs.Lay.{Face}
use Rattle.patch.proofs.View.{written_none}
use Rattle.plain.specs.Plain.{candidates, faces_over, faces_at, plain_faces_from, plain_faces}
use Rattle.plain.specs.Inner.Laid.{HoldsFaces, LaysFaces}
use Rattle.plain.specs.Inner.Listed.{CandidatesListed}
use Rattle.plain.specs.Reached.{paired, plain_reached}
use Rattle.plain.proofs.Plain.{up_more, up_none, up_start}

-- two listed candidates are two candidates
pub listed_paired : {points : List Float} {radius : Float} {i : ℕ} {w : List ℕ} {lengths : List Float} {listed : ℕ}
    → CandidatesListed points radius i w lengths listed → ltb 1 listed ≡ paired points radius i
unfolding paired
listed_paired {w = w} {listed = listed} l = ap (ltb 1) (sym (length-take-le listed w l.lists.words_enough) ∙ ap length l.all)

-- laying more lays no fewer
lays_more : {more : List Face} {slice : List ℕ} {laid : ℕ} {back : List ℕ} {r : ℕ} (fs : List Face) (lent : List ℕ) → laid ≤ 10000
    → LaysFaces more slice laid back r → HoldsFaces fs lent slice laid → laid ≤ r
lays_more {more} fs lent few lays h = omega (arith, h.counted, (lays.laid lent fs h).counted, length-take 10000 (fs ++ more), length-append fs more)

module _ (points : List Float) (radius : Float) where
  any_first : (i : ℕ) (is : List ℕ) → any (paired points radius) (i ∷ is) ≡ (paired points radius i || any (paired points radius) is)
  unfolding any
  any_first i is = go (paired points radius i)
    where
      go : (b : Bool) → ltb 0 (bit b + count (paired points radius) is) ≡ (b || ltb 0 (count (paired points radius) is))
      go true = lt-ltb 0 (bit true + count (paired points radius) is) (omega arith)
      go false = let e : bit false + count (paired points radius) is ≡ count (paired points radius) is = omega arith in ap (ltb 0) e

  or_next : (a b c : Bool) → (a || (b || c)) ≡ ((a || b) || c)
  or_next true b c = refl
  or_next false b c = refl

  or_none : (a : Bool) → (a || false) ≡ a
  or_none true = refl
  or_none false = refl

  -- what is told of the points below i, of n; told only where no face is laid, since the loop stops listing at 10,000
  pub record Tracking (lent : List ℕ) (n i : ℕ) (slice : List ℕ) (laid : ℕ) (judged : Bool) : Type 0 where
    pub faces : List Face
    pub holds : HoldsFaces faces lent slice laid
    pub tells : laid ≡ 0 → any (paired points radius) (up_from 0 n) ≡ (judged || any (paired points radius) (up_from i (n - i)))

  module _ {lent : List ℕ} {n : ℕ} where
    pub track_start : Tracking lent n 0 lent 0 false
    track_start = record {
      faces = [];
      holds = record { counted = refl; stored = sym (written_none lent) };
      tells = λ z. ap (any (paired points radius)) (up_start n);
    }

    module _ {i : ℕ} {slice : List ℕ} {laid : ℕ} {judged : Bool} (t : Tracking lent n i slice laid judged) where
      pub track_step : {more : List Face} {back : List ℕ} {r : ℕ} {b j : Bool} → i < n → laid ≤ 10000 → LaysFaces more slice laid back r
          → (laid < 10000 → b ≡ paired points radius i) → j ≡ (judged || b)
          → Tracking lent n (i + 1) back r j
      track_step {more} {b = b} {j = j} h few lays e f = record {
        faces = take 10000 (t.faces ++ more);
        holds = lays.laid lent t.faces t.holds;
        tells = λ z.
            let l = lays_more t.faces lent few lays t.holds in
            let rest = any (paired points radius) (up_from (i + 1) (n - (i + 1))) in
            t.tells (omega arith)
            ∙ ap (λ (is : List ℕ). judged || any (paired points radius) is) (up_more i n h)
            ∙ ap (λ (x : Bool). judged || x) (any_first i (up_from (i + 1) (n - (i + 1))))
            ∙ ap (λ (x : Bool). judged || (x || rest)) (sym (e (omega arith)))
            ∙ or_next judged b rest
            ∙ ap (λ (x : Bool). x || rest) (sym f);
      }

      pub track_end : n ≤ i → laid ≡ 0 → judged ≡ any (paired points radius) (up_from 0 n)
      unfolding any
      track_end h z = sym (t.tells z ∙ ap (λ (is : List ℕ). judged || any (paired points radius) is) (up_none i n h) ∙ or_none judged)

  -- ---- where none came to the test no face is laid

  -- one candidate makes no face
  lonely : (i : ℕ) (js : List ℕ) → length js ≤ 1 → faces_at points radius i js ≡ []
  unfolding faces_at faces_over
  lonely i [] h = refl
  lonely i (j ∷ []) h = refl
  lonely i (j ∷ k ∷ ks) h = absurd (omega arith)

  bit_false : (b : Bool) → bit b ≡ 0 → b ≡ false
  bit_false true h = absurd (omega arith)
  bit_false false h = refl

  none_paired : (is : List ℕ) → count (paired points radius) is ≡ 0 → plain_faces_from points radius is ≡ []
  unfolding plain_faces_from paired
  none_paired [] h = refl
  none_paired (i ∷ is) h =
      let js = candidates points radius i (up_from 0 i) in
      let l = ltb-false 1 (length js) (bit_false (ltb 1 (length js)) (omega arith)) in
      ap (λ (fs : List Face). fs ++ plain_faces_from points radius is) (lonely i js l) ∙ none_paired is (omega arith)

  pub plain_reached_lem : 1 ≤ length (plain_faces points radius) → plain_reached points radius ≡ true
  unfolding plain_faces plain_reached
  plain_reached_lem h = ⊎_elim
      (λ (t : any (paired points radius) (up_from 0 (length points / 3)) ≡ true). t)
      (λ (t : any (paired points radius) (up_from 0 (length points / 3)) ≡ false).
      let e = ap (λ (fs : List Face). length (take 10000 fs))
      (none_paired (up_from 0 (length points / 3)) (any_false (paired points radius) (up_from 0 (length points / 3)) t)) in
      absurd (omega arith))
      (either (any (paired points radius) (up_from 0 (length points / 3))))
