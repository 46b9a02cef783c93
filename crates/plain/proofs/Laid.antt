-- Laws of faces laid into a slice: nothing more, past the limit, one more, and one lot after the other. Assumes
-- nothing.
use Prim.Native.Nat.{ℕ, zero, suc, ◌+◌, ◌≤◌, ◌<◌}
use mathlib.Core.Path.{◌≡◌, refl, sym, ap, subst, ◌∙◌}
use mathlib.Core.List.{List, [], ◌∷◌, ◌++◌, append_assoc, append-nil}
use native.Mathlib.Omega.{arith}
use lib.ListN.{length, take, length-append}
use lib.Seq.{take_all, take-append-le}
use Rattle.patch.specs.Lay.{Face}
use Rattle.patch.specs.View.{written}
use Rattle.patch.proofs.View.{written_none}
use Rattle.laying_words.specs.Inner.Words.{WroteFace}
use Rattle.plain.specs.Inner.Laid.{HoldsFaces, LaysFaces}

take_again : {A : Type 0} (m : ℕ) (xs ys : List A) → take m (take m xs ++ ys) ≡ take m (xs ++ ys)
take_again zero xs ys = refl
take_again (suc m) [] ys = refl
take_again {A} (suc m) (x ∷ xs) ys = ap (λ (l : List A). x ∷ l) (take_again m xs ys)

held : {fs gs : List Face} {lent slice : List ℕ} {count : ℕ} → fs ≡ gs → HoldsFaces fs lent slice count → HoldsFaces gs lent slice count
held {lent = lent} {slice = slice} {count = count} e h = subst (λ (l : List Face). HoldsFaces l lent slice count) e h

module _ (slice : List ℕ) (count : ℕ) (few : count ≤ 10000) where
  pub lays_full : (more : List Face) → 10000 ≤ count → LaysFaces more slice count slice count
  lays_full more full = record {
    most = few;
    laid = λ lent fs h.
        let long : 10000 ≤ length fs = omega (arith, h.counted) in
        let short : length fs ≤ 10000 = omega (arith, h.counted) in
        held (sym (take-append-le 10000 fs more long ∙ take_all 10000 fs short)) h;
  }

  pub lays_none : LaysFaces [] slice count slice count
  lays_none = record {
    most = few;
    laid = λ lent fs h.
        let short : length fs ≤ 10000 = omega (arith, h.counted) in
        held (sym (ap (take 10000) (append-nil fs) ∙ take_all 10000 fs short)) h;
  }

pub lays_one : (slice back : List ℕ) (count : ℕ) (f : Face) → count < 10000 → WroteFace count f slice back → LaysFaces (f ∷ []) slice count back (count + 1)
lays_one slice back count f few wrote = record {
  most = omega arith;
  laid = λ lent fs h.
      let more : length (fs ++ (f ∷ [])) ≡ length fs + 1 = length-append fs (f ∷ []) in
      let counted : count + 1 ≡ length (fs ++ (f ∷ [])) = omega (arith, h.counted) in
      let short : length (fs ++ (f ∷ [])) ≤ 10000 = omega (arith, h.counted) in
      held (sym (take_all 10000 (fs ++ (f ∷ [])) short)) (record { counted = counted; stored = wrote lent fs (sym h.counted) h.stored });
}

module _ {xs ys : List Face} {slice : List ℕ} {count : ℕ} {mid : List ℕ} {laid : ℕ} {back : List ℕ} {r : ℕ} where
  pub lays_then : LaysFaces xs slice count mid laid → LaysFaces ys mid laid back r → LaysFaces (xs ++ ys) slice count back r
  lays_then p q = record {
    most = q.most;
    laid = λ lent fs h.
        held (take_again 10000 (fs ++ xs) ys ∙ ap (take 10000) (append_assoc fs xs ys)) (q.laid lent (take 10000 (fs ++ xs)) (p.laid lent fs h));
  }

pub lays_as : {xs ys : List Face} {slice : List ℕ} {count : ℕ} {back : List ℕ} {r : ℕ} → xs ≡ ys → LaysFaces xs slice count back r
    → LaysFaces ys slice count back r
lays_as {slice = slice} {count = count} {back = back} {r = r} e p = subst (λ (l : List Face). LaysFaces l slice count back r) e p

-- all of it, from nothing
pub lays_whole : {more : List Face} {lent back : List ℕ} {r : ℕ} → LaysFaces more lent 0 back r → (r ≡ length (take 10000 more))
    × (back ≡ written (take 10000 more) lent)
lays_whole {lent = lent} p =
    let h = p.laid lent [] (record { counted = refl; stored = sym (written_none lent) }) in
    (h.counted, h.stored)

-- ---- a loop that lays lots: what is left to lay leads to the whole
abbrev pub Leads : List Face → List ℕ → ℕ → List Face → List ℕ → ℕ → Type 0
Leads whole lent start rest slice count = (back : List ℕ) (r : ℕ) → LaysFaces rest slice count back r → LaysFaces whole lent start back r

module _ {whole : List Face} {lent : List ℕ} {start : ℕ} {rest : List Face} {slice : List ℕ} {count : ℕ} where
  pub leads_step : {xs next : List Face} {mid : List ℕ} {laid : ℕ} → Leads whole lent start rest slice count → rest ≡ xs ++ next
      → LaysFaces xs slice count mid laid → Leads whole lent start next mid laid
  leads_step l e step back r p = l back r (lays_as (sym e) (lays_then step p))

  pub leads_end : Leads whole lent start rest slice count → rest ≡ [] → count ≤ 10000 → LaysFaces whole lent start slice count
  leads_end l e few = l slice count (lays_as (sym e) (lays_none slice count few))

pub leads_start : {whole rest : List Face} (lent : List ℕ) (start : ℕ) → whole ≡ rest → Leads whole lent start rest lent start
leads_start lent start e back r p = lays_as (sym e) p
