-- The earliest of those that none beats: how it changes with one more patch, and that it is as far ahead in any order.
-- Assumes nothing.
use mathlib.Core.Path.{◌≡◌, refl, sym, ap, subst, ◌∙◌}
use mathlib.Core.Bool.{Bool, true, false, cond}
use mathlib.Core.List.{List, [], ◌∷◌, ◌++◌, append_assoc}
use Prim.Native.Nat.{ℕ, ◌*◌, ◌≤◌, ◌<◌}
use native.Mathlib.Nat.{mul-lt-mul_of_pos_right, mul-le-mul_right, lt_of_mul-lt-mul_left}
use native.Mathlib.Omega.{arith}
use borrow.Author.Tests.{ltb-true, ltb-false, lt-ltb, le-ltb}
use Rattle.tally.specs.Tallies.{better}
use Rattle.figures.specs.Season.{worse, EachPatch, none, one, Earliest, PatchesReordered, same, next, swap, then}
use Rattle.tally.specs.declared.SeasonPatch.{SeasonPatch}

-- a patch has points
abbrev pub Some : SeasonPatch → Type 0
Some p = 0 < p.scanned

module _ {P : SeasonPatch → Type 0} where
  pub each_append : (ps qs : List SeasonPatch) → EachPatch P ps → EachPatch P qs → EachPatch P (ps ++ qs)
  each_append [] qs none y = y
  each_append (p ∷ ps) qs (one x xs) y = one x (each_append ps qs xs y)

  pub each_at : (ps : List SeasonPatch) (x : SeasonPatch) (qs : List SeasonPatch) → EachPatch P (ps ++ (x ∷ qs)) → P x
  each_at [] x qs (one h hs) = h
  each_at (p ∷ ps) x qs (one h hs) = each_at ps x qs hs

  pub each_reordered : {ps qs : List SeasonPatch} → PatchesReordered ps qs → EachPatch P ps → EachPatch P qs
  each_reordered same h = h
  each_reordered (next r) (one h hs) = one h (each_reordered r hs)
  each_reordered swap (one h (one k ks)) = one k (one h ks)
  each_reordered (then r s) h = each_reordered s (each_reordered r h)

pub each_both : {P Q R : SeasonPatch → Type 0} → ((p : SeasonPatch) → P p → Q p → R p) → (ps : List SeasonPatch) → EachPatch P ps → EachPatch Q ps
    → EachPatch R ps
each_both f [] none none = none
each_both f (p ∷ ps) (one x xs) (one y ys) = one (f p x y) (each_both f ps xs ys)

pub back : {ps qs : List SeasonPatch} → PatchesReordered ps qs → PatchesReordered qs ps
back same = same
back (next r) = next (back r)
back swap = swap
back (then r s) = then (back s) (back r)

-- what a way of beating has to give: none beats what beats it, nor itself, and what beats one beats all that don't beat
-- that one
pub record Beating (beats : SeasonPatch → SeasonPatch → Bool) : Type 0 where
  pub asym : (x y : SeasonPatch) → beats x y ≡ true → beats y x ≡ false
  pub self : (x : SeasonPatch) → beats x x ≡ false
  pub over : (x y z : SeasonPatch) → Some x → Some y → Some z → beats x y ≡ true → beats z y ≡ false → beats x z ≡ true

module _ (x y z : SeasonPatch) (sx : Some x) (sy : Some y) (sz : Some z) where
  -- x beats y and z doesn't: x beats z
  pub better_over : better x y ≡ true → better z y ≡ false → better x z ≡ true
  unfolding better
  better_over h k =
      let a : y.covered * x.scanned < x.covered * y.scanned = ltb-true _ _ h in
      let b : z.covered * y.scanned ≤ y.covered * z.scanned = ltb-false _ _ k in
      let l : y.covered * x.scanned * z.scanned < x.covered * y.scanned * z.scanned = mul-lt-mul_of_pos_right a sz in
      let m : z.covered * y.scanned * x.scanned ≤ y.covered * z.scanned * x.scanned = mul-le-mul_right x.scanned b in
      let n : y.scanned * (z.covered * x.scanned) < y.scanned * (x.covered * z.scanned) = omega arith in
      lt-ltb _ _ (lt_of_mul-lt-mul_left y.scanned n)

  -- y beats x and does not beat z: z beats x
  pub worse_over : better y x ≡ true → better y z ≡ false → better z x ≡ true
  unfolding better
  worse_over h k =
      let a : x.covered * y.scanned < y.covered * x.scanned = ltb-true _ _ h in
      let b : y.covered * z.scanned ≤ z.covered * y.scanned = ltb-false _ _ k in
      let l : x.covered * y.scanned * z.scanned < y.covered * x.scanned * z.scanned = mul-lt-mul_of_pos_right a sz in
      let m : y.covered * z.scanned * x.scanned ≤ z.covered * y.scanned * x.scanned = mul-le-mul_right x.scanned b in
      let n : y.scanned * (x.covered * z.scanned) < y.scanned * (z.covered * x.scanned) = omega arith in
      lt-ltb _ _ (lt_of_mul-lt-mul_left y.scanned n)

better_asym : (x y : SeasonPatch) → better x y ≡ true → better y x ≡ false
unfolding better
better_asym x y h =
    let a = ltb-true (y.covered * x.scanned) (x.covered * y.scanned) h in le-ltb (x.covered * y.scanned) (y.covered * x.scanned) (omega arith)

better_self : (x : SeasonPatch) → better x x ≡ false
unfolding better
better_self x = le-ltb (x.covered * x.scanned) (x.covered * x.scanned) (omega arith)

pub better_beats : Beating better
better_beats = record { asym = better_asym; self = better_self; over = better_over }

pub worse_beats : Beating worse
worse_beats = record { asym = λ x y. better_asym y x; self = better_self; over = worse_over }

module _ (beats : SeasonPatch → SeasonPatch → Bool) (law : Beating beats) where
  -- none of the list beats the earliest
  pub unbeaten_all : (ps : List SeasonPatch) (x : SeasonPatch) → Earliest beats ps x → EachPatch (λ p. beats p x ≡ false) ps
  unbeaten_all ps x e =
      subst (λ (l : List SeasonPatch). EachPatch (λ p. beats p x ≡ false) l) (sym e.place)
      (each_append e.before (x ∷ e.after)
      (each_both {P = λ p. beats x p ≡ true} {Q = λ p. beats x p ≡ true} {R = λ p. beats p x ≡ false} (λ p h k. law.asym x p h) e.before e.ahead
      e.ahead)
      (one (law.self x) e.unbeaten))

  pub at_earliest : {P : SeasonPatch → Type 0} (ps : List SeasonPatch) (x : SeasonPatch) → Earliest beats ps x → EachPatch P ps → P x
  at_earliest {P} ps x e h = each_at e.before x e.after (subst (λ (l : List SeasonPatch). EachPatch P l) e.place h)

  pub first : (p : SeasonPatch) → Earliest beats (p ∷ []) p
  first p = record { before = []; after = []; place = refl; ahead = none; unbeaten = none }

  -- with one more at the end the earliest is the new one, if that beats it, and else stays
  pub one_more : (ps : List SeasonPatch) (held p : SeasonPatch) → EachPatch Some ps → Some p → Earliest beats ps held → (b : Bool) → beats p held ≡ b
      → Earliest beats (ps ++ (p ∷ [])) (cond b p held)
  one_more ps held p some s e true h = record {
    before = ps;
    after = [];
    place = refl;
    ahead = each_both {P = Some} {Q = λ q. beats q held ≡ false} {R = λ q. beats p q ≡ true}
        (λ q sq k. law.over p held q s (at_earliest ps held e some) sq h k) ps some (unbeaten_all ps held e);
    unbeaten = none;
  }
  one_more ps held p some s e false h = record {
    before = e.before;
    after = e.after ++ (p ∷ []);
    place = ap (λ (l : List SeasonPatch). l ++ (p ∷ [])) e.place ∙ append_assoc e.before (held ∷ e.after) (p ∷ []);
    ahead = e.ahead;
    unbeaten = each_append e.after (p ∷ []) e.unbeaten (one h none);
  }

  -- in another order another may be the earliest, but neither beats the other
  pub neither : (ps qs : List SeasonPatch) (x y : SeasonPatch) → PatchesReordered ps qs → Earliest beats ps x → Earliest beats qs y → beats y x ≡ false
  neither ps qs x y r e f = at_earliest {P = λ q. beats q x ≡ false} qs y f (each_reordered r (unbeaten_all ps x e))

head_same : {p q : SeasonPatch} {ps qs : List SeasonPatch} → ◌≡◌ {A = List SeasonPatch} (p ∷ ps) (q ∷ qs) → p ≡ q
head_same e = cc

tail_same : {p q : SeasonPatch} {ps qs : List SeasonPatch} → ◌≡◌ {A = List SeasonPatch} (p ∷ ps) (q ∷ qs) → ps ≡ qs
tail_same e = cc

never : (b : Bool) → b ≡ true → b ≡ false → ⊥
never b h k = let z : ◌≡◌ {A = ℕ} 0 1 = cc in omega arith

module _ (beats : SeasonPatch → SeasonPatch → Bool) where
  -- what beats all before it isn't after one that none after it beats
  apart : (x y p : SeasonPatch) (after rest end : List SeasonPatch) → p ≡ x → after ≡ rest ++ (y ∷ end) → beats y p ≡ true
      → EachPatch (λ q. beats q x ≡ false) after → ⊥
  apart x y p after rest end e f h u =
      never (beats y x) (subst (λ (q : SeasonPatch). beats y q ≡ true) e h)
      (each_at {P = λ q. beats q x ≡ false} rest y end (subst (λ (l : List SeasonPatch). EachPatch (λ q. beats q x ≡ false) l) f u))

  one_place : (a b : List SeasonPatch) (x y : SeasonPatch) (c d : List SeasonPatch) → a ++ (x ∷ c) ≡ b ++ (y ∷ d)
      → EachPatch (λ p. beats x p ≡ true) a → EachPatch (λ p. beats p x ≡ false) c → EachPatch (λ p. beats y p ≡ true) b → EachPatch (λ p. beats p y ≡ false) d
      → x ≡ y
  one_place [] [] x y c d e ax ux ay uy = head_same e
  one_place [] (q ∷ b) x y c d e ax ux (one h hs) uy = absurd (apart x y q c b d (sym (head_same e)) (tail_same e) h ux)
  one_place (p ∷ a) [] x y c d e (one h hs) ux ay uy = absurd (apart y x p d a c (head_same e) (sym (tail_same e)) h uy)
  one_place (p ∷ a) (q ∷ b) x y c d e (one h hs) ux (one k ks) uy = one_place a b x y c d (tail_same e) hs ux ks uy

  pub earliest_only : (ps : List SeasonPatch) (x y : SeasonPatch) → Earliest beats ps x → Earliest beats ps y → x ≡ y
  earliest_only ps x y e f =
      one_place e.before f.before x y e.after f.after (sym e.place ∙ f.place) e.ahead e.unbeaten f.ahead f.unbeaten

-- neither is better covered: the cross products are equal
pub level : (x y : SeasonPatch) → better x y ≡ false → better y x ≡ false → x.covered * y.scanned ≡ y.covered * x.scanned
unfolding better
level x y h k =
    let a = ltb-false (y.covered * x.scanned) (x.covered * y.scanned) h in
    let b = ltb-false (x.covered * y.scanned) (y.covered * x.scanned) k in
    omega arith
