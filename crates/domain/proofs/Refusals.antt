-- Laws of a row of checks: the refusal by the first that fails, and what holds where none does. Assumes nothing.
use mathlib.Core.Path.{◌≡◌, refl, sym, ap, ◌∙◌, subst}
use mathlib.Core.Bool.{Bool, true, false, cond, ◌&&◌}
use mathlib.Core.List.{List, [], ◌∷◌, ◌++◌}
use Prim.Native.Nat.{ℕ, ◌+◌, ◌*◌, ◌/◌, ◌%◌, ◌≤◌, ◌<◌}
use native.Mathlib.Omega.{arith}
use lib.Dec.{T, leb, ltb, eqb}
use borrow.Author.Tests.{lt-ltb, le-ltb, le-leb, lt-leb, eq-eqb, ne_eqb, ltb-true, leb-true, eqb-true}
use Rattle.std.specs.Prelude.{Ok, Err, Some, None}
use Rattle.lists.proofs.Bools.{and_both}
use Rattle.answers.proofs.Outcome.{outcome_ok, outcome_err}
use Rattle.ranges.specs.Inner.Number.{some_below}
use Rattle.ranges.proofs.Number.{below_some, below_none}
use Rattle.domain.specs.Refusals.{Check, check, refusal, first_refusal, size_checks, point_check, roomy}
use Rattle.domain.specs.Inner.Outcome.{result_of}
use Rattle.domain.specs.Inner.Accepted.{WorkRoom}
use Rattle.domain.specs.declared.Refusal.{Refusal}

module _ (c : Check) (rest : List Check) where
  pub check_passed : c.passes ≡ true → first_refusal (c ∷ rest) ≡ first_refusal rest
  unfolding first_refusal
  check_passed e = ap (λ (t : Bool). cond t (first_refusal rest) c.refusal) e

  pub check_failed : c.passes ≡ false → first_refusal (c ∷ rest) ≡ c.refusal
  unfolding first_refusal
  check_failed e = ap (λ (t : Bool). cond t (first_refusal rest) c.refusal) e

  pub check_accepted : (c.refusal.answer ≡ 0 → ⊥) → (first_refusal (c ∷ rest)).answer ≡ 0 → (c.passes ≡ true) × ((first_refusal rest).answer ≡ 0)
  check_accepted not-0 e = go c.passes refl
    where
      go : (b : Bool) → c.passes ≡ b → (c.passes ≡ true) × ((first_refusal rest).answer ≡ 0)
      go true q = (q, ap (λ (r : Refusal). r.answer) (sym (check_passed q)) ∙ e)
      go false q = absurd (not-0 (ap (λ (r : Refusal). r.answer) (sym (check_failed q)) ∙ e))

-- ---- one row of checks, then another
-- every refusal has a number
unfoldable pub numbered : List Check → Bool
numbered [] = true
numbered (c ∷ cs) = ltb 0 c.refusal.answer && numbered cs

-- where nothing is refused
pub none_refused : (cs : List Check) → numbered cs ≡ true → (first_refusal cs).answer ≡ 0 → first_refusal cs ≡ refusal 0 0
unfolding first_refusal numbered
none_refused [] h e = refl
none_refused (c ∷ cs) h e =
    let b = and_both {p = ltb 0 c.refusal.answer} {q = numbered cs} h in
    let some = ltb-true 0 c.refusal.answer b.0 in
    let a = check_accepted c cs (λ z. omega arith) e in
    check_passed c cs a.0 ∙ none_refused cs b.1 a.1

-- the refusal by ys where r refuses nothing, or r
abbrev otherwise : List Check → Refusal → Refusal
otherwise ys r = cond (eqb r.answer 0) (first_refusal ys) r

module _ (c : Check) (cs ys : List Check) (number : 0 < c.refusal.answer) (rest : first_refusal (cs ++ ys) ≡ otherwise ys (first_refusal cs)) where
  then_check : (t : Bool) → c.passes ≡ t → first_refusal (c ∷ cs ++ ys) ≡ otherwise ys (first_refusal (c ∷ cs))
  then_check true q = check_passed c (cs ++ ys) q ∙ rest ∙ sym (ap (otherwise ys) (check_passed c cs q))
  then_check false q =
      check_failed c (cs ++ ys) q
      ∙ sym (ap (otherwise ys) (check_failed c cs q) ∙ ap (λ (t : Bool). cond t (first_refusal ys) c.refusal)
      (ne_eqb c.refusal.answer 0 (λ z. omega arith)))

then_on : (xs ys : List Check) → numbered xs ≡ true → first_refusal (xs ++ ys) ≡ otherwise ys (first_refusal xs)
unfolding first_refusal numbered
then_on [] ys h = refl
then_on (c ∷ cs) ys h =
    let b = and_both {p = ltb 0 c.refusal.answer} {q = numbered cs} h in
    then_check c cs ys (ltb-true 0 c.refusal.answer b.0) (then_on cs ys b.1) c.passes refl

neither : (r x : Refusal) → (cond (eqb r.answer 0) x r).answer ≡ 0 → (r.answer ≡ 0) × (x.answer ≡ 0)
neither r x e = go (eqb r.answer 0) refl
  where
    go : (b : Bool) → eqb r.answer 0 ≡ b → (r.answer ≡ 0) × (x.answer ≡ 0)
    go true q = (eqb-true r.answer 0 q, ap (λ (t : Bool). (cond t x r).answer) (sym q) ∙ e)
    go false q = let z = ap (λ (t : Bool). (cond t x r).answer) (sym q) ∙ e in absurd (subst T (sym (eq-eqb r.answer 0 z) ∙ q) tt)

module _ (xs ys : List Check) (h : numbered xs ≡ true) where
  pub row_refused : (r : Refusal) → Err r ≡ result_of (first_refusal xs) → Err r ≡ result_of (first_refusal (xs ++ ys))
  row_refused r e =
      let f = first_refusal xs in
      let n = (outcome_err f.answer f e).1 in
      let w : first_refusal (xs ++ ys) ≡ f = then_on xs ys h ∙ ap (λ (t : Bool). cond t (first_refusal ys) f) (ne_eqb f.answer 0 n) in
      rw w e

  pub row_passed : {u : Unit {0}} → Ok u ≡ result_of (first_refusal xs) → first_refusal (xs ++ ys) ≡ first_refusal ys
  row_passed e =
      let f = first_refusal xs in
      then_on xs ys h ∙ ap (λ (t : Bool). cond t (first_refusal ys) f) (eq-eqb f.answer 0 (outcome_ok f.answer f e))

  pub rows_accepted : (first_refusal (xs ++ ys)).answer ≡ 0 → ((first_refusal xs).answer ≡ 0) × ((first_refusal ys).answer ≡ 0)
  rows_accepted e = neither (first_refusal xs) (first_refusal ys) (ap (λ (q : Refusal). q.answer) (sym (then_on xs ys h)) ∙ e)

-- ---- the lengths
-- what 1 to 3 leave of the lengths of the points' and the normals' slices
pub record Sized (p q : ℕ) : Type 0 where
  pub some : 0 < p
  pub threes : p % 3 ≡ 0
  pub as_long : q ≡ p
  pub few : p / 3 ≤ 4096

module _ (p q : ℕ) where
  pub size_none : p ≡ 0 → first_refusal (size_checks p q) ≡ refusal 1 0
  unfolding first_refusal
  size_none h = rw (le-ltb 0 p (omega arith))

  pub size_not_threes : (p ≡ 0 → ⊥) → (p % 3 ≡ 0 → ⊥) → first_refusal (size_checks p q) ≡ refusal 2 0
  unfolding first_refusal
  size_not_threes h t = rw (lt-ltb 0 p (omega arith), ne_eqb (p % 3) 0 t)

  pub size_other : (p ≡ 0 → ⊥) → p % 3 ≡ 0 → (q ≡ p → ⊥) → first_refusal (size_checks p q) ≡ refusal 2 0
  unfolding first_refusal
  size_other h t l = rw (lt-ltb 0 p (omega arith), eq-eqb (p % 3) 0 t, ne_eqb q p l)

  pub size_many : (p ≡ 0 → ⊥) → p % 3 ≡ 0 → q ≡ p → 4096 < p / 3 → first_refusal (size_checks p q) ≡ refusal 3 0
  unfolding first_refusal
  size_many h t l m = rw (lt-ltb 0 p (omega arith), eq-eqb (p % 3) 0 t, eq-eqb q p l, lt-leb (p / 3) 4096 m)

  pub size_good : Sized p q → first_refusal (size_checks p q) ≡ refusal 0 0
  unfolding first_refusal
  size_good s = rw (lt-ltb 0 p s.some, eq-eqb (p % 3) 0 s.threes, eq-eqb q p s.as_long, le-leb (p / 3) 4096 s.few)

  pub size_accepted : (rest : List Check) → (first_refusal (size_checks p q ++ rest)).answer ≡ 0 → Sized p q × ((first_refusal rest).answer ≡ 0)
  size_accepted rest e =
      let one = check_accepted (check (ltb 0 p) 1 0) _ (λ h. omega arith) e in
      let two = check_accepted (check (eqb (p % 3) 0 && eqb q p) 2 0) _ (λ h. omega arith) one.1 in
      let three = check_accepted (check (leb (p / 3) 4096) 3 0) _ (λ h. omega arith) two.1 in
      let b = and_both two.0 in (
        record { some = ltb-true 0 p one.0; threes = eqb-true (p % 3) 0 b.0; as_long = eqb-true q p b.1; few = leb-true (p / 3) 4096 three.0 },
        three.1,
      )

  -- what 1 to 3 leave where they pass
  pub size_sized : {u : Unit {0}} → Ok u ≡ result_of (first_refusal (size_checks p q)) → Sized p q
  size_sized e = (size_accepted [] (outcome_ok _ (first_refusal (size_checks p q)) e)).0

-- ---- then the points, and one more check
module _ (p q n bad : ℕ) (rest : List Check) {u : Unit {0}} (sized : Ok u ≡ result_of (first_refusal (size_checks p q))) where
  sized_passed : first_refusal (size_checks p q ++ (point_check n bad ∷ rest)) ≡ first_refusal (point_check n bad ∷ rest)
  unfolding numbered
  sized_passed = row_passed (size_checks p q) (point_check n bad ∷ rest) refl sized

  pub point_refused : (found : ℕ) → Some found ≡ some_below n bad → first_refusal (size_checks p q ++ (point_check n bad ∷ rest)) ≡ refusal 4 found
  point_refused found e =
      let b = below_some e in
      sized_passed ∙ check_failed (point_check n bad) rest (lt-leb n bad b.1) ∙ ap (refusal 4) (sym b.0)

  pub points_passed : None ≡ some_below n bad → first_refusal (size_checks p q ++ (point_check n bad ∷ rest)) ≡ first_refusal rest
  points_passed e = sized_passed ∙ check_passed (point_check n bad) rest (le-leb n bad (below_none e))

-- ---- the work slices
pub roomy_room : (n words floats : ℕ) → roomy n words floats ≡ true → WorkRoom n words floats
unfolding roomy
roomy_room n words floats e =
    let b = and_both e in
    record { words_enough = leb-true (24 * n + 64) words b.0; floats_enough = leb-true (4 * n + 64) floats b.1 }
