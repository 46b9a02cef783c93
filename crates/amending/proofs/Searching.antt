-- The searches over amended floats: a seed that is not bad is found as before, and pivots are the same, if bad faces
-- have no score above 0. Assumes nothing.
use Prim.Native.Nat.{ℕ, zero, suc}
use mathlib.Core.Path.{◌≡◌, refl, sym, ap, ◌∙◌, subst}
use mathlib.Core.Logic.{◌⊎◌, inl, inr, ⊎_elim}
use mathlib.Core.Bool.{Bool, true, false, cond, not, ◌&&◌}
use mathlib.Core.List.{List, [], ◌∷◌}
use mathlib.Core.Option.{Option, none, some}
use lib.Dec.{T, eqb}
use lib.Ieee.{Float, binary32, of_bits, lt}
use lib.Ieee.Bits.{is_true}
use Rattle.numbers.proofs.OrderLaws.{lt_le, lt_le_trans}
use Rattle.patch.specs.Lay.{Edge, Face, face}
use Rattle.lists.specs.Lists.{unused, up_from}
use Rattle.patch.specs.Search.{Floats, is_second, is_third, third_of, second_of, first_of, score_of, best_of, searching}
use Rattle.lists.proofs.Bools.{true_not_false, not-true}
use Rattle.amending.proofs.Fitting.{All, all_if, Triple, or_else, seed_fits}
use Rattle.amending.specs.Amending.{seed_face, pivot_face, amend, LowScores, Amends}

abbrev zero_float : Float
zero_float = of_bits binary32 0

-- ---- Booleans
past : (p x y : Bool) → (p && (x && y)) ≡ (x && (p && y))
past true x y = refl
past false true y = refl
past false false y = refl

not_both : (x y : Bool) → (not x && y) ≡ true → x ≡ false
not_both true y h = absurd (true_not_false refl (sym h))
not_both false y h = refl

both_not : (x y : Bool) → x ≡ false → (not x && y) ≡ y
both_not true y h = absurd (true_not_false refl h)
both_not false y h = refl

no_more : (x y : Bool) → y ≡ false → (not x && y) ≡ false
no_more true y h = refl
no_more false y h = h

-- ---- answers
all_found : {A B : Type 0} (P : A → Type 0) (o : Option B) (x : Option A) (f : B → Option A) → (o ≡ none → All P x) → ((b : B) → o ≡ some b → All P (f b))
    → All P (elim o as (λ c. Option A) [ none ↦ x | some b ↦ f b ])
all_found P none x f h g = h refl
all_found P (some b) x f h g = g b refl

-- the second answer is the first, if that one is good
abbrev Follows : (Triple → Bool) → Option Triple → Option Triple → Type 0
Follows bad o u = ((t : Triple) → o ≡ some t → bad t ≡ false) → u ≡ o

follow_if : (bad : Triple → Bool) (c : Bool) (x y u v : Option Triple) → Follows bad x u → Follows bad y v
    → Follows bad (elim c as (λ d. Option Triple) [ true ↦ x | false ↦ y ]) (elim c as (λ d. Option Triple) [ true ↦ u | false ↦ v ])
follow_if bad true x y u v h g = h
follow_if bad false x y u v h g = g

none_some : {A : Type 0} {x : A} → none ≡ some x → ⊥
none_some {A = A} {x} q = subst told q tt
  where
    told : Option A → Type 0
    told none = Unit {0}
    told (some y) = ⊥

follow_else : (bad : Triple → Bool) (o u x y : Option Triple) → Follows bad o u → Follows bad x y → Follows bad (or_else o x) (or_else u y)
follow_else bad none u x y h g k = ap (λ (w : Option Triple). or_else w y) (h (λ t q. absurd (none_some q))) ∙ g k
follow_else bad (some t) u x y h g k = ap (λ (w : Option Triple). or_else w y) (h k)

-- ---- seeds
module _ {R : Type 0} (bad : Face → Bool) (a : Floats R) (r : R) (used : List ℕ) where
  abbrev bad_seed : Triple → Bool
  bad_seed t = bad (seed_face t)

  third_amended : (i j k : ℕ) → is_third (amend bad a) r used i j k ≡ (not (bad (face i j k)) && is_third a r used i j k)
  unfolding is_third amend
  third_amended i j k =
      let x = not (bad (face i j k)) in
      let f = a.fits r i j k in
      let c = a.close r i k in
      let d = a.close r j k in
      let u = unused used k in
      let p = not (eqb i k) in
      let q = not (eqb j k) in
      ap (λ (z : Bool). p && (q && (u && (c && z)))) (past d x f)
      ∙ ap (λ (z : Bool). p && (q && (u && z))) (past c x (d && f))
      ∙ ap (λ (z : Bool). p && (q && z)) (past u x (c && (d && f)))
      ∙ ap (λ (z : Bool). p && z) (past q x (u && (c && (d && f))))
      ∙ past p x (q && (u && (c && (d && f))))

  third_follows : (i j : ℕ) (ks : List ℕ) → Follows bad_seed (third_of a r used i j ks) (third_of (amend bad a) r used i j ks)
  unfolding third_of
  third_follows i j [] = λ h. refl
  third_follows i j (k ∷ ks) = go (is_third a r used i j k) (is_third (amend bad a) r used i j k) (third_amended i j k) (third_follows i j ks)
    where
      go : (s t : Bool) → t ≡ (not (bad (face i j k)) && s) → Follows bad_seed (third_of a r used i j ks) (third_of (amend bad a) r used i j ks)
          → Follows bad_seed (elim s as (λ d. Option Triple) [ true ↦ some (i, j, k) | false ↦ third_of a r used i j ks ])
          (elim t as (λ d. Option Triple) [ true ↦ some (i, j, k) | false ↦ third_of (amend bad a) r used i j ks ])
      go true t e ih h = ap (λ (z : Bool). elim z as (λ d. Option Triple) [ true ↦ some (i, j, k) | false ↦ third_of (amend bad a) r used i j ks ])
          (e ∙ both_not (bad (face i j k)) true (h (i, j, k) refl))
      go false t e ih h = ap (λ (z : Bool). elim z as (λ d. Option Triple) [ true ↦ some (i, j, k) | false ↦ third_of (amend bad a) r used i j ks ])
          (e ∙ no_more (bad (face i j k)) false refl) ∙ ih h

  second_follows : (i : ℕ) (ks js : List ℕ) → Follows bad_seed (second_of a r used i ks js) (second_of (amend bad a) r used i ks js)
  unfolding second_of is_second amend
  second_follows i ks [] = λ h. refl
  second_follows i ks (j ∷ js) =
      let later = second_follows i ks js in
      let x = second_of a r used i ks js in
      let y = second_of (amend bad a) r used i ks js in
      let o = third_of a r used i j ks in
      let u = third_of (amend bad a) r used i j ks in
      follow_if bad_seed (is_second a r used i j) (or_else o x) x (or_else u y) y (follow_else bad_seed o u x y (third_follows i j ks) later) later

  first_follows : (is : List ℕ) (tries : ℕ) → Follows bad_seed (first_of a r used is tries) (first_of (amend bad a) r used is tries)
  unfolding first_of amend
  first_follows [] tries = λ h. refl
  first_follows (i ∷ is) zero = λ h. refl
  first_follows (i ∷ is) (suc tries) =
      let near = a.near r i in
      let x = first_of a r used is tries in
      let y = first_of (amend bad a) r used is tries in
      let o = second_of a r used i near near in
      let u = second_of (amend bad a) r used i near near in
      follow_if bad_seed (unused used i) (or_else o x) (first_of a r used is (suc tries)) (or_else u y) (first_of (amend bad a) r used is (suc tries))
      (follow_else bad_seed o u x y (second_follows i near near) (first_follows is tries)) (first_follows is (suc tries))

-- ---- pivots

-- no number that is not above 0 is above `top`
abbrev High : Float → Type 0
High top = (x : Float) → lt zero_float x ≡ false → lt top x ≡ false

high_on : (top s : Float) → High top → lt top s ≡ true → High s
high_on top s h l x z = not-true (λ (t : lt s x ≡ true). true_not_false
    (is_true (lt top x) (lt_le_trans top s x (subst T (sym l) tt) (lt_le s x (subst T (sym t) tt))))
    (h x z))

abbrev whether : Bool → Option ℕ → Option ℕ → Option ℕ
whether b x y = elim b as (λ d. Option ℕ) [ true ↦ x | false ↦ y ]

abbrev pick : Float → Option Float → Option ℕ → (Float → Option ℕ) → Option ℕ
pick top o stay go = elim o as (λ d. Option ℕ) [ none ↦ stay | some s ↦ whether (lt top s) (go s) stay ]

pick_same : (top : Float) (o : Option Float) (stay stay' : Option ℕ) (go go' : Float → Option ℕ) → stay' ≡ stay → ((s : Float) → lt top s ≡ true → go' s ≡ go s)
    → pick top o stay' go' ≡ pick top o stay go
pick_same top none stay stay' go go' h g = h
pick_same top (some s) stay stay' go go' h g = step (lt top s) (g s)
  where
    step : (b : Bool) → (b ≡ true → go' s ≡ go s) → whether b (go' s) stay' ≡ whether b (go s) stay
    step true k = k refl
    step false k = h

pick_low : (top : Float) (o : Option Float) (stay : Option ℕ) (go : Float → Option ℕ) → ((x : Float) → o ≡ some x → lt top x ≡ false) → pick top o stay go
    ≡ stay
pick_low top none stay go h = refl
pick_low top (some s) stay go h = ap (λ (b : Bool). whether b (go s) stay) (h s refl)

module _ {R : Type 0} (bad : Face → Bool) (a : Floats R) (low : LowScores bad a) (r : R) (used : List ℕ) where
  -- a score is as before, or it was not above 0 and is none
  abbrev Lowered : Option Float → Option Float → Type 0
  Lowered o u = (u ≡ o) ⊎ ((u ≡ none) × ((x : Float) → o ≡ some x → lt zero_float x ≡ false))

  lowered : (e : Edge) (k : ℕ) → Lowered (score_of a r used e k) (score_of (amend bad a) r used e k)
  unfolding score_of amend
  lowered e k = go (not (eqb k e.v1) && (not (eqb k e.v2) && unused used k)) (bad (pivot_face e k)) refl
    where
      go : (t b : Bool) → bad (pivot_face e k) ≡ b
          → Lowered (elim t as (λ d. Option Float) [ true ↦ a.score r e k | false ↦ none ])
          (elim t as (λ d. Option Float) [ true ↦ cond b none (a.score r e k) | false ↦ none ])
      go true true q = inr (refl, λ x h. low r e k x q h)
      go true false q = inl refl
      go false b q = inl refl

  best_same : (e : Edge) (ks : List ℕ) (top : Float) (best : Option ℕ) → High top → best_of (amend bad a) r used e ks top best ≡ best_of a r used e ks top best
  unfolding best_of
  best_same e [] top best h = refl
  best_same e (k ∷ ks) top best h =
      let o = score_of a r used e k in
      let stay = best_of a r used e ks top best in
      let stay' = best_of (amend bad a) r used e ks top best in
      let go : Float → Option ℕ = λ s. best_of a r used e ks s (some k) in
      let go' : Float → Option ℕ = λ s. best_of (amend bad a) r used e ks s (some k) in
      let on = best_same e ks top best h in
      ⊎_elim
      (λ (q : score_of (amend bad a) r used e k ≡ o). ap (λ (w : Option Float). pick top w stay' go') q ∙ pick_same top o stay stay' go go' on
      (λ s l. best_same e ks s (some k) (high_on top s h l)))
      (λ (q : (score_of (amend bad a) r used e k ≡ none) × ((x : Float) → o ≡ some x → lt zero_float x ≡ false)). ap (λ (w : Option Float). pick top w stay' go')
      q.0 ∙ on ∙ sym (pick_low top o stay go (λ x p. h x (q.1 x p))))
      (lowered e k)

  scored_good : (e : Edge) (k : ℕ) → All (λ (s : Float). bad (pivot_face e k) ≡ false) (score_of (amend bad a) r used e k)
  unfolding score_of amend
  scored_good e k = go (not (eqb k e.v1) && (not (eqb k e.v2) && unused used k)) (bad (pivot_face e k)) refl
    where
      each : (o : Option Float) → bad (pivot_face e k) ≡ false → All (λ (s : Float). bad (pivot_face e k) ≡ false) o
      each none h = tt
      each (some s) h = h

      go : (t b : Bool) → bad (pivot_face e k) ≡ b
          → All (λ (s : Float). bad (pivot_face e k) ≡ false) (elim t as (λ d. Option Float) [ true ↦ cond b none (a.score r e k) | false ↦ none ])
      go true true q = tt
      go true false q = each (a.score r e k) q
      go false b q = tt

  abbrev GoodPivot : Edge → ℕ → Type 0
  GoodPivot e k = bad (pivot_face e k) ≡ false

  best_good : (e : Edge) (ks : List ℕ) (top : Float) (best : Option ℕ) → All (GoodPivot e) best → All (GoodPivot e) (best_of (amend bad a) r used e ks top best)
  unfolding best_of
  best_good e [] top best h = h
  best_good e (k ∷ ks) top best h =
      let b = amend bad a in
      all_found (GoodPivot e) (score_of b r used e k) (best_of b r used e ks top best)
      (λ s. elim (lt top s) [ true ↦ best_of b r used e ks s (some k) | false ↦ best_of b r used e ks top best ])
      (λ q. best_good e ks top best h)
      (λ s q. all_if (GoodPivot e) (lt top s) (best_of b r used e ks s (some k)) (best_of b r used e ks top best)
      (λ t. best_good e ks s (some k) (subst (All (λ (s : Float). bad (pivot_face e k) ≡ false)) q (scored_good e k)))
      (λ t. best_good e ks top best h))

  pivot_same : (e : Edge) (t : Bool)
      → whether t (best_of (amend bad a) r used e (a.around r e) zero_float none) none ≡ whether t (best_of a r used e (a.around r e) zero_float none) none
  pivot_same e true = best_same e (a.around r e) zero_float none (λ x h. h)
  pivot_same e false = refl

  pivot_good : (e : Edge) (t : Bool) → All (GoodPivot e) (whether t (best_of (amend bad a) r used e (a.around r e) zero_float none) none)
  pivot_good e true = best_good e (a.around r e) zero_float none tt
  pivot_good e false = tt

pub searching_amends : {R : Type 0} (bad : Face → Bool) (a : Floats R) → LowScores bad a → (n : ℕ) → Amends bad (searching a n) (searching (amend bad a) n)
unfolding searching amend
searching_amends bad a low n = record {
  pivots_same = λ r used e. pivot_same bad a low r used e (a.pivotable r e);
  pivots_good = λ r used e k q. subst (All (λ (x : ℕ). bad (pivot_face e x) ≡ false)) (pivot_same bad a low r used e (a.pivotable r e) ∙ q)
      (pivot_good bad a low r used e (a.pivotable r e));
  seeds_same = λ r used. first_follows bad a r used (up_from 0 n) 1000;
  seeds_good = λ r used t q. not_both (bad (seed_face t)) (a.fits r t.0 t.1 t.2) (seed_fits (amend bad a) r used n t q);
}
