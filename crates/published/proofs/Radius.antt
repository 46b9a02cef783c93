-- A laying asks its rules, and a search its floats, at the radii that are given and at no others: rules that are the
-- same there lay the same patch (`patch_agrees`), and floats that are the same make such rules (`rules_agree`).
-- Assumes nothing.
use Prim.Native.Nat.{ℕ, zero, suc, ◌*◌}
use mathlib.Core.Path.{◌≡◌, refl, sym, ap, ◌∙◌}
use mathlib.Core.Bool.{Bool, true, false}
use mathlib.Core.List.{List, [], ◌∷◌}
use mathlib.Core.Option.{Option, none, some}
use lib.Ieee.{Float, binary32, of_bits, lt}
use Rattle.lists.specs.Lists.{up_from, unused, any}
use Rattle.sorting.specs.Each.{All}
use Rattle.patch.specs.Lay.{Edge, Rules, State, Pop, same, popped, seeded, cleared, looked_at, look, next, run, begun}
use Rattle.patch.specs.Lay.{blank, lay_one, lay_all, patch}
use Rattle.patch.specs.Search.{Floats, is_second, is_third, third_of, second_of, first_of, score_of, best_of, searching}

abbrev pub One : Type 0
One = Unit {0}

-- what is said at one radius
abbrev pub floats_at : Floats Float → Float → Floats One
floats_at a r = record {
  near = λ u i. a.near r i;
  close = λ u i j. a.close r i j;
  fits = λ u i j k. a.fits r i j k;
  pivotable = λ u e. a.pivotable r e;
  around = λ u e. a.around r e;
  score = λ u e k. a.score r e k;
}

abbrev pub rules_at : Rules Float → Float → Rules One
rules_at a r = record { seed_of = λ u used. a.seed_of r used; pivot_of = λ u used e. a.pivot_of r used e }

-- ---- a search
module _ (a : Floats Float) (r : Float) (u : One) (used : List ℕ) where
  third_at : (i j : ℕ) (ks : List ℕ) → third_of a r used i j ks ≡ third_of (floats_at a r) u used i j ks
  unfolding third_of is_third
  third_at i j [] = refl
  third_at i j (k ∷ ks) =
      ap (λ (o : Option (ℕ × ℕ × ℕ)). elim (is_third a r used i j k) as (λ d. Option (ℕ × ℕ × ℕ))
      [ true ↦ some (i, j, k) | false ↦ o ]) (third_at i j ks)

  abbrev or_else : Option (ℕ × ℕ × ℕ) → Option (ℕ × ℕ × ℕ) → Option (ℕ × ℕ × ℕ)
  or_else o x = elim o as (λ d. Option (ℕ × ℕ × ℕ)) [ none ↦ x | some t ↦ some t ]

  second_at : (i : ℕ) (ks js : List ℕ) → second_of a r used i ks js ≡ second_of (floats_at a r) u used i ks js
  unfolding second_of is_second
  second_at i ks [] = refl
  second_at i ks (j ∷ js) = λ t.
      elim (is_second a r used i j) as (λ d. Option (ℕ × ℕ × ℕ)) [
        | true ↦ or_else (third_at i j ks t) (second_at i ks js t)
        | false ↦ second_at i ks js t
      ]

  first_at : (is : List ℕ) (tries : ℕ) → first_of a r used is tries ≡ first_of (floats_at a r) u used is tries
  unfolding first_of
  first_at [] tries = refl
  first_at (i ∷ is) zero = refl
  first_at (i ∷ is) (suc tries) = λ t.
      elim (unused used i) as (λ d. Option (ℕ × ℕ × ℕ)) [
        | true ↦ or_else (second_at i (a.near r i) (a.near r i) t) (first_at is tries t)
        | false ↦ first_at is (suc tries) t
      ]

  best_at : (e : Edge) (ks : List ℕ) (top : Float) (best : Option ℕ)
      → best_of a r used e ks top best ≡ best_of (floats_at a r) u used e ks top best
  unfolding best_of score_of
  best_at e [] top best = refl
  best_at e (k ∷ ks) top best = λ t.
      elim (score_of a r used e k) as (λ d. Option ℕ) [
        | none ↦ best_at e ks top best t
        | some s ↦
            elim (lt top s) as (λ d. Option ℕ) [
              | true ↦ best_at e ks s (some k) t
              | false ↦ best_at e ks top best t
            ]
      ]

searching_at : (a : Floats Float) (n : ℕ) (r : Float) → rules_at (searching a n) r ≡ searching (floats_at a r) n
unfolding searching
searching_at a n r = λ t. record {
  seed_of = λ u used. first_at a r u used (up_from 0 n) 1000 t;
  pivot_of = λ u used e.
      elim (a.pivotable r e) as (λ d. Option ℕ) [
        | true ↦ best_at a r u used e (a.around r e) (of_bits binary32 0) none t
        | false ↦ none
      ];
}

pub rules_agree : (a b : Floats Float) (n : ℕ) (r : Float) → floats_at a r ≡ floats_at b r
    → rules_at (searching a n) r ≡ rules_at (searching b n) r
rules_agree a b n r h =
    searching_at a n r ∙ ap (λ (f : Floats One). searching f n) h ∙ sym (searching_at b n r)

-- ---- a laying
module _ (rules : Rules Float) (pop : Pop) (r : Float) where
  judged_at_lem : (b : Bool) (e : Edge) (s : State) → looked_at rules pop r b e s ≡ looked_at (rules_at rules r) pop tt b e s
  unfolding looked_at
  judged_at_lem true e s = refl
  judged_at_lem false e s = refl

  next_at : (fr : List Edge) (s : State) → next rules pop r fr s ≡ next (rules_at rules r) pop tt fr s
  unfolding next look
  next_at [] s = refl
  next_at (x ∷ xs) s =
      judged_at_lem (any (same (pop x xs).0) s.processed) (pop x xs).0 (popped (pop x xs).1 s)

  run_at : (m : ℕ) (s : State) → run rules pop r m s ≡ run (rules_at rules r) pop tt m s
  unfolding run
  run_at zero s = refl
  run_at (suc m) s =
      run_at m (next rules pop r s.frontier s) ∙ ap (run (rules_at rules r) pop tt m) (next_at s.frontier s)

  begun_at : (n : ℕ) (o : Option (ℕ × ℕ × ℕ)) (s : State)
      → begun rules pop r n o s ≡ begun (rules_at rules r) pop tt n o s
  unfolding begun
  begun_at n none s = refl
  begun_at n (some t) s = run_at (3 * n) (seeded t s)

  one_at : (n : ℕ) (s : State) → lay_one rules pop n r s ≡ lay_one (rules_at rules r) pop n tt s
  unfolding lay_one
  one_at n s = begun_at n (rules.seed_of r s.used) (cleared s)

module _ (a b : Rules Float) (pop : Pop) (n : ℕ) where
  all_agree : (rs : List Float) → All (λ (r : Float). rules_at a r ≡ rules_at b r) rs → (s : State)
      → lay_all a pop n rs s ≡ lay_all b pop n rs s
  unfolding lay_all
  all_agree [] h s = refl
  all_agree (r ∷ rs) h s =
      ap (lay_all a pop n rs)
      (one_at a pop r n s ∙ ap (λ (q : Rules One). lay_one q pop n tt s) h.0 ∙ sym (one_at b pop r n s))
      ∙ all_agree rs h.1 (lay_one b pop n r s)

  pub patch_agrees : (rs : List Float) → All (λ (r : Float). rules_at a r ≡ rules_at b r) rs
      → patch a pop n rs ≡ patch b pop n rs
  unfolding patch
  patch_agrees rs h = all_agree rs h (blank n)
