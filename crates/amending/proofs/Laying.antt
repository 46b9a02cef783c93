-- Rules that amend others lay the same patch if that has no bad face, and never lay one. Assumes nothing.
use Prim.Native.Nat.{ℕ, zero, suc, ◌+◌, ◌*◌, ◌≤◌}
use mathlib.Core.Path.{◌≡◌, refl, sym, ap, ◌∙◌, subst}
use mathlib.Core.Logic.{◌≢◌}
use mathlib.Core.Bool.{Bool, true, false}
use mathlib.Core.List.{List, [], ◌∷◌, ◌++◌}
use mathlib.Core.Option.{Option, none, some}
use native.Mathlib.Omega.{arith}
use Rattle.lists.specs.Lists.{bit, count, any}
use Rattle.patch.specs.Lay.{Edge, same, Face, State, Rules, Pop, with_face, cleared, seeded, popped, met, pivoted, looked_at, look, next, run, begun, lay_one}
use Rattle.patch.specs.Lay.{lay_all, blank, patch}
use Rattle.lists.proofs.Counts.{count_append}
use Rattle.amending.specs.Amending.{seed_face, pivot_face, Amends}

zero_bit : (b : Bool) → bit b ≡ 0 → b ≡ false
zero_bit true h = absurd (omega arith)
zero_bit false h = refl

module _ (bad : Face → Bool) where
  -- how many bad faces were laid
  abbrev pub bad_in : State → ℕ
  bad_in s = count bad s.faces

  one_more : (fs : List Face) (f : Face) → count bad (fs ++ (f ∷ [])) ≡ count bad fs + bit (bad f)
  one_more fs f = let e = count_append bad fs (f ∷ []) in omega arith

  -- ---- rules that pivot to no bad face
  module _ {R : Type 0} (rules : Rules R) (pop : Pop)
      (good : (r : R) (used : List ℕ) (e : Edge) (k : ℕ) → rules.pivot_of r used e ≡ some k → bad (pivot_face e k) ≡ false) (r : R) where
    met_bad : (e : Edge) (o : Option ℕ) (s : State) → ((k : ℕ) → o ≡ some k → bad (pivot_face e k) ≡ false) → bad_in (met e o s) ≡ bad_in s
    unfolding met with_face
    met_bad e none s h = refl
    met_bad e (some k) s h = let m = one_more s.faces (pivot_face e k) in let z : bit (bad (pivot_face e k)) ≡ 0 = ap bit (h k refl) in omega arith

    judged_bad : (b : Bool) (e : Edge) (s : State) → bad_in (looked_at rules pop r b e s) ≡ bad_in s
    unfolding looked_at pivoted
    judged_bad true e s = refl
    judged_bad false e s = met_bad e (rules.pivot_of r s.used e) s (λ k q. good r s.used e k q)

    next_bad : (es : List Edge) (s : State) → bad_in (next rules pop r es s) ≡ bad_in s
    unfolding next look popped
    next_bad [] s = refl
    next_bad (x ∷ xs) s = judged_bad (any (same (pop x xs).0) s.processed) (pop x xs).0 (popped (pop x xs).1 s)

    run_bad : (m : ℕ) (s : State) → bad_in (run rules pop r m s) ≡ bad_in s
    unfolding run
    run_bad zero s = refl
    run_bad (suc m) s = run_bad m (next rules pop r s.frontier s) ∙ next_bad s.frontier s

    seeded_bad : (n : ℕ) (t : ℕ × ℕ × ℕ) (s : State) → bad_in (begun rules pop r n (some t) (cleared s)) ≡ bad_in s + bit (bad (seed_face t))
    unfolding begun seeded with_face cleared
    seeded_bad n t s = run_bad (3 * n) (seeded t (cleared s)) ∙ one_more s.faces (seed_face t)

    begun_more : (n : ℕ) (o : Option (ℕ × ℕ × ℕ)) (s : State) → bad_in s ≤ bad_in (begun rules pop r n o (cleared s))
    unfolding begun cleared
    begun_more n none s = omega arith
    begun_more n (some t) s = let e = seeded_bad n t s in omega arith

    begun_none : (n : ℕ) (o : Option (ℕ × ℕ × ℕ)) (s : State) → ((t : ℕ × ℕ × ℕ) → o ≡ some t → bad (seed_face t) ≡ false)
        → bad_in (begun rules pop r n o (cleared s)) ≡ bad_in s
    unfolding begun cleared
    begun_none n none s h = refl
    begun_none n (some t) s h = let e = seeded_bad n t s in let z : bit (bad (seed_face t)) ≡ 0 = ap bit (h t refl) in omega arith

  lay_more : {R : Type 0} (rules : Rules R) (pop : Pop)
      → ((r : R) (used : List ℕ) (e : Edge) (k : ℕ) → rules.pivot_of r used e ≡ some k → bad (pivot_face e k) ≡ false)
      → (n : ℕ) (rs : List R) (s : State) → bad_in s ≤ bad_in (lay_all rules pop n rs s)
  unfolding lay_all lay_one
  lay_more rules pop good n [] s = omega arith
  lay_more rules pop good n (r ∷ rs) s =
      let h = begun_more rules pop good r n (rules.seed_of r s.used) s in
      let k = lay_more rules pop good n rs (lay_one rules pop n r s) in
      omega arith

  -- ---- two rules
  module _ {R : Type 0} (a b : Rules R) (amends : Amends bad a b) (pop : Pop) where
    judged_same : (r : R) (t : Bool) (e : Edge) (s : State) → looked_at b pop r t e s ≡ looked_at a pop r t e s
    unfolding looked_at
    judged_same r true e s = refl
    judged_same r false e s = ap (λ (o : Option ℕ). pivoted e (met e o s)) (amends.pivots_same r s.used e)

    next_same : (r : R) (es : List Edge) (s : State) → next b pop r es s ≡ next a pop r es s
    unfolding next look
    next_same r [] s = refl
    next_same r (x ∷ xs) s = judged_same r (any (same (pop x xs).0) s.processed) (pop x xs).0 (popped (pop x xs).1 s)

    run_same : (r : R) (m : ℕ) (s : State) → run b pop r m s ≡ run a pop r m s
    unfolding run
    run_same r zero s = refl
    run_same r (suc m) s = run_same r m (next b pop r s.frontier s) ∙ ap (run a pop r m) (next_same r s.frontier s)

    begun_same : (r : R) (n : ℕ) (o : Option (ℕ × ℕ × ℕ)) (s : State) → begun b pop r n o s ≡ begun a pop r n o s
    unfolding begun
    begun_same r n none s = refl
    begun_same r n (some t) s = run_same r (3 * n) (seeded t s)

    -- a radius that adds no bad face
    one_same : (n : ℕ) (r : R) (s : State) → bad_in (lay_one a pop n r s) ≡ 0 → lay_one b pop n r s ≡ lay_one a pop n r s
    unfolding lay_one
    one_same n r s h =
        begun_same r n (b.seed_of r s.used) (cleared s)
        ∙ ap (λ (o : Option (ℕ × ℕ × ℕ)). begun a pop r n o (cleared s)) (amends.seeds_same r s.used (λ t q.
        let e = seeded_bad a pop amends.pivots_good r n t s in
        let z : bad_in (begun a pop r n (some t) (cleared s)) ≡ 0 = subst (λ (o : Option (ℕ × ℕ × ℕ)). bad_in (begun a pop r n o (cleared s)) ≡ 0) q h in
        zero_bit (bad (seed_face t)) (omega arith)))

    all_same : (n : ℕ) (rs : List R) (s : State) → bad_in (lay_all a pop n rs s) ≡ 0 → lay_all b pop n rs s ≡ lay_all a pop n rs s
    unfolding lay_all
    all_same n [] s h = refl
    all_same n (r ∷ rs) s h =
        let more = lay_more a pop amends.pivots_good n rs (lay_one a pop n r s) in
        let e = one_same n r s (omega arith) in
        ap (lay_all b pop n rs) e ∙ all_same n rs (lay_one a pop n r s) h

    good_b : (r : R) (used : List ℕ) (e : Edge) (k : ℕ) → b.pivot_of r used e ≡ some k → bad (pivot_face e k) ≡ false
    good_b r used e k q = amends.pivots_good r used e k (sym (amends.pivots_same r used e) ∙ q)

    all_none : (n : ℕ) (rs : List R) (s : State) → bad_in (lay_all b pop n rs s) ≡ bad_in s
    unfolding lay_all lay_one
    all_none n [] s = refl
    all_none n (r ∷ rs) s = all_none n rs (lay_one b pop n r s) ∙ begun_none b pop good_b r n (b.seed_of r s.used) s
        (λ t q. amends.seeds_good r s.used t q)

    -- the amended patch has no bad face
    pub amended_none : (n : ℕ) (rs : List R) → bad_in (patch b pop n rs) ≡ 0
    unfolding patch
    amended_none n rs = all_none n rs (blank n)

    -- where the patch has none, the amended one is the same in all
    pub amended_same : (n : ℕ) (rs : List R) → bad_in (patch a pop n rs) ≡ 0 → patch b pop n rs ≡ patch a pop n rs
    unfolding patch
    amended_same n rs h = all_same n rs (blank n) h

    -- where it has one, their faces differ
    pub amended_differs : (n : ℕ) (rs : List R) → 1 ≤ bad_in (patch a pop n rs) → (patch b pop n rs).faces ≢ (patch a pop n rs).faces
    amended_differs n rs h q = let z = amended_none n rs in let e = ap (count bad) q in absurd (omega arith)
