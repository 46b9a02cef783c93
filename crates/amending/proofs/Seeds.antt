-- Where pivots meet no bad face, only seeds are bad. Assumes nothing.
use Prim.Native.Nat.{ℕ, zero, suc, ◌+◌, ◌*◌}
use mathlib.Core.Path.{◌≡◌, refl, sym, ap, ◌∙◌}
use mathlib.Core.Logic.{◌⊎◌, inl, inr, ⊎_elim}
use mathlib.Core.Bool.{Bool, true, false}
use mathlib.Core.List.{List, [], ◌∷◌, ◌++◌}
use mathlib.Core.Option.{Option, none, some}
use native.Mathlib.Omega.{arith}
use lib.Dec.{ltb}
use borrow.Author.Tests.{ltb-true, ltb-false}
use lib.ListN.{length, get_or, length-append, get_or-append}
use lib.Seq.{get_or-append_seam}
use Rattle.lists.specs.Lists.{any}
use Rattle.patch.specs.Lay.{Edge, same, Face, State, Rules, Pop, with_face, cleared, seeded, popped, met, pivoted, looked_at, look, next, run, begun, lay_one}
use Rattle.patch.specs.Lay.{lay_all, blank, patch}
use Rattle.patch.specs.Shape.{no_face}
use Rattle.lists.proofs.Bools.{either, true_not_false}
use Rattle.amending.specs.Amending.{seed_face, pivot_face, OnlySeeds}

module _ (bad : Face → Bool) where
  snoc : (fs : List Face) (bs : List Bool) (f : Face) (b : Bool) → OnlySeeds bad fs bs → (b ≡ true) ⊎ (bad f ≡ false)
      → OnlySeeds bad (fs ++ (f ∷ [])) (bs ++ (b ∷ []))
  snoc fs bs f b o h = record {
    flagged = length-append bs (b ∷ []) ∙ ap (λ (k : ℕ). k + 1) o.flagged ∙ sym (length-append fs (f ∷ []));
    each = λ i l t. ⊎_elim
        (λ (q : ltb i (length fs) ≡ true).
        let k = ltb-true i (length fs) q in
        get_or-append bs (b ∷ []) false i (omega (arith, o.flagged)) ∙ o.each i k (ap bad (sym (get_or-append fs (f ∷ []) no_face i k)) ∙ t))
        (λ (q : ltb i (length fs) ≡ false).
        let k = ltb-false i (length fs) q in
        let m = length-append fs (f ∷ []) in
        let e : i ≡ length fs = omega arith in
        let d : i ≡ length bs = e ∙ sym o.flagged in
        ap (λ (j : ℕ). get_or (bs ++ (b ∷ [])) j false) d ∙ get_or-append_seam bs b [] false ∙ seed
        (ap bad (sym (ap (λ (j : ℕ). get_or (fs ++ (f ∷ [])) j no_face) e ∙ get_or-append_seam fs f [] no_face)) ∙ t))
        (either (ltb i (length fs)));
  }
    where
      seed : bad f ≡ true → b ≡ true
      seed t = ⊎_elim (λ (y : b ≡ true). y) (λ (y : bad f ≡ false). absurd (true_not_false t y)) h

  abbrev Only : State → Type 0
  Only s = OnlySeeds bad s.faces s.seed_flags

  module _ {R : Type 0} (rules : Rules R) (pop : Pop)
      (good : (r : R) (used : List ℕ) (e : Edge) (k : ℕ) → rules.pivot_of r used e ≡ some k → bad (pivot_face e k) ≡ false) where
    met_only : (e : Edge) (o : Option ℕ) (s : State) → ((k : ℕ) → o ≡ some k → bad (pivot_face e k) ≡ false) → Only s → Only (met e o s)
    unfolding met with_face
    met_only e none s h p = p
    met_only e (some k) s h p = snoc s.faces s.seed_flags (pivot_face e k) false p (inr (h k refl))

    judged_only : (r : R) (b : Bool) (e : Edge) (s : State) → Only s → Only (looked_at rules pop r b e s)
    unfolding looked_at pivoted
    judged_only r true e s p = p
    judged_only r false e s p = let m = met_only e (rules.pivot_of r s.used e) s
        (λ k q. good r s.used e k q) p in record { flagged = m.flagged; each = m.each }

    next_only : (r : R) (es : List Edge) (s : State) → Only s → Only (next rules pop r es s)
    unfolding next look popped
    next_only r [] s p = p
    next_only r (x ∷ xs) s p = judged_only r (any (same (pop x xs).0) s.processed) (pop x xs).0 (popped (pop x xs).1 s) p

    run_only : (r : R) (m : ℕ) (s : State) → Only s → Only (run rules pop r m s)
    unfolding run
    run_only r zero s p = p
    run_only r (suc m) s p = run_only r m (next rules pop r s.frontier s) (next_only r s.frontier s p)

    begun_only : (r : R) (n : ℕ) (o : Option (ℕ × ℕ × ℕ)) (s : State) → Only s → Only (begun rules pop r n o (cleared s))
    unfolding begun cleared seeded with_face
    begun_only r n none s p = p
    begun_only r n (some t) s p = run_only r (3 * n) (seeded t (cleared s)) (snoc s.faces s.seed_flags (seed_face t) true p (inl refl))

    all_only : (n : ℕ) (rs : List R) (s : State) → Only s → Only (lay_all rules pop n rs s)
    unfolding lay_all lay_one
    all_only n [] s p = p
    all_only n (r ∷ rs) s p = all_only n rs (lay_one rules pop n r s) (begun_only r n (rules.seed_of r s.used) s p)

    pub only_seeds : (n : ℕ) (rs : List R) → OnlySeeds bad (patch rules pop n rs).faces (patch rules pop n rs).seed_flags
    unfolding patch
    only_seeds n rs = all_only n rs (blank n) (record { flagged = refl; each = λ i l t. absurd (omega arith) })
