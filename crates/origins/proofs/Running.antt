-- In the laying each entry that waits runs along an edge of a laid face, so each face but a seed begins with an edge
-- that runs the same way in an earlier one. Assumes nothing but that the pop loses and repeats no entry.
use Prim.Native.Nat.{ℕ, zero, suc, ◌+◌, ◌*◌, ◌≤◌, ◌<◌}
use mathlib.Core.Path.{◌≡◌, refl, ap, ◌∙◌}
use mathlib.Core.Logic.{◌⊎◌, ⊎_elim}
use mathlib.Core.Bool.{Bool, true, false, cond}
use mathlib.Core.List.{List, [], ◌∷◌, ◌++◌}
use mathlib.Core.Option.{Option, none, some}
use native.Mathlib.Omega.{arith}
use native.Mathlib.Decide.{dec_lt}
use borrow.Author.Tests.{eq-eqb}
use lib.ListN.{length, get_or, take, length-append, get_or-append}
use lib.Seq.{take-append-le, take_at, get_or_at}
use Rattle.lists.specs.Lists.{bit, count, any}
use Rattle.patch.specs.Lay.{Edge, same, Face, face, edges_of, State, Rules, Pop, push, with_face, cleared, seeded, popped, met, pivoted, looked_at, look, next}
use Rattle.patch.specs.Lay.{run, begun, lay_one, lay_all, blank, patch}
use Rattle.patch.specs.Fair.{Keeps}
use Rattle.patch.specs.Shape.{no_face}
use Rattle.lists.proofs.Bools.{either, true_not_false}
use Rattle.lists.proofs.Counts.{any_false, true_any, count_append}
use Rattle.origins.specs.Turned.{exactly, runs}

-- face i begins with an edge that runs the same way in an earlier face
abbrev pub Begins : List Bool → List Face → ℕ → Type 0
Begins flags fs i = get_or flags i false ≡ false → any (runs (get_or fs i no_face).a (get_or fs i no_face).b) (take i fs) ≡ true

pub record Running (s : State) : Type 0 where
  pub flagged : length s.seed_flags ≡ length s.faces
  pub waits : (x y : ℕ) → 1 ≤ count (exactly x y) s.frontier → 1 ≤ count (runs x y) s.faces
  pub begins : (i : ℕ) → i < length s.faces → Begins s.seed_flags s.faces i

push_few : (p : Edge → Bool) (processed frontier es : List Edge) → count p (push processed frontier es) ≤ count p frontier + count p es
unfolding push
push_few p processed frontier [] = omega arith
push_few p processed frontier (e ∷ es) = go (any (same e) processed) (push_few p processed frontier es) (push_few p processed (frontier ++ (e ∷ [])) es)
  where
    go : (b : Bool) → count p (push processed frontier es) ≤ count p frontier + count p es
        → count p (push processed (frontier ++ (e ∷ [])) es) ≤ count p (frontier ++ (e ∷ [])) + count p es
        → count p (push processed (cond b frontier (frontier ++ (e ∷ []))) es) ≤ count p frontier + count p (e ∷ es)
    go true h k = omega arith
    go false h k = omega (arith, count_append p frontier (e ∷ []))

begins_snoc : (bs : List Bool) (fs : List Face) (b : Bool) (f : Face) → length bs ≡ length fs → ((i : ℕ) → i < length fs → Begins bs fs i)
    → (b ≡ false → any (runs f.a f.b) fs ≡ true)
    → (i : ℕ) → i < length (fs ++ (f ∷ [])) → Begins (bs ++ (b ∷ [])) (fs ++ (f ∷ [])) i
begins_snoc bs fs b f long h l i g = go (dec_lt i (length fs))
  where
    go : Dec (i < length fs) → Begins (bs ++ (b ∷ [])) (fs ++ (f ∷ [])) i
    go (yes y) =
        let k : i ≤ length fs = omega arith in
        let m : i < length bs = omega arith in
        rw (take-append-le i fs (f ∷ []) k, get_or-append fs (f ∷ []) no_face i y, get_or-append bs (b ∷ []) false i m) (h i y)
    go (no y) =
        let e : length fs ≡ i = omega (arith, length-append fs (f ∷ [])) in
        rw (take_at fs (f ∷ []) i e, get_or_at fs f [] no_face i e, get_or_at bs b [] false i (long ∙ e)) l

no_run : (x y : ℕ) (f : Face) → runs x y f ≡ false → count (exactly x y) (edges_of f) ≡ 0
unfolding runs
no_run x y f h = any_false (exactly x y) (edges_of f) h

-- a face comes in
with_running : (seed : Bool) (ks : List ℕ) (f : Face) (s : State) → Running s → (seed ≡ false → any (runs f.a f.b) s.faces ≡ true)
    → Running (with_face seed ks f s)
unfolding with_face
with_running seed ks f s r h = record {
  flagged = omega (arith, r.flagged, length-append s.seed_flags (seed ∷ []), length-append s.faces (f ∷ []));
  waits = λ x y m. waits_more x y m (either (runs x y f));
  begins = begins_snoc s.seed_flags s.faces seed f r.flagged r.begins h;
}
  where
    waits_more : (x y : ℕ) → 1 ≤ count (exactly x y) (push s.processed s.frontier (edges_of f)) → (runs x y f ≡ true) ⊎ (runs x y f ≡ false)
        → 1 ≤ count (runs x y) (s.faces ++ (f ∷ []))
    waits_more x y m w = ⊎_elim
        (λ (t : runs x y f ≡ true). let o : bit (runs x y f) ≡ 1 = ap bit t in omega (arith, count_append (runs x y) s.faces (f ∷ [])))
        (λ (t : runs x y f ≡ false).
        let z = no_run x y f t in
        let k = r.waits x y (omega (arith, push_few (exactly x y) s.processed s.frontier (edges_of f))) in
        omega (arith, count_append (runs x y) s.faces (f ∷ [])))
        w

pivoted_running : (e : Edge) (s : State) → Running s → Running (pivoted e s)
unfolding pivoted
pivoted_running e s h = record { flagged = h.flagged; waits = h.waits; begins = h.begins }

cleared_running : (s : State) → Running s → Running (cleared s)
unfolding cleared
cleared_running s h = record { flagged = h.flagged; waits = λ x y m. absurd (omega arith); begins = h.begins }

-- an entry is popped
module _ {R : Type 0} (rules : Rules R) (pop : Pop) (keeps : Keeps pop) (r : R) where
  module _ (s : State) (h : Running s) (x : Edge) (xs : List Edge) (q : s.frontier ≡ x ∷ xs) where
    abbrev e : Edge
    e = (pop x xs).0

    abbrev rest : List Edge
    rest = (pop x xs).1

    out_of : (p : Edge → Bool) → count p s.frontier ≡ bit (p e) + count p rest
    out_of p = ap (count p) q ∙ keeps x xs p

    along : any (runs e.v1 e.v2) s.faces ≡ true
    along =
        let o : bit (exactly e.v1 e.v2 e) ≡ 1 = rw (eq-eqb e.v1 e.v1 refl, eq-eqb e.v2 e.v2 refl) in
        true_any (runs e.v1 e.v2) s.faces (h.waits e.v1 e.v2 (omega (arith, out_of (exactly e.v1 e.v2))))

    popped_running : Running (popped rest s)
    unfolding popped
    popped_running = record { flagged = h.flagged; waits = λ x y m. h.waits x y (omega (arith, out_of (exactly x y))); begins = h.begins }

    met_running : (o : Option ℕ) → Running (met e o (popped rest s))
    unfolding met popped
    met_running none = popped_running
    met_running (some k) = with_running false (k ∷ []) (face e.v1 e.v2 k) (popped rest s) popped_running (λ f. along)

    judged_running : (b : Bool) → Running (looked_at rules pop r b e (popped rest s))
    unfolding looked_at
    judged_running true = popped_running
    judged_running false = pivoted_running e (met e (rules.pivot_of r (popped rest s).used e) (popped rest s))
        (met_running (rules.pivot_of r (popped rest s).used e))

    look_running : Running (look rules pop r e rest s)
    unfolding look
    look_running = judged_running (any (same e) s.processed)

  run_running : (m : ℕ) (s : State) → Running s → Running (run rules pop r m s)
  unfolding run next
  run_running zero s h = h
  run_running (suc m) s h = go (λ t. run_running m t) s.frontier refl
    where
      go : ((t : State) → Running t → Running (run rules pop r m t)) → (l : List Edge) → s.frontier ≡ l → Running (run rules pop r m (next rules pop r l s))
      go ih [] q = ih s h
      go ih (x ∷ xs) q = ih (look rules pop r (pop x xs).0 (pop x xs).1 s) (look_running s h x xs q)

  begun_running : (n : ℕ) (o : Option (ℕ × ℕ × ℕ)) (s : State) → Running s → Running (begun rules pop r n o s)
  unfolding begun seeded
  begun_running n none s h = h
  begun_running n (some t) s h = run_running (3 * n) (seeded t s)
      (with_running true (t.0 ∷ t.1 ∷ t.2 ∷ []) (face t.0 t.1 t.2) s h (λ f. absurd (true_not_false refl f)))

  lay_one_running : (n : ℕ) (s : State) → Running s → Running (lay_one rules pop n r s)
  unfolding lay_one
  lay_one_running n s h = begun_running n (rules.seed_of r s.used) (cleared s) (cleared_running s h)

lay_all_running : {R : Type 0} (rules : Rules R) (pop : Pop) → Keeps pop → (n : ℕ) (rs : List R) (s : State) → Running s → Running (lay_all rules pop n rs s)
unfolding lay_all
lay_all_running rules pop keeps n [] s h = h
lay_all_running rules pop keeps n (r ∷ rs) s h = lay_all_running rules pop keeps n rs (lay_one rules pop n r s) (lay_one_running rules pop keeps r n s h)

pub patch_running : {R : Type 0} (rules : Rules R) (pop : Pop) → Keeps pop → (n : ℕ) (rs : List R) → Running (patch rules pop n rs)
unfolding patch
patch_running rules pop keeps n rs =
    lay_all_running rules pop keeps n rs (blank n) (record { flagged = refl; waits = λ x y m. absurd (omega arith); begins = λ i h. absurd (omega arith) })
