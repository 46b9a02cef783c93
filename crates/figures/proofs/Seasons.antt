-- The theorems about a season: its figures are those of the list of patches entered, in any order but for which of two
-- equally covered ones is named. Assumes nothing.
use mathlib.Core.Path.{◌≡◌, refl, sym, ap, subst, ◌∙◌}
use mathlib.Core.Bool.{Bool, true, false, cond}
use mathlib.Core.Logic.{⊎_elim}
use mathlib.Core.List.{List, [], ◌∷◌, ◌++◌, append_assoc, append-nil}
use Prim.Native.Nat.{ℕ, ◌+◌, ◌*◌, ◌≤◌, ◌<◌}
use native.Mathlib.Omega.{arith}
use borrow.Author.Tests.{eq-eqb, ne_eqb, eqb-true, eqb-false}
use lib.Dec.{eqb}
use lib.ListN.{length, length-append}
use Rattle.fractions.specs.Terms.{lowest}
use Rattle.fractions.proofs.LowestTerms.{lowest_same}
use Rattle.tally.specs.Checks.{max_patches, enterable, sound_tally, Enterable}
use Rattle.tally.specs.Tallies.{better, better_patch, worst_of, summed, with_patch, Added, added_to}
use Rattle.figures.specs.Working.{coverage_of, variance_of, no_figures, sound_figures, figures_of}
use Rattle.figures.specs.Claims.{Additions, Seasons}
use Rattle.figures.specs.Season.{total_over, scanned_of, covered_of, face_count, square_of, worse, EachPatch, none, one, Earliest, Figured, EmptyTally, after}
use Rattle.figures.specs.Season.{entered, PatchesReordered, same, next, swap, then, Alike}
use Rattle.tally.specs.declared.SeasonPatch.{SeasonPatch}
use Rattle.tally.specs.declared.Tally.{Tally}
use Rattle.figures.specs.declared.Figures.{Figures}
use Rattle.tally.proofs.Told.{enterable_told, sound_told}
use Rattle.figures.proofs.Additions.{Accepted, Refused, accepted_or_refused, accepts, stays_sound, one_more_patch}
use Rattle.figures.proofs.Ahead.{Some, each_append, back, better_beats, worse_beats, at_earliest, first, one_more, neither, level, earliest_only}

total_append : (f : SeasonPatch → ℕ) (ps : List SeasonPatch) (p : SeasonPatch) → total_over f (ps ++ (p ∷ [])) ≡ total_over f ps + f p
total_append f [] p = omega arith
total_append f (q ∷ ps) p = let e = total_append f ps p in omega arith

-- a tally holds the sums over a list, and its first best and first worst patch
record Holds (ps : List SeasonPatch) (t : Tally) : Type 0 where
  taken : sound_tally t ≡ true
  patches : t.patches ≡ length ps
  faces : t.faces ≡ total_over face_count ps
  squares : t.face_squares ≡ total_over square_of ps
  scanned : t.scanned ≡ total_over scanned_of ps
  covered : t.covered ≡ total_over covered_of ps
  each : EachPatch Some ps
  best : 0 < length ps → Earliest better ps t.best
  worst : 0 < length ps → Earliest worse ps t.worst

module _ (t : Tally) (e : EmptyTally t) where
  holds_none : Holds [] t
  holds_none =
      let s = (sound_told t e.taken).sums in
      let z = e.patches in
      record {
        taken = e.taken;
        patches = z;
        faces = omega (arith, s.faces);
        squares = omega (arith, s.squares);
        scanned = omega (arith, s.scanned);
        covered = omega (arith, s.covered);
        each = none;
        best = λ l. absurd (omega arith);
        worst = λ l. absurd (omega arith);
      }

no_patches : (ps : List SeasonPatch) → length ps ≡ 0 → ps ≡ []
no_patches [] e = refl
no_patches (p ∷ ps) e = absurd (omega arith)

module _ (ps : List SeasonPatch) (t : Tally) (p : SeasonPatch) (h : Holds ps t) (fine : Enterable p) where
  abbrev more : List SeasonPatch
  more = ps ++ (p ∷ [])

  held : (best worst : SeasonPatch) → sound_tally (summed t p best worst) ≡ true → Earliest better more best → Earliest worse more worst
      → Holds more (summed t p best worst)
  unfolding summed
  held best worst s x y = record {
    taken = s;
    patches = omega (arith, h.patches, length-append ps (p ∷ []));
    faces = omega (arith, h.faces, total_append face_count ps p);
    squares = omega (arith, h.squares, total_append square_of ps p);
    scanned = omega (arith, h.scanned, total_append scanned_of ps p);
    covered = omega (arith, h.covered, total_append covered_of ps p);
    each = each_append ps (p ∷ []) h.each (one fine.some none);
    best = λ l. x;
    worst = λ l. y;
  }

  held_by : (b : Bool) → eqb t.patches 0 ≡ b → sound_tally (cond b (summed t p p p) (summed t p (better_patch t.best p) (worst_of t.worst p))) ≡ true
      → Holds more (cond b (summed t p p p) (summed t p (better_patch t.best p) (worst_of t.worst p)))
  unfolding better_patch worst_of
  held_by true z s =
      let n : ps ≡ [] = no_patches ps (sym h.patches ∙ eqb-true t.patches 0 z) in
      held p p s
      (subst (λ (l : List SeasonPatch). Earliest better (l ++ (p ∷ [])) p) (sym n) (first better better_beats p))
      (subst (λ (l : List SeasonPatch). Earliest worse (l ++ (p ∷ [])) p) (sym n) (first worse worse_beats p))
  held_by false z s =
      let n = eqb-false t.patches 0 z in
      let l : 0 < length ps = omega (arith, h.patches) in
      held (better_patch t.best p) (worst_of t.worst p) s
      (one_more better better_beats ps t.best p h.each fine.some (h.best l) (better p t.best) refl)
      (one_more worse worse_beats ps t.worst p h.each fine.some (h.worst l) (worse p t.worst) refl)

  holds_with : sound_tally (with_patch t p) ≡ true → Holds more (with_patch t p)
  unfolding with_patch
  holds_with s = held_by (eqb t.patches 0) refl s

holds_more : (ps : List SeasonPatch) (t : Tally) (p : SeasonPatch) → Holds ps t → Accepted t p → Holds (ps ++ (p ∷ [])) (added_to t p).tally
holds_more ps t p h a =
    let e = ap (λ (o : Added). o.tally) a.now in
    let s : sound_tally (with_patch t p) ≡ true = subst (λ (u : Tally). sound_tally u ≡ true) e (stays_sound t p a) in
    subst (λ (u : Tally). Holds (ps ++ (p ∷ [])) u) (sym e) (holds_with ps t p h (enterable_told p a.fine) s)

module _ (t : Tally) (p : SeasonPatch) (ps : List SeasonPatch) where
  pub entered_accepted : Accepted t p → entered t (p ∷ ps) ≡ p ∷ entered (added_to t p).tally ps
  unfolding entered
  entered_accepted a = rw (eq-eqb (added_to t p).answer 0 (ap (λ (o : Added). o.answer) a.now))

  entered_refused : Refused t p → entered t (p ∷ ps) ≡ entered (added_to t p).tally ps
  unfolding entered
  entered_refused r = rw (ne_eqb (added_to t p).answer 0 r.why)

holds_after : (calls ps : List SeasonPatch) (t : Tally) → Holds ps t → Holds (ps ++ entered t calls) (after t calls)
unfolding entered after
holds_after [] ps t h = subst (λ (l : List SeasonPatch). Holds l t) (sym (append-nil ps)) h
holds_after (p ∷ calls) ps t h =
    let u = (added_to t p).tally in
    ⊎_elim
    (λ a. subst (λ (l : List SeasonPatch). Holds l (after u calls))
    (append_assoc ps (p ∷ []) (entered u calls) ∙ ap (λ (l : List SeasonPatch). ps ++ l) (sym (entered_accepted t p calls a)))
    (holds_after calls (ps ++ (p ∷ [])) u (holds_more ps t p h a)))
    (λ r. subst (λ (l : List SeasonPatch). Holds l (after u calls))
    (ap (λ (l : List SeasonPatch). ps ++ l) (sym (entered_refused t p calls r)))
    (holds_after calls ps u (subst (λ (v : Tally). Holds ps v) (sym r.kept) h)))
    (accepted_or_refused t p)

module _ (ps : List SeasonPatch) (t : Tally) (h : Holds ps t) where
  figured : 0 < length ps → Figured ps (figures_of t)
  unfolding figures_of sound_figures
  figured l =
      let n : t.patches ≡ 0 → ⊥ = λ z. omega (arith, h.patches) in
      rw (h.taken, ne_eqb t.patches 0 n)
      (record {
        answer = refl;
        patches = h.patches;
        mean = λ i. lowest (h.faces i) (h.patches i);
        variance = λ i. variance_of (h.patches i) (h.faces i) (h.squares i);
        coverage = λ i. lowest (h.covered i) (h.scanned i);
        best = h.best l;
        worst = h.worst l;
        best_coverage = refl;
        worst_coverage = refl;
      })

  unfigured : length ps ≡ 0 → figures_of t ≡ no_figures 21
  unfolding figures_of
  unfigured e = rw (h.taken, eq-eqb t.patches 0 (h.patches ∙ e))

module _ (t : Tally) (e : EmptyTally t) (calls : List SeasonPatch) where
  abbrev list : List SeasonPatch
  list = entered t calls

  holds_list : Holds list (after t calls)
  holds_list = holds_after calls [] t (holds_none t e)

  -- the figures of a tally that began empty and was changed by additions only are those worked out from the list of patches entered
  pub season_figures : 0 < length list → Figured list (figures_of (after t calls))
  season_figures = figured list (after t calls) holds_list

  pub season_empty : length list ≡ 0 → figures_of (after t calls) ≡ no_figures 21
  season_empty = unfigured list (after t calls) holds_list

  -- and 24 never refuses it
  pub season_taken : sound_tally (after t calls) ≡ true
  season_taken = holds_list.taken

  season_some : EachPatch Some list
  season_some = holds_list.each

reordered_length : {ps qs : List SeasonPatch} → PatchesReordered ps qs → length ps ≡ length qs
reordered_length same = refl
reordered_length (next r) = let e = reordered_length r in omega arith
reordered_length swap = refl
reordered_length (then r s) = reordered_length r ∙ reordered_length s

reordered_total : (f : SeasonPatch → ℕ) {ps qs : List SeasonPatch} → PatchesReordered ps qs → total_over f ps ≡ total_over f qs
reordered_total f same = refl
reordered_total f (next r) = let e = reordered_total f r in omega arith
reordered_total f swap = omega arith
reordered_total f (then r s) = reordered_total f r ∙ reordered_total f s

coverage_same : (x y : SeasonPatch) → Some x → Some y → x.covered * y.scanned ≡ y.covered * x.scanned → coverage_of x ≡ coverage_of y
unfolding coverage_of
coverage_same x y sx sy e = lowest_same x.covered x.scanned y.covered y.scanned sx sy e

module _ (ps qs : List SeasonPatch) (f g : Figures) (r : PatchesReordered ps qs) (some : EachPatch Some ps) (some' : EachPatch Some qs) (x : Figured ps f)
    (y : Figured qs g) where
  best_level : f.best.covered * g.best.scanned ≡ g.best.covered * f.best.scanned
  best_level = level f.best g.best (neither better better_beats qs ps g.best f.best (back r) y.best x.best)
      (neither better better_beats ps qs f.best g.best r x.best y.best)

  worst_level : f.worst.covered * g.worst.scanned ≡ g.worst.covered * f.worst.scanned
  worst_level = level f.worst g.worst (neither worse worse_beats ps qs f.worst g.worst r x.worst y.worst)
      (neither worse worse_beats qs ps g.worst f.worst (back r) y.worst x.worst)

  -- a list in another order has the same figures but for which of two equally covered patches is named
  pub reordered_figures : Alike f g
  reordered_figures = record {
    answer = x.answer ∙ sym y.answer;
    patches = x.patches ∙ reordered_length r ∙ sym y.patches;
    mean = x.mean ∙ (λ i. lowest (reordered_total face_count r i) (reordered_length r i)) ∙ sym y.mean;
    variance = x.variance ∙ (λ i. variance_of (reordered_length r i) (reordered_total face_count r i) (reordered_total square_of r i)) ∙ sym y.variance;
    coverage = x.coverage ∙ (λ i. lowest (reordered_total covered_of r i) (reordered_total scanned_of r i)) ∙ sym y.coverage;
    best = best_level;
    worst = worst_level;
    best_coverage = x.best_coverage ∙ coverage_same f.best g.best (at_earliest better better_beats ps f.best x.best some)
        (at_earliest better better_beats qs g.best y.best some') best_level ∙ sym y.best_coverage;
    worst_coverage = x.worst_coverage ∙ coverage_same f.worst g.worst (at_earliest worse worse_beats ps f.worst x.worst some)
        (at_earliest worse worse_beats qs g.worst y.worst some') worst_level ∙ sym y.worst_coverage;
  }

-- two tallies that began empty and were changed by additions only, the same patches entered in any order
pub any_order : (t u : Tally) (a b : List SeasonPatch) → EmptyTally t → EmptyTally u → PatchesReordered (entered t a) (entered u b) → 0 < length (entered t a)
    → Alike (figures_of (after t a)) (figures_of (after u b))
any_order t u a b e d r l =
    let l' : 0 < length (entered u b) = omega (arith, reordered_length r) in
    reordered_figures (entered t a) (entered u b) (figures_of (after t a)) (figures_of (after u b)) r (season_some t e a) (season_some u d b)
    (season_figures t e a l) (season_figures u d b l')

-- patches that 20 lets through are all entered, as long as there is room
pub all_entered : (ps : List SeasonPatch) (t : Tally) → sound_tally t ≡ true → EachPatch (λ p. enterable p ≡ true) ps → t.patches + length ps ≤ max_patches
    → entered t ps ≡ ps
unfolding entered
all_entered [] t s h l = refl
all_entered (p ∷ ps) t s (one x xs) l =
    let a : Accepted t p = accepts t p s x (omega arith) in
    let n = one_more_patch t p a in
    entered_accepted t p ps a ∙ ap (λ (qs : List SeasonPatch). p ∷ qs) (all_entered ps (added_to t p).tally (stays_sound t p a) xs (omega arith))

-- the list settles the figures
pub figured_only : (ps : List SeasonPatch) (f g : Figures) → Figured ps f → Figured ps g → f ≡ g
figured_only ps f g x y =
    let best = earliest_only better ps f.best g.best x.best y.best in
    let worst = earliest_only worse ps f.worst g.worst x.worst y.worst in
    λ i. record {
      answer = (x.answer ∙ sym y.answer) i;
      patches = (x.patches ∙ sym y.patches) i;
      mean = (x.mean ∙ sym y.mean) i;
      variance = (x.variance ∙ sym y.variance) i;
      coverage = (x.coverage ∙ sym y.coverage) i;
      best = best i;
      worst = worst i;
      best_coverage = (x.best_coverage ∙ ap coverage_of best ∙ sym y.best_coverage) i;
      worst_coverage = (x.worst_coverage ∙ ap coverage_of worst ∙ sym y.worst_coverage) i;
    }

pub additions : Additions
additions = record {
  unchanged = λ t p n. ⊎_elim (λ a. absurd (n (ap (λ (o : Added). o.answer) a.now))) (λ r. r.kept) (accepted_or_refused t p);
  taken_again = λ t p z. ⊎_elim (λ a. stays_sound t p a) (λ r. absurd (r.why z)) (accepted_or_refused t p);
}

pub seasons : Seasons
seasons = record {
  figures = λ t calls e. season_figures t e calls;
  only = figured_only;
  empty = λ t calls e. season_empty t e calls;
  taken = λ t calls e. season_taken t e calls;
  any_order = λ t u calls others e d r l. any_order t u calls others e d r l;
  all = all_entered;
}
