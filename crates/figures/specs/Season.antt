-- A season as a list of patches: the figures worked out from the list, and what the theorems say. Definitions only.
use Rattle.std.specs.Prelude.{◌≡◌, Bool, true, false, cond, List, [], ◌∷◌, ◌++◌, ℕ, ◌+◌, ◌*◌, eqb, length}
use Rattle.fractions.specs.Terms.{lowest}
use Rattle.tally.specs.declared.SeasonPatch.{SeasonPatch}
use Rattle.tally.specs.declared.Tally.{Tally}
use Rattle.figures.specs.declared.Figures.{Figures}
use Rattle.tally.specs.Checks.{sound_tally}
use Rattle.tally.specs.Tallies.{better, added_to}
use Rattle.figures.specs.Working.{coverage_of, variance_of}

-- the sum of something over a list of patches
abbrev pub total_over : (SeasonPatch → ℕ) → List SeasonPatch → ℕ
total_over f [] = 0
total_over f (p ∷ ps) = f p + total_over f ps

abbrev pub scanned_of : SeasonPatch → ℕ
scanned_of p = p.scanned

abbrev pub covered_of : SeasonPatch → ℕ
covered_of p = p.covered

abbrev pub face_count : SeasonPatch → ℕ
face_count p = p.faces

abbrev pub square_of : SeasonPatch → ℕ
square_of p = p.faces * p.faces

-- whether a patch is worse covered than another
abbrev pub worse : SeasonPatch → SeasonPatch → Bool
worse a b = better b a

-- every patch of a list
pub data EachPatch (P : SeasonPatch → Type 0) : List SeasonPatch → Type 0 where
  none : EachPatch P []
  one : {p : SeasonPatch} {ps : List SeasonPatch} → P p → EachPatch P ps → EachPatch P (p ∷ ps)

-- x stands in the list, beats all before it, and none after it beats x: of those that none beats, the earliest
pub record Earliest (beats : SeasonPatch → SeasonPatch → Bool) (ps : List SeasonPatch) (x : SeasonPatch) : Type 0 where
  pub before : List SeasonPatch
  pub after : List SeasonPatch
  pub place : ps ≡ before ++ (x ∷ after)
  pub ahead : EachPatch (λ p. beats x p ≡ true) before
  pub unbeaten : EachPatch (λ p. beats p x ≡ false) after

-- the figures of a season, worked out from the list of its patches
pub record Figured (ps : List SeasonPatch) (f : Figures) : Type 0 where
  pub answer : f.answer ≡ 0
  pub patches : f.patches ≡ length ps
  pub mean : f.mean ≡ lowest (total_over face_count ps) (length ps)
  pub variance : f.variance ≡ variance_of (length ps) (total_over face_count ps) (total_over square_of ps)
  pub coverage : f.coverage ≡ lowest (total_over covered_of ps) (total_over scanned_of ps)
  pub best : Earliest better ps f.best
  pub worst : Earliest worse ps f.worst
  pub best_coverage : f.best_coverage ≡ coverage_of f.best
  pub worst_coverage : f.worst_coverage ≡ coverage_of f.worst

-- a tally without patches: its best and worst may be anything
pub record EmptyTally (t : Tally) : Type 0 where
  pub patches : t.patches ≡ 0
  pub taken : sound_tally t ≡ true

-- the tally after additions in turn, refused ones among them
unfoldable pub after : Tally → List SeasonPatch → Tally
after t [] = t
after t (p ∷ ps) = after (added_to t p).tally ps

-- those that were accepted
unfoldable pub entered : Tally → List SeasonPatch → List SeasonPatch
entered t [] = []
entered t (p ∷ ps) =
    let rest = entered (added_to t p).tally ps in
    cond (eqb (added_to t p).answer 0) (p ∷ rest) rest

-- the same patches in another order
pub data PatchesReordered : List SeasonPatch → List SeasonPatch → Type 0 where
  same : {ps : List SeasonPatch} → PatchesReordered ps ps
  next : {p : SeasonPatch} {ps qs : List SeasonPatch} → PatchesReordered ps qs → PatchesReordered (p ∷ ps) (p ∷ qs)
  swap : {p q : SeasonPatch} {ps : List SeasonPatch} → PatchesReordered (p ∷ (q ∷ ps)) (q ∷ (p ∷ ps))
  then : {ps qs rs : List SeasonPatch} → PatchesReordered ps qs → PatchesReordered qs rs → PatchesReordered ps rs

-- the same figures but for which of two equally covered patches is named
pub record Alike (f g : Figures) : Type 0 where
  pub answer : f.answer ≡ g.answer
  pub patches : f.patches ≡ g.patches
  pub mean : f.mean ≡ g.mean
  pub variance : f.variance ≡ g.variance
  pub coverage : f.coverage ≡ g.coverage
  pub best : f.best.covered * g.best.scanned ≡ g.best.covered * f.best.scanned
  pub worst : f.worst.covered * g.worst.scanned ≡ g.worst.covered * f.worst.scanned
  pub best_coverage : f.best_coverage ≡ g.best_coverage
  pub worst_coverage : f.worst_coverage ≡ g.worst_coverage
