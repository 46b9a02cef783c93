-- An addition is refused and changes nothing, or is accepted; and an accepted one leaves a tally that is taken again.
-- Assumes nothing.
use mathlib.Core.Path.{◌≡◌, refl, sym, ap, subst, ◌∙◌}
use mathlib.Core.Bool.{Bool, true, false, cond}
use mathlib.Core.Logic.{◌⊎◌, inl, inr}
use Prim.Native.Nat.{ℕ, ◌+◌, ◌*◌, ◌-◌, ◌≤◌, ◌<◌}
use native.Mathlib.Nat.{le_of_mul-le-mul_left}
use native.Mathlib.Omega.{arith}
use borrow.Author.Tests.{ltb-true, lt-ltb, leb-true, leb-false, eqb-true, eqb-false}
use lib.Dec.{ltb, leb, eqb}
use Rattle.tally.specs.Checks.{max_patches, max_faces, enterable, sound_tally, Enterable, TallyWithin, TallySound}
use Rattle.tally.specs.Tallies.{better, better_patch, worst_of, summed, with_patch, answering, Added, added_to}
use Rattle.tally.specs.declared.SeasonPatch.{SeasonPatch}
use Rattle.tally.specs.declared.Tally.{Tally}
use Rattle.tally.proofs.Told.{product, enterable_told, sound_told, sound_tells}

pub record Accepted (t : Tally) (p : SeasonPatch) : Type 0 where
  pub taken : sound_tally t ≡ true
  pub fine : enterable p ≡ true
  pub room : t.patches < max_patches
  pub now : added_to t p ≡ answering 0 (with_patch t p)

pub record Refused (t : Tally) (p : SeasonPatch) : Type 0 where
  pub kept : (added_to t p).tally ≡ t
  pub why : (added_to t p).answer ≡ 0 → ⊥

module _ (t : Tally) (p : SeasonPatch) where
  refusal : (n : ℕ) → 0 < n → added_to t p ≡ answering n t → Refused t p
  refusal n l e = record {
    kept = ap (λ (o : Added). o.tally) e;
    why = λ z. let y : (added_to t p).answer ≡ n = ap (λ (o : Added). o.answer) e in omega arith;
  }

  by_tests : (a b d : Bool) → sound_tally t ≡ a → enterable p ≡ b → ltb t.patches max_patches ≡ d → Accepted t p ⊎ Refused t p
  unfolding added_to
  by_tests true true true x y z = inl (record { taken = x; fine = y; room = ltb-true _ _ z; now = rw (x, y, z) })
  by_tests true true false x y z = inr (refusal 19 (omega arith) (rw (x, y, z)))
  by_tests true false d x y z = inr (refusal 20 (omega arith) (rw (x, y)))
  by_tests false b d x y z = inr (refusal 24 (omega arith) (rw x))

  pub accepted_or_refused : Accepted t p ⊎ Refused t p
  accepted_or_refused = by_tests (sound_tally t) (enterable p) (ltb t.patches max_patches) refl refl refl

  -- whatever passes the three tests is accepted
  pub accepts : sound_tally t ≡ true → enterable p ≡ true → t.patches < max_patches → Accepted t p
  unfolding added_to
  accepts x y l = record { taken = x; fine = y; room = l; now = rw (x, y, lt-ltb _ _ l) }

-- twice a product is at most the sum of the squares
twice : (a b : ℕ) → 2 * (a * b) ≤ a * a + b * b
twice a b = either (leb a b) refl where
  rising : (x d : ℕ) → 2 * (x * (x + d)) ≤ x * x + (x + d) * (x + d)
  rising x d = omega arith

  either : (h : Bool) → leb a b ≡ h → 2 * (a * b) ≤ a * a + b * b
  either true h =
      let l = leb-true a b h in
      let e : a + (b - a) ≡ b = omega arith in
      subst (λ (n : ℕ). 2 * (a * n) ≤ a * a + n * n) e (rising a (b - a))
  either false h =
      let l = leb-false a b h in
      let e : b + (a - b) ≡ a = omega arith in
      let r : 2 * (b * a) ≤ b * b + a * a = subst (λ (n : ℕ). 2 * (b * n) ≤ b * b + n * n) e (rising b (a - b)) in
      omega arith

-- the variance of counts with one more is not negative, if it was not before: m patches, the sum s of their counts, the
-- sum q of the squares
spread_more : (m s q f : ℕ) → s ≤ m * max_faces → s * s ≤ m * q → (s + f) * (s + f) ≤ (m + 1) * (q + f * f)
spread_more m s q f some h = either (eqb m 0) refl where
  either : (b : Bool) → eqb m 0 ≡ b → (s + f) * (s + f) ≤ (m + 1) * (q + f * f)
  either true b =
      let z : m ≡ 0 = eqb-true m 0 b in
      let y : s ≡ 0 = omega arith in
      rw (z, y) (omega arith)
  either false b =
      let n = eqb-false m 0 b in
      let l : 0 < m = omega arith in
      let k : m * (2 * (s * f)) ≤ m * (q + m * (f * f)) = omega (arith, twice s (m * f)) in
      let j : 2 * (s * f) ≤ q + m * (f * f) = le_of_mul-le-mul_left k l in
      omega arith

ends_of : (b : Bool) (p q : SeasonPatch) → Enterable p → Enterable q → Enterable (cond b p q)
ends_of true p q x y = x
ends_of false p q x y = y

module _ (t : Tally) (p : SeasonPatch) (s : TallySound t) (e : Enterable p) (l : t.patches < max_patches) where
  more_sums : (best worst : SeasonPatch) → TallyWithin (summed t p best worst)
  unfolding summed
  more_sums best worst =
      let w = s.sums in
      record {
        patches = omega arith;
        faces = omega (arith, w.faces, e.faces);
        squares = omega (arith, w.squares, product e.faces e.faces);
        scanned = omega (arith, w.scanned, e.few);
        covered = omega (arith, w.covered, e.part, e.few);
        points = omega (arith, w.points, e.some);
        part = omega (arith, w.part, e.part);
      }

  more : (best worst : SeasonPatch) → Enterable best → Enterable worst → sound_tally (summed t p best worst) ≡ true
  unfolding summed
  more best worst x y =
      sound_tells (summed t p best worst)
      (record {
        sums = more_sums best worst;
        spread = spread_more t.patches t.faces t.face_squares p.faces s.sums.faces s.spread;
        ends = λ h. (x, y);
      })
      (omega arith)

  kept_by : (b : Bool) → eqb t.patches 0 ≡ b → sound_tally (cond b (summed t p p p) (summed t p (better_patch t.best p) (worst_of t.worst p))) ≡ true
  unfolding better_patch worst_of
  kept_by true z = more p p e e
  kept_by false z =
      let n = eqb-false t.patches 0 z in
      let h = s.ends (omega arith) in
      more (better_patch t.best p) (worst_of t.worst p) (ends_of (better p t.best) p t.best e h.0)
      (ends_of (better t.worst p) p t.worst e h.1)

  with_sound : sound_tally (with_patch t p) ≡ true
  unfolding with_patch
  with_sound = kept_by (eqb t.patches 0) refl

-- an accepted addition never makes a tally that 24 refuses
pub stays_sound : (t : Tally) (p : SeasonPatch) → Accepted t p → sound_tally (added_to t p).tally ≡ true
stays_sound t p a =
    subst (λ (o : Added). sound_tally o.tally ≡ true) (sym a.now)
    (with_sound t p (sound_told t a.taken) (enterable_told p a.fine) a.room)

counted : (b : Bool) (t u : Tally) (n : ℕ) → t.patches ≡ n → u.patches ≡ n → (cond b t u).patches ≡ n
counted true t u n x y = x
counted false t u n x y = y

pub one_more_patch : (t : Tally) (p : SeasonPatch) → Accepted t p → (added_to t p).tally.patches ≡ t.patches + 1
unfolding with_patch summed
one_more_patch t p a =
    ap (λ (o : Added). o.tally.patches) a.now
    ∙ counted (eqb t.patches 0) (summed t p p p) (summed t p (better_patch t.best p) (worst_of t.worst p)) (t.patches + 1) refl refl
