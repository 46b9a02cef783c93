-- An answer of 0: the checks let the cloud pass, what was found fits and comes back, and its faces stand in front of
-- the slice. Assumes nothing.
use Prim.Native.Nat.{ℕ, ◌*◌, ◌/◌, ◌≤◌, ◌<◌}
use mathlib.Core.Path.{◌≡◌, refl, sym, ap, ◌∙◌}
use mathlib.Core.Bool.{Bool, true, false, cond}
use mathlib.Core.List.{List, [], ◌∷◌, ◌++◌}
use native.Mathlib.Omega.{arith}
use lib.Dec.{eqb, ltb}
use lib.ListN.{length, drop}
use lib.Seq.{take_all}
use lib.Ieee.{Float}
use borrow.Author.Tests.{eq-eqb, ltb-false, eqb-true, eqb-false}
use Rattle.domain.specs.Refusals.{reconstruct_refusal}
use Rattle.settings.specs.declared.BallPivotingConfig.{BallPivotingConfig}
use Rattle.domain.specs.declared.Refusal.{Refusal}
use Rattle.lists.specs.Lists.{any}
use Rattle.patch.specs.Lay.{Face, State, seeds_of}
use Rattle.patch.specs.Shape.{touches}
use Rattle.patch.specs.Fair.{Shaped}
use Rattle.patch.specs.View.{flat, written}
use Rattle.ball_pivoting.specs.Reconstruct.{Found, point_count, found, radii_of, laid_of, laid, reason, reconstructed, delivered, accepted, refused}
use Rattle.ball_pivoting.specs.Reconstruct.{faces_after}
use Rattle.ball_pivoting.specs.Outcome.{faces_in, Returned}
use Rattle.ball_pivoting.specs.Unsplit.{NoTriangle}
use Rattle.ball_pivoting.specs.declared.Patch.{Patch}
use Rattle.ball_pivoting.proofs.Reasons.{not_zero, reason_is}
use Rattle.ball_pivoting.proofs.Found.{found_laid, shape_of, touched_inside}

-- ---- what is found comes back, and fits
module _ (why : ℕ) (named : NoTriangle why) (f : Found) (rs : List Float) (room : ℕ) where
  by_fit : (over : Bool) → ltb (room / 3) (length f.faces) ≡ over → (p : Patch) → p ≡ cond over (refused 9 0) (accepted f rs) → p.answer ≡ 0
      → (p ≡ accepted f rs) × (3 * length f.faces ≤ room)
  unfolding refused
  by_fit true e p is good = absurd (let k : 9 ≡ 0 = sym (ap (λ (q : Patch). q.answer) is) ∙ good in omega arith)
  by_fit false e p is good = (is, let fit = ltb-false (room / 3) (length f.faces) e in omega arith)

  by_some : (none : Bool) → (p : Patch) → p ≡ cond none (refused why 0) (cond (ltb (room / 3) (length f.faces)) (refused 9 0) (accepted f rs)) → p.answer
      ≡ 0
      → (p ≡ accepted f rs) × (3 * length f.faces ≤ room)
  unfolding refused
  by_some true p is good = absurd (not_zero why named (sym (ap (λ (q : Patch). q.answer) is) ∙ good))
  by_some false p is good = by_fit (ltb (room / 3) (length f.faces)) refl p is good

  pub delivered_fits : (p : Patch) → p ≡ delivered why f rs room → p.answer ≡ 0 → (p ≡ accepted f rs) × (3 * length f.faces ≤ room)
  unfolding delivered
  delivered_fits p is good = by_some (eqb (length f.faces) 0) p is good

module _ (points normals : List Float) (c : BallPivotingConfig) (room words floats : ℕ) where
  by_checks : (passed : Bool) (r : Refusal) → eqb r.answer 0 ≡ passed → (p : Patch) → p
      ≡ cond passed (delivered (reason c points) (found c points) (radii_of c points) room) (refused r.answer r.detail) → p.answer ≡ 0
      → (r.answer ≡ 0) × ((p ≡ accepted (found c points) (radii_of c points)) × (3 * length (found c points).faces ≤ room))
  unfolding refused
  by_checks true r e p is good =
      (eqb-true r.answer 0 e, delivered_fits (reason c points) (reason_is c points) (found c points) (radii_of c points) room p is good)
  by_checks false r e p is good = absurd (eqb-false r.answer 0 e (sym (ap (λ (q : Patch). q.answer) is) ∙ good))

  pub answered_zero : (p : Patch) → p ≡ reconstructed points normals c room words floats → p.answer ≡ 0
      → ((reconstruct_refusal points normals c words floats).answer ≡ 0)
      × ((p ≡ accepted (found c points) (radii_of c points)) × (3 * length (found c points).faces ≤ room))
  unfolding reconstructed
  answered_zero p is good = by_checks (eqb (reconstruct_refusal points normals c words floats).answer 0)
      (reconstruct_refusal points normals c words floats) refl p is good

-- ---- the faces in front of the slice
faces_in_flat : (fs : List Face) (rest : List ℕ) → faces_in (length fs) (flat fs ++ rest) ≡ fs
unfolding faces_in flat
faces_in_flat [] rest = refl
faces_in_flat (f ∷ fs) rest = ap (λ (l : List Face). f ∷ l) (faces_in_flat fs rest)

faces_in_written : (fs : List Face) (slice : List ℕ) → 3 * length fs ≤ length slice → faces_in (length fs) (written fs slice) ≡ fs
unfolding written
faces_in_written fs slice h =
    let k : length fs ≤ length slice / 3 = omega arith in
    rw (take_all (length slice / 3) fs k) (faces_in_flat fs (drop (length (flat fs)) slice))

-- ---- the one claim, of what comes back
returned : (n : ℕ) (s : State) (fs : List Face) (F S looks pivots : ℕ) → fs ≡ s.faces → F ≡ length s.faces → S ≡ seeds_of s → looks ≡ s.looks → pivots
    ≡ s.pivots
    → Shaped s → ((x : ℕ) → any (touches x) s.faces ≡ true → x < n) → Returned n s fs F S looks pivots
returned n s fs F S looks pivots e m k l v h within = record {
  faces_are = e;
  number_is = m;
  seeds_are = k;
  looks_are = l;
  pivots_are = v;
  shape = rw (e, m, k, l, v) h;
  inside = rw e within;
}

module _ (c : BallPivotingConfig) (points : List Float) (faces : List ℕ) (p : Patch) (faces' : List ℕ) where
  pub claimed : p ≡ delivered (reason c points) (found c points) (radii_of c points) (length faces) → faces' ≡ faces_after p (found c points) faces → p.answer
      ≡ 0 → 0 < p.radii_count
      → Returned (point_count points) (laid_of c points) (faces_in p.faces faces') p.faces p.seeds p.looks p.pivots
  unfolding accepted faces_after laid
  claimed is after good some =
      let d = delivered_fits (reason c points) (reason_is c points) (found c points) (radii_of c points) (length faces) p is good in
      let there : radii_of c points ≡ [] → ⊥ = λ q. omega (arith, some, ap (λ (q : Patch). q.radii_count) d.0, ap length q) in
      let f : found c points ≡ laid (laid_of c points) = found_laid c points (radii_of c points) refl there in
      let number : p.faces ≡ length (laid_of c points).faces = ap (λ (q : Patch). q.faces) d.0 ∙ ap (λ (g : Found). length g.faces) f in
      let stored : faces' ≡ written (found c points).faces faces = rw (eq-eqb p.answer 0 good) at after in
      let front : faces_in p.faces faces' ≡ (laid_of c points).faces =
      ap (λ (k : ℕ). faces_in k faces') (ap (λ (q : Patch). q.faces) d.0) ∙ ap (faces_in (length (found c points).faces)) stored
      ∙ faces_in_written (found c points).faces faces d.1 ∙ ap (λ (g : Found). g.faces) f in
      returned (point_count points) (laid_of c points) (faces_in p.faces faces') p.faces p.seeds p.looks p.pivots front number
      (ap (λ (q : Patch). q.seeds) d.0 ∙ ap (λ (g : Found). g.seeds) f)
      (ap (λ (q : Patch). q.looks) d.0 ∙ ap (λ (g : Found). g.looks) f)
      (ap (λ (q : Patch). q.pivots) d.0 ∙ ap (λ (g : Found). g.pivots) f)
      (shape_of c points) (touched_inside c points)
