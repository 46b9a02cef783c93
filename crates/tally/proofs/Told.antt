-- What the tests of a patch and of a tally tell, and what tells that they pass. Assumes nothing.
use mathlib.Core.Path.{◌≡◌, refl}
use mathlib.Core.Bool.{Bool, true, false, ◌&&◌, ◌||◌}
use Prim.Native.Nat.{ℕ, ◌*◌, ◌≤◌, ◌<◌}
use native.Mathlib.Nat.{mul-le-mul}
use native.Mathlib.Omega.{arith}
use borrow.Author.Tests.{leb-true, le-leb, eqb-true, ne_eqb}
use lib.Dec.{leb, eqb}
use mir.Syntax.{w64}
use mir.Val.{Fits}
use Rattle.tally.specs.Checks.{max_faces, max_scanned, max_patches, enterable, tally_within, sound_tally, Enterable, TallyWithin, TallySound}
use Rattle.tally.specs.declared.SeasonPatch.{SeasonPatch}
use Rattle.tally.specs.declared.Tally.{Tally}

both : (a b : Bool) → a && b ≡ true → (a ≡ true) × (b ≡ true)
both true b h = (refl, h)
both false b h = absurd (let z : ◌≡◌ {A = ℕ} 0 1 = cc in omega arith)

pub product : {a b c d : ℕ} → a ≤ c → b ≤ d → a * b ≤ c * d
product h k = mul-le-mul h k

-- a product of two u32 fits a u64
pub fits64 : {a b : ℕ} → a < 4294967296 → b < 4294967296 → Fits w64 (a * b)
fits64 {a} {b} h k =
    let x : a ≤ 4294967295 = omega arith in
    let y : b ≤ 4294967295 = omega arith in
    record { fits = omega (arith, product x y) }

pub above_none : (m : ℕ) → (m ≡ 0 → ⊥) → 0 < m
above_none m h = omega arith

pub square_some : (m : ℕ) → 0 < m → 0 < m * m
square_some m h = product {a = 1} {b = 1} h h

pub enterable_told : (p : SeasonPatch) → enterable p ≡ true → Enterable p
unfolding enterable
enterable_told p h =
    let a = both (leb 1 p.scanned) _ h in
    let b = both (leb p.scanned max_scanned) _ a.1 in
    let d = both (leb p.covered p.scanned) _ b.1 in
    record { some = leb-true _ _ a.0; few = leb-true _ _ b.0; part = leb-true _ _ d.0; faces = leb-true _ _ d.1 }

pub within_told : (t : Tally) → tally_within t ≡ true → TallyWithin t
unfolding tally_within
within_told t h =
    let a = both (leb t.patches max_patches) _ h in
    let b = both (leb t.faces (t.patches * max_faces)) _ a.1 in
    let d = both (leb t.face_squares (t.patches * (max_faces * max_faces))) _ b.1 in
    let e = both (leb t.scanned (t.patches * max_scanned)) _ d.1 in
    let f = both (leb t.covered (t.patches * max_scanned)) _ e.1 in
    let g = both (leb t.patches t.scanned) _ f.1 in
    record {
      patches = leb-true _ _ a.0;
      faces = leb-true _ _ b.0;
      squares = leb-true _ _ d.0;
      scanned = leb-true _ _ e.0;
      covered = leb-true _ _ f.0;
      points = leb-true _ _ g.0;
      part = leb-true _ _ g.1;
    }

pub within_tells : (t : Tally) → TallyWithin t → tally_within t ≡ true
unfolding tally_within
within_tells t w =
    rw (
      le-leb _ _ w.patches,
      le-leb _ _ w.faces,
      le-leb _ _ w.squares,
      le-leb _ _ w.scanned,
      le-leb _ _ w.covered,
      le-leb _ _
          w.points,
      le-leb _ _ w.part,
    )

ends_told : (t : Tally) (b : Bool) → eqb t.patches 0 ≡ b → b || enterable t.best && enterable t.worst ≡ true → 0 < t.patches → Enterable t.best
    × Enterable t.worst
ends_told t true e h l = absurd (let z = eqb-true t.patches 0 e in omega arith)
ends_told t false e h l =
    let a = both (enterable t.best) (enterable t.worst) h in
    (enterable_told t.best a.0, enterable_told t.worst a.1)

pub sound_told : (t : Tally) → sound_tally t ≡ true → TallySound t
unfolding sound_tally
sound_told t h =
    let a = both (tally_within t) _ h in
    let b = both (leb (t.faces * t.faces) (t.patches * t.face_squares)) _ a.1 in
    record { sums = within_told t a.0; spread = leb-true _ _ b.0; ends = ends_told t (eqb t.patches 0) refl b.1 }

module _ (t : Tally) (w : TallyWithin t) where
  -- the products of the variance are at most 10^18
  pub squares_fit : t.patches * t.face_squares ≤ max_patches * (max_patches * (max_faces * max_faces))
  squares_fit = omega (arith, mul-le-mul w.patches w.squares, mul-le-mul w.patches w.patches)

  pub faces_fit : t.faces * t.faces ≤ max_patches * max_faces * (max_patches * max_faces)
  faces_fit = let h : t.faces ≤ max_patches * max_faces = omega (arith, w.faces, w.patches) in mul-le-mul h h

pub enterable_tells : (p : SeasonPatch) → Enterable p → enterable p ≡ true
unfolding enterable
enterable_tells p e = rw (le-leb _ _ e.some, le-leb _ _ e.few, le-leb _ _ e.part, le-leb _ _ e.faces)

-- of a tally that holds patches
pub sound_tells : (t : Tally) → TallySound t → 0 < t.patches → sound_tally t ≡ true
unfolding sound_tally
sound_tells t s l =
    let n : t.patches ≡ 0 → ⊥ = λ z. omega arith in
    rw (
      within_tells t s.sums,
      le-leb _ _ s.spread,
      ne_eqb t.patches 0 n,
      enterable_tells t.best (s.ends l).0,
      enterable_tells t.worst (s.ends l).1,
    )
