-- A patch's corners, written again, are not refused where there is room. Assumes nothing.
use mathlib.Core.Path.{◌≡◌, refl, ap, ◌∙◌}
use mathlib.Core.Bool.{Bool, true, false, ◌&&◌}
use mathlib.Core.List.{List, ◌++◌}
use Prim.Native.Nat.{ℕ, zero, suc, ◌+◌, ◌*◌, ◌/◌, ◌%◌, ◌≤◌, ◌<◌}
use native.Mathlib.Omega.{arith}
use borrow.Author.Tests.{lt-ltb, le-ltb, eq-eqb}
use lib.Dec.{T, ltb, eqb}
use lib.ListN.{length}
use lib.Ieee.{Float, neg, le}
use Rattle.numbers.specs.Inner.Bounds.{Bounded}
use Rattle.vector.specs.declared.Point3f.{Point3f}
use Rattle.lists.specs.Lists.{up_from}
use Rattle.ranges.specs.Range.{inside, leading, first_outside, farthest}
use Rattle.words.specs.Chunks.{chunks}
use Rattle.words.proofs.Chunks.{chunks_length}
use Rattle.facets.specs.Format.{three, corner_at, patch_corners}
use Rattle.facets.specs.Known.{all_below, NamesPoints}
use Rattle.stl_file.specs.Answers.{stl_outcome}
use Rattle.stl_file.proofs.RoundTrip.{up_length}
use Rattle.stl_file.proofs.Normals.{Near, corner_near}

up_below : (bound i m : ℕ) → i + m ≤ bound → all_below bound (up_from i m) ≡ true
unfolding up_from all_below
up_below bound i zero h = refl
up_below bound i (suc m) h =
    let first : ltb i bound ≡ true = lt-ltb i bound (omega arith) in
    ap (λ (t : Bool). t && all_below bound (up_from (i + 1) m)) first ∙ up_below bound (i + 1) m (omega arith)

-- all of a point's coordinates are inside
inside_is : (x : Float) → Bounded x farthest → inside (neg farthest) farthest x ≡ true
unfolding inside
inside_is x b = (let l = truth (le (neg farthest) x) b.lower in let u = truth (le x farthest) b.upper in rw (l, u))
  where
    truth : (t : Bool) → T t → t ≡ true
    truth true h = refl
    truth false h = absurd h

leading_three : (p : Point3f) (rest : List Float) → Near p → leading (neg farthest) farthest (three p ++ rest) ≡ 3 + leading (neg farthest) farthest rest
unfolding leading
leading_three p rest n =
    let a = inside_is p.x n.x_near in let b = inside_is p.y n.y_near in let c = inside_is p.z n.z_near in rw (a, b, c) (omega arith)

leading_all : (corner : ℕ → Point3f) (i m : ℕ) → ((k : ℕ) → k < i + m → Near (corner k))
    → leading (neg farthest) farthest (chunks (λ (k : ℕ). three (corner k)) i m) ≡ 3 * m
unfolding chunks leading
leading_all corner i zero near = refl
leading_all corner i (suc m) near =
    let first = leading_three (corner i) (chunks (λ (k : ℕ). three (corner k)) (i + 1) m) (near i (omega arith)) in
    let rest = leading_all corner (i + 1) m (λ k h. near k (omega arith)) in
    first ∙ omega arith

module _ (points : List Float) (faces : List ℕ) (threes : length points % 3 ≡ 0) (none : length points / 3 ≤ first_outside farthest points)
    (known : NamesPoints points faces) (few : length faces / 3 ≤ 1000000) where
  abbrev n : ℕ
  n = length faces / 3

  corners_length : length (patch_corners points faces) ≡ 3 * (3 * n)
  unfolding patch_corners
  corners_length = chunks_length (λ (k : ℕ). three (corner_at points faces k)) 3 (λ k. refl) 0 (3 * n)

  corners_inside : first_outside farthest (patch_corners points faces) ≡ 3 * n
  unfolding first_outside patch_corners
  corners_inside =
      let all = leading_all (corner_at points faces) 0 (3 * n) (λ k h. corner_near points faces threes none known k (omega arith)) in
      ap (λ (m : ℕ). m / 3) all ∙ omega arith

  -- THE CORNERS ARE TAKEN AGAIN
  pub again_accepted : (room : ℕ) → 84 + 50 * n ≤ room → stl_outcome (patch_corners points faces) (up_from 0 (3 * n)) room
      ≡ record { answer = 0; detail = 0; length = 84 + 50 * n }
  unfolding stl_outcome
  again_accepted room h =
      let p = corners_length in
      let f = up_length 0 (3 * n) in
      let third : length (up_from 0 (3 * n)) / 3 ≡ n = omega arith in
      let number : length (patch_corners points faces) / 3 ≡ 3 * n = omega arith in
      let a : eqb (length (patch_corners points faces) % 3) 0 ≡ true = eq-eqb (length (patch_corners points faces) % 3) 0 (omega arith) in
      let b : eqb (length (up_from 0 (3 * n)) % 3) 0 ≡ true = eq-eqb (length (up_from 0 (3 * n)) % 3) 0 (omega arith) in
      let c : ltb 1000000 n ≡ false = le-ltb 1000000 n few in
      let d : ltb (3 * n) (3 * n) ≡ false = le-ltb (3 * n) (3 * n) (omega arith) in
      let e : all_below (3 * n) (up_from 0 (3 * n)) ≡ true = up_below (3 * n) 0 (3 * n) (omega arith) in
      let g : ltb room (84 + 50 * n) ≡ false = le-ltb room (84 + 50 * n) h in
      rw (a, b, third, number, corners_inside, c, d, e, g)
