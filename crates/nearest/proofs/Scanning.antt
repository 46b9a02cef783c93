-- Scanning a list, and leaving out what is farther than the best. Assumes nothing.
use mathlib.Core.Path.{◌≡◌, refl, sym, ap, ◌∙◌, subst, subst⁻¹}
use mathlib.Core.Bool.{Bool, true, false}
use mathlib.Core.List.{List, [], ◌∷◌}
use Prim.Native.Nat.{ℕ, suc, ◌+◌, ◌≤◌, ◌<◌}
use native.Mathlib.Omega.{arith}
use lib.Dec.{T, ltb}
use lib.Ieee.{Float, binary32, fits, lt, le}
use lib.ListN.{length, get_or, drop, drop_of_length-le}
use lib.Seq.{drop-cons}
use Rattle.lists.specs.Members.{In}
use Rattle.lists.proofs.Members.{in_head}
use Rattle.numbers.specs.Root.{root}
use Rattle.numbers.proofs.OrderLaws.{lt_le, le_not_lt, lt_le_trans}
use Rattle.vector.specs.Vector.{squared, distance}
use Rattle.vector.specs.declared.Point3f.{Point3f}
use Rattle.vector.proofs.Distances.{squared_fits, distance_is}
use Rattle.points.specs.Points.{point_at}
use Rattle.bounds.specs.Inner.Within.{Limit}
use Rattle.nearest.specs.declared.Best.{Best}
use Rattle.nearest.specs.Scan.{Near, length_to}
use Rattle.nearest.specs.Parts.{closer, scanned, Length, near_of_best, BestLimited, KeepsBest}
use Rattle.nearest.specs.Least.{AllFinite}
use Rattle.nearest.proofs.Lengths.{distance_length}

true_of : (b : Bool) → T b → b ≡ true
true_of true h = refl
true_of false h = absurd h

false_of : (b : Bool) → (T b → ⊥) → b ≡ false
false_of true h = absurd (h tt)
false_of false h = refl

-- ---- one point
kept : (best : Near) (d : Float) (number : ℕ) → T (lt best.distance d) → closer best d number ≡ best
unfolding closer
kept best d number h =
    rw (false_of (lt d best.distance) (λ k. le_not_lt best.distance d (lt_le best.distance d h) k), true_of (lt best.distance d) h)

-- a square above the limit is that of a farther point
farther : (best : Best) (p spot : Point3f) → BestLimited best → T (lt best.limit (squared p spot)) → T (lt (root best.square) (distance p spot))
farther best p spot lim h = subst⁻¹ (λ (z : Float). T (lt (root best.square) z)) (distance_is p spot) (lim.above (squared p spot) (squared_fits p spot) h)

pub passed : (best : Best) (p spot : Point3f) (number : ℕ) {s : Float} → BestLimited best → s ≡ squared p spot → lt best.limit s ≡ true
    → KeepsBest best (closer (near_of_best best) (distance p spot) number)
passed best p spot number lim e h = record {
  found_is = sym (kept (near_of_best best) (distance p spot) number
      (farther best p spot lim (subst⁻¹ T (ap (λ (z : Float). lt best.limit z) (sym e) ∙ h) tt)));
  limited = lim;
}

-- the point's square, as the next best one
pub now_limited : (p spot : Point3f) (number : ℕ) {s l : Float} → s ≡ squared p spot → Limit (root s) l → BestLimited (record {
  square =
      s;
  number = number;
  limit = l;
})
now_limited p spot number e lim = record { is_f32 = subst⁻¹ (λ (z : Float). T (fits binary32 z)) e (squared_fits p spot); above = lim }

-- the best one's square is above the limit of another
pub nearer_taken : (best other : Best) → BestLimited best → BestLimited other → lt other.limit best.square ≡ true
    → KeepsBest other (closer (near_of_best best) (root other.square) other.number)
unfolding closer
nearer_taken best other lb lo h = record {
  found_is = rw (true_of (lt (root other.square) (root best.square)) (lo.above best.square lb.is_f32 (subst⁻¹ T h tt)));
  limited = lo;
}

-- the same of the distance
pub at_distance : (best : Best) (p spot : Point3f) (number : ℕ) {s : Float} {r : Best} → s ≡ squared p spot
    → KeepsBest r (closer (near_of_best best) (root s) number) → KeepsBest r (closer (near_of_best best) (distance p spot) number)
at_distance best p spot number {s} {r} e k = subst (λ (z : Float). KeepsBest r (closer (near_of_best best) z number)) (ap root e ∙ sym (distance_is p spot)) k

-- ---- two by their roots
module _ (best other : Best) (lb : BestLimited best) (lo : BestLimited other) {k d : Float} (ek : k ≡ root best.square) (ed : d ≡ root other.square) where
  both : (b : Bool) → (lt d k ≡ b → lt (root other.square) (root best.square) ≡ b)
  both b h = ap (λ (z : Float). lt z (root best.square)) (sym ed) ∙ ap (λ (z : Float). lt d z) (sym ek) ∙ h

  back : (b : Bool) → (lt k d ≡ b → lt (root best.square) (root other.square) ≡ b)
  back b h = ap (λ (z : Float). lt z (root other.square)) (sym ek) ∙ ap (λ (z : Float). lt k z) (sym ed) ∙ h

  pub root_taken : lt d k ≡ true → KeepsBest other (closer (near_of_best best) (root other.square) other.number)
  unfolding closer
  root_taken h = record { found_is = rw (both true h); limited = lo }

  pub root_left : lt d k ≡ false → lt k d ≡ true → KeepsBest best (closer (near_of_best best) (root other.square) other.number)
  unfolding closer
  root_left h g = record { found_is = rw (both false h, back true g); limited = lb }

  pub lower_taken : lt d k ≡ false → lt k d ≡ false → ltb other.number best.number ≡ true
      → KeepsBest other (closer (near_of_best best) (root other.square) other.number)
  unfolding closer
  lower_taken h g m = record { found_is = rw (both false h, back false g, m); limited = lo }

  pub higher_left : lt d k ≡ false → lt k d ≡ false → ltb other.number best.number ≡ false
      → KeepsBest best (closer (near_of_best best) (root other.square) other.number)
  unfolding closer
  higher_left h g m = record { found_is = rw (both false h, back false g, m); limited = lb }

-- ---- the loop: what is left leads to the whole
pub record Left (key : ℕ → Float) (xs : List ℕ) (best : Best) (i : ℕ) (now : Best) : Type 0 where
  pub most : i ≤ length xs
  pub same : scanned key (drop i xs) (near_of_best now) ≡ scanned key xs (near_of_best best)
  pub limited : BestLimited now

pub left_start : (key : ℕ → Float) (xs : List ℕ) (best : Best) → BestLimited best → Left key xs best 0 best
left_start key xs best lim = record { most = omega arith; same = refl; limited = lim }

module _ (key : ℕ → Float) {xs : List ℕ} {best : Best} {i : ℕ} {now : Best} where
  pub left_step : {d : Float} {r : Best} → Left key xs best i now → i < length xs → d ≡ key (get_or xs i 0)
      → KeepsBest r (closer (near_of_best now) d (get_or xs i 0)) → Left key xs best (i + 1) r
  unfolding scanned
  left_step {d} {r} l h ed k =
      let e : suc i ≡ i + 1 = omega arith in
      record {
        most = omega arith;
        same = ap (λ (z : Near). scanned key (drop (i + 1) xs) z) (k.found_is ∙ ap (λ (z : Float). closer (near_of_best now) z (get_or xs i 0)) ed)
            ∙ ap (λ (n : ℕ). scanned key (drop n xs) (closer (near_of_best now) (key (get_or xs i 0)) (get_or xs i 0))) (sym e)
            ∙ ap (λ (z : List ℕ). scanned key z (near_of_best now)) (sym (drop-cons xs i 0 h)) ∙ l.same;
        limited = k.limited;
      }

  pub left_end : Left key xs best i now → length xs ≤ i → KeepsBest now (scanned key xs (near_of_best best))
  unfolding scanned
  left_end l h = record {
    found_is = sym (ap (λ (z : List ℕ). scanned key z (near_of_best now)) (drop_of_length-le xs {i = i} h)) ∙ l.same;
    limited = l.limited;
  }

-- ---- what is farther than the best changes nothing
all_kept : (key : ℕ → Float) (xs : List ℕ) (best : Near) → ((v : ℕ) → In v xs → T (lt best.distance (key v))) → best ≡ scanned key xs best
unfolding scanned
all_kept key [] best h = refl
all_kept key (x ∷ xs) best h =
    all_kept key xs best (λ v i. h v (omega (arith, i))) ∙ ap (λ (z : Near). scanned key xs z) (sym (kept best (key x) x (h x (in_head x xs))))

-- a number above the limit that no square is below
pub beyond : (points : List Float) (spot : Point3f) (xs : List ℕ) (best : Best) → BestLimited best → (q : Float) → lt best.limit q ≡ true
    → ((v : ℕ) → In v xs → T (le q (squared (point_at points v) spot))) → KeepsBest best (scanned (length_to points spot) xs (near_of_best best))
beyond points spot xs best lim q e h = record {
  found_is = all_kept (length_to points spot) xs (near_of_best best)
      (λ v i. farther best (point_at points v) spot lim (lt_le_trans best.limit q (squared (point_at points v) spot) (subst⁻¹ T e tt) (h v i)));
  limited = lim;
}

pub lengths : {points : List Float} {spot : Point3f} {xs : List ℕ} → AllFinite points spot xs → (v : ℕ) → In v xs → Length (length_to points spot v)
lengths {points} {spot} f v i = distance_length (point_at points v) spot (f.all_finite v i) f.spot_finite
