-- The points' lines, line by line, as the loop that counts them meets them. Assumes nothing.
use mathlib.Core.Path.{◌≡◌, refl, sym, ap, ◌∙◌}
use mathlib.Core.List.{List, [], ◌∷◌}
use Prim.Native.Nat.{ℕ, zero, suc, ◌+◌, ◌-◌, ◌≤◌, ◌<◌}
use native.Mathlib.Omega.{arith}
use native.Mathlib.Nat.{zero-add, add-zero}
use lib.ListN.{length, drop, length-drop}
use Rattle.numerals.specs.Format.{Parsed, parsed, malformed}
use Rattle.cloud_lines.specs.Format.{point_fields}
use Rattle.cloud.specs.Format.{PointLines, good, wrong, point_ahead, lines_of_points, body}
use Rattle.cloud.specs.Answers.{counted}
use Rattle.cloud_lines.specs.declared.line.Point.{Point}
use Rattle.std.specs.Prelude.{Result, Ok, Err}
use Rattle.numerals.specs.declared.MalformedLine.{MalformedLine}
use Rattle.numerals.proofs.Rows.{Run, From, from_start, from_end, from_wrong, from_next}
use Rattle.cloud_lines.proofs.Shorter.{point_shorter}

pub lines_none : (fuel : ℕ) → lines_of_points fuel [] ≡ good []
unfolding lines_of_points
lines_none zero = refl
lines_none (suc fuel) = refl

pub lines_some : (fuel b : ℕ) (bs : List ℕ) → lines_of_points (suc fuel) (b ∷ bs)
    ≡ elim (point_fields (b ∷ bs)) [ parsed p rest ↦ point_ahead p (lines_of_points fuel rest) | malformed ↦ wrong 1 ]
unfolding lines_of_points
lines_some fuel b bs = refl

-- the points' lines as a run of lines
abbrev pub points_run : Run Point PointLines
points_run =
    record {
      line = point_fields;
      lines = lines_of_points;
      none = good [];
      failed = wrong 1;
      ahead = point_ahead;
      lines_none = lines_none;
      lines_some = lines_some;
      shorter = point_shorter;
    }

pub body_start : (s : List ℕ) (at : ℕ) → From points_run s at (body (drop at s))
unfolding body
body_start = from_start points_run

-- good lines behind a point that was read
pub ahead_good : (p : Point) (l : PointLines) (ps : List Point) → good ps ≡ point_ahead p l → (qs : List Point) × ((l ≡ good qs) × (ps ≡ p ∷ qs))
unfolding point_ahead
ahead_good p (good qs) ps e = (qs, (refl, cc))
ahead_good p (wrong line) ps e = let z : ◌≡◌ {A = ℕ} 0 1 = cc in absurd (omega arith)

-- ---- counting
abbrev lines : ℕ → Result ℕ MalformedLine
lines n = Ok n

abbrev failed : ℕ → Result ℕ MalformedLine
failed line = Err (record { line = line })

-- k lines, and then these
abbrev onward : ℕ → PointLines → Result ℕ MalformedLine
onward k (good ps) = lines (k + length ps)
onward k (wrong line) = failed (k + line)

onward_none : (l : PointLines) → onward 0 l ≡ counted l
unfolding counted
onward_none (good ps) = ap lines (zero-add (length ps))
onward_none (wrong line) = ap failed (zero-add line)

onward_ahead : (k : ℕ) (p : Point) (l : PointLines) → onward k (point_ahead p l) ≡ onward (k + 1) l
unfolding point_ahead
onward_ahead k p (good ps) = let e : k + suc (length ps) ≡ k + 1 + length ps = omega arith in ap lines e
onward_ahead k p (wrong line) = let e : k + suc line ≡ k + 1 + line = omega arith in ap failed e

-- k lines were read up to a place, and these are left
pub record Counting (s : List ℕ) (from k at : ℕ) : Type 0 where
  pub left : PointLines
  pub source : From points_run s at left
  pub same : counted (body (drop from s)) ≡ onward k left
  pub few : k + (length s - at) ≤ length s

pub counting_start : (s : List ℕ) (from : ℕ) → Counting s from 0 from
counting_start s from = record { left = body (drop from s); source = body_start s from; same = sym (onward_none (body (drop from s))); few = omega arith }

module _ (s : List ℕ) (from k at : ℕ) (c : Counting s from k at) where
  pub counting_end : length s ≤ at → Ok k ≡ counted (body (drop from s))
  counting_end h = sym (c.same ∙ ap (onward k) (from_end points_run s at c.left c.source h) ∙ ap lines (add-zero k))

  pub counting_wrong : at < length s → point_fields (drop at s) ≡ malformed → Err (record { line = k + 1 }) ≡ counted (body (drop from s))
  counting_wrong h e = sym (c.same ∙ ap (onward k) (from_wrong points_run s at c.left c.source h e))

  pub counting_next : at < length s → (p : Point) (next : ℕ) → point_fields (drop at s) ≡ parsed p (drop next s) → Counting s from (k + 1) next
  counting_next h p next e =
      let n = from_next points_run s at c.left c.source h p next e in
      let short = point_shorter s at next p e in
      let few = c.few in
      record { left = n.0; source = n.1.1; same = c.same ∙ ap (onward k) n.1.0 ∙ onward_ahead k p n.0; few = omega arith }

-- ---- what a count says of the lines
pub counted_good : (l : PointLines) (n : ℕ) → counted l ≡ Ok n → (ps : List Point) × ((l ≡ good ps) × (length ps ≡ n))
unfolding counted
counted_good (good ps) n e = (ps, (refl, cc))
counted_good (wrong line) n e = let z : ◌≡◌ {A = ℕ} 0 1 = cc in absurd (omega arith)

pub counted_wrong : (l : PointLines) (e : MalformedLine) → counted l ≡ Err e → l ≡ wrong e.line
unfolding counted
counted_wrong (good ps) n e = let z : ◌≡◌ {A = ℕ} 0 1 = cc in absurd (omega arith)
counted_wrong (wrong line) n e = cc

-- a malformed line is one of at most as many as there are bytes
ahead_within : (fuel n : ℕ) (p : Point) (l : PointLines) → ((k : ℕ) → l ≡ wrong k → k ≤ fuel) → point_ahead p l ≡ wrong n → n ≤ suc fuel
unfolding point_ahead
ahead_within fuel n p (good ps) h q = let z : ◌≡◌ {A = ℕ} 0 1 = cc in absurd (omega arith)
ahead_within fuel n p (wrong k) h q = let le = h k refl in let e : suc k ≡ n = cc in omega arith

lines_within : (fuel : ℕ) (bs : List ℕ) (n : ℕ) → lines_of_points fuel bs ≡ wrong n → n ≤ fuel
unfolding lines_of_points
lines_within zero bs n e = let z : ◌≡◌ {A = ℕ} 0 1 = cc in absurd (omega arith)
lines_within (suc fuel) [] n e = let z : ◌≡◌ {A = ℕ} 0 1 = cc in absurd (omega arith)
lines_within (suc fuel) (b ∷ bs) n e = go (point_fields (b ∷ bs)) (λ rest k. lines_within fuel rest k) e
  where
    go : (q : Parsed Point) → ((rest : List ℕ) (k : ℕ) → lines_of_points fuel rest ≡ wrong k → k ≤ fuel)
        → elim q [ parsed p rest ↦ point_ahead p (lines_of_points fuel rest) | malformed ↦ wrong 1 ] ≡ wrong n → n ≤ suc fuel
    go (parsed p rest) h q = ahead_within fuel n p (lines_of_points fuel rest) (h rest) q
    go malformed h q = let e : 1 ≡ n = cc in omega arith

pub body_within : (s : List ℕ) (from n : ℕ) → body (drop from s) ≡ wrong n → n ≤ length s
unfolding body
body_within s from n e = let h = lines_within (length (drop from s)) (drop from s) n e in let len = length-drop from s in omega arith
