-- Laws of what the reader answers: from what its passes found to its contract. Assumes nothing.
use mathlib.Core.Path.{◌≡◌, sym, ap, ◌∙◌}
use mathlib.Core.Bool.{true, false}
use mathlib.Core.List.{List, map}
use Prim.Native.Nat.{ℕ, ◌+◌, ◌*◌, ◌/◌, ◌≤◌, ◌<◌}
use native.Mathlib.Numerals.{add-one}
use native.Mathlib.Omega.{arith}
use borrow.Author.Tests.{le-leb, lt-leb}
use lib.Dec.{leb}
use lib.ListN.{length, drop}
use lib.Ieee.{Float}
use Rattle.numerals.specs.Format.{Parsed, parsed, malformed}
use Rattle.cloud_lines.specs.Format.{field}
use Rattle.cloud.specs.Format.{PointLines, good, wrong, body, File, malformed_line, under, file}
use Rattle.cloud.specs.Answers.{Outcome, accepted, refused, outcome_of, outcome, read_of, coordinates_of, over_front, points_after, Answered}
use Rattle.cloud_lines.specs.declared.line.Point.{Point}
use Rattle.cloud.specs.declared.CloudRead.{CloudRead}

-- ---- from an outcome to the contract
pub answer_refused : (o : Outcome) (a d : ℕ) (points normals : List Float) (r : CloudRead) → o ≡ refused a d → r ≡ read_of (refused a d)
    → Answered o points normals r points normals
unfolding points_after
answer_refused o a d points normals r e t = record {
  answer = t ∙ ap read_of (sym e);
  points_hold = ap (λ (p : Outcome). points_after (λ q. q.position) p points) (sym e);
  normals_hold = ap (λ (p : Outcome). points_after (λ q. q.normal) p normals) (sym e);
}

pub answer_accepted : (o : Outcome) (radius : Float) (ps : List Point) (points normals : List Float) (r : CloudRead) (points' normals' : List Float) → o
    ≡ accepted radius ps → r ≡ read_of (accepted radius ps)
    → points' ≡ over_front (coordinates_of (map (λ q. q.position) ps)) points → normals' ≡ over_front (coordinates_of (map (λ q. q.normal) ps)) normals
    → Answered o points normals r points' normals'
unfolding points_after
answer_accepted o radius ps points normals r points' normals' e t hp hn = record {
  answer = t ∙ ap read_of (sym e);
  points_hold = hp ∙ ap (λ (p : Outcome). points_after (λ q. q.position) p points) (sym e);
  normals_hold = hn ∙ ap (λ (p : Outcome). points_after (λ q. q.normal) p normals) (sym e);
}

-- ---- the outcome, by what the first pass found
module _ (p n : ℕ) (radius : Float) (l : PointLines) where
  pub outcome_wrong : (line : ℕ) → l ≡ wrong line → outcome_of p n (under radius l) ≡ refused 10 (line + 1)
  unfolding outcome_of under
  outcome_wrong line e = rw (e, add-one line)

  module _ (ps : List Point) (e : l ≡ good ps) where
    pub outcome_fits : length ps ≤ p / 3 → length ps ≤ n / 3 → outcome_of p n (under radius l) ≡ accepted radius ps
    unfolding outcome_of under
    outcome_fits hp hn =
        let fp : leb (3 * length ps) p ≡ true = le-leb (3 * length ps) p (omega arith) in
        let fn : leb (3 * length ps) n ≡ true = le-leb (3 * length ps) n (omega arith) in
        rw (e, fp, fn)

    pub outcome_long : p / 3 < length ps → outcome_of p n (under radius l) ≡ refused 11 0
    unfolding outcome_of under
    outcome_long h = let f : leb (3 * length ps) p ≡ false = lt-leb (3 * length ps) p (omega arith) in rw (e, f)

    pub outcome_long_normals : length ps ≤ p / 3 → n / 3 < length ps → outcome_of p n (under radius l) ≡ refused 11 0
    unfolding outcome_of under
    outcome_long_normals hp h =
        let fp : leb (3 * length ps) p ≡ true = le-leb (3 * length ps) p (omega arith) in
        let fn : leb (3 * length ps) n ≡ false = lt-leb (3 * length ps) n (omega arith) in
        rw (e, fp, fn)

-- ---- the first line
first_line : Parsed Float → File
first_line q = elim q [ parsed radius rest ↦ under radius (body rest) | malformed ↦ malformed_line 1 ]

module _ (s : List ℕ) (p n : ℕ) where
  pub outcome_radius : (radius : Float) (next : ℕ) → field 10 s ≡ parsed radius (drop next s) → outcome s p n
      ≡ outcome_of p n (under radius (body (drop next s)))
  unfolding outcome file first_line
  outcome_radius radius next e = ap (λ (q : Parsed Float). outcome_of p n (first_line q)) e

  pub outcome_no_radius : field 10 s ≡ malformed → outcome s p n ≡ refused 10 1
  unfolding outcome file first_line outcome_of
  outcome_no_radius e = ap (λ (q : Parsed Float). outcome_of p n (first_line q)) e
