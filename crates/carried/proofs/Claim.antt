-- A reader that is carried from line to line reads consecutive lines. Assumes nothing.
use Prim.Native.Nat.{ℕ, ◌≤◌}
use native.Mathlib.Omega.{arith}
use mathlib.Core.Path.{◌≡◌, refl, sym, ap, ◌∙◌, subst}
use mathlib.Core.List.{List, [], ◌∷◌}
use lib.ListN.{length, drop}
use denote.Ref.{Bor}
use Rattle.numerals.specs.Format.{parsed}
use Rattle.numerals.proofs.Rows.{From, from_end, from_next}
use Rattle.cloud_lines.specs.Format.{point_fields}
use Rattle.cloud_lines.specs.Reading.{read_means, Stepped}
use Rattle.cloud_lines.specs.declared.line.Point.{Point}
use Rattle.std.specs.Prelude.{Some}
use Rattle.cloud_lines.specs.declared.reader.Reader.{Reader}
use Rattle.cloud_lines.specs.declared.reader.Moved.{Moved}
use Rattle.cloud_lines.proofs.Shorter.{point_shorter}
use Rattle.cloud.specs.Format.{PointLines, good, point_ahead, body}
use Rattle.cloud.proofs.Lines.{points_run, body_start}
use Rattle.carried.specs.Carried.{NextLine, Carried, consecutive, Carrying}

-- the line that was read, in the bytes s
line_read : (s : Bor (List ℕ)) (r : Reader) (m : Moved) (p : Point) → r.src ≡ s → NextLine r m → m.read ≡ Some p
    → point_fields (drop r.at s.now) ≡ parsed p (drop m.reader.at s.now)
unfolding read_means
line_read s r m p e n q =
    let st : Stepped s.now r.at m.read m.reader.at =
    subst (λ (t : Bor (List ℕ)). Stepped t.now r.at m.read m.reader.at) e n.1 in
    sym st.means ∙ ap (read_means (drop m.reader.at s.now)) q

module _ (s : Bor (List ℕ)) (r' : Reader) where
  same_bytes : (ps : List Point) (r : Reader) → r.src ≡ s → Carried r r' ps → r'.src ≡ s
  unfolding Carried
  same_bytes [] r e c = ap (λ (q : Reader). q.src) (sym c) ∙ e
  same_bytes (p ∷ ps) r e c = same_bytes ps c.0.reader (c.1.0.0 ∙ e) c.1.1.1

  in_turn : (ps : List Point) (r : Reader) → r.src ≡ s → Carried r r' ps
      → consecutive ps (drop r.at s.now) (drop r'.at s.now)
  unfolding Carried consecutive
  in_turn [] r e c = ap (λ (q : Reader). drop q.at s.now) c
  in_turn (p ∷ ps) r e c =
      let m : Moved = c.0 in
      (drop m.reader.at s.now, (line_read s r m p e c.1.0 c.1.1.0, in_turn ps m.reader (c.1.0.0 ∙ e) c.1.1.1))

  to_the_end : length s.now ≤ r'.at → (ps : List Point) (r : Reader) (all : PointLines) → From points_run s.now r.at all
      → r.src ≡ s → Carried r r' ps → all ≡ good ps
  unfolding Carried point_ahead
  to_the_end h [] r all f e c =
      from_end points_run s.now r.at all f (subst (λ (q : Reader). length s.now ≤ q.at) (sym c) h)
  to_the_end h (p ∷ ps) r all f e c =
      let m : Moved = c.0 in
      let l = line_read s r m p e c.1.0 c.1.1.0 in
      let short = point_shorter s.now r.at m.reader.at p l in
      let next = from_next points_run s.now r.at all f (omega arith) p m.reader.at l in
      next.1.0 ∙ ap (point_ahead p) (to_the_end h ps m.reader next.0 next.1.1 (c.1.0.0 ∙ e) c.1.1.1)

pub carries : Carrying
carries r r' ps c = record {
  bytes = same_bytes r.src r' ps r refl c;
  lines = in_turn r.src r' ps r refl c;
  all = λ h. to_the_end r.src r' h ps r (body (drop r.at r.src.now)) (body_start r.src.now r.at) refl c;
}
