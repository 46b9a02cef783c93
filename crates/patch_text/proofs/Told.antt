-- What the reader tells and stores is what the definition prints from. Assumes nothing.
use Prim.Native.Nat.{ℕ, ◌*◌, ◌/◌, ◌≤◌, ◌<◌}
use mathlib.Core.Path.{◌≡◌, refl, sym, ap, ap₂, ◌∙◌}
use mathlib.Core.Bool.{Bool, true, false, cond, ◌&&◌}
use mathlib.Core.List.{List, [], ◌∷◌, map}
use native.Mathlib.Omega.{arith}
use lib.Dec.{leb}
use lib.ListN.{length, take, drop, length-map, length-append}
use lib.Seq.{take-append_seam}
use lib.Ieee.{Float}
use borrow.Author.Tests.{lt-ltb, le-ltb}
use Rattle.cloud.specs.Format.{File, cloud, malformed_line, file}
use Rattle.cloud.specs.Answers.{Outcome, accepted, refused, outcome_of, outcome, read_of, coordinates_of, over_front, points_after, Answered}
use Rattle.cloud_lines.specs.declared.line.Triple.{Triple}
use Rattle.cloud_lines.specs.declared.line.Point.{Point}
use Rattle.cloud.specs.declared.CloudRead.{CloudRead}
use Rattle.listing.specs.Listing.{refusal_text}
use Rattle.patch_text.specs.Text.{laid_text, outcome_text, file_text}

flat_length : (ts : List Triple) → length (coordinates_of ts) ≡ 3 * length ts
unfolding coordinates_of
flat_length [] = refl
flat_length (t ∷ ts) = let h = flat_length ts in omega arith

pub part_length : (part : Point → Triple) (ps : List Point) → length (coordinates_of (map part ps)) ≡ 3 * length ps
part_length part ps = flat_length (map part ps) ∙ ap (λ (k : ℕ). 3 * k) (length-map ps part)

-- the numbers of the points stand in front
over_front_lem : (part : Point → Triple) (ps : List Point) (old : List Float) → take (3 * length ps) (over_front (coordinates_of (map part ps)) old)
    ≡ coordinates_of (map part ps)
unfolding over_front
over_front_lem part ps old = rw (sym (part_length part ps)) (take-append_seam (coordinates_of (map part ps)) (drop (length (coordinates_of (map part ps))) old))

over_long : (part : Point → Triple) (ps : List Point) (old : List Float) → 3 * length ps ≤ length (over_front (coordinates_of (map part ps)) old)
unfolding over_front
over_long part ps old = omega (arith, length-append (coordinates_of (map part ps)) (drop (length (coordinates_of (map part ps))) old), part_length part ps)

-- ---- an answer of 0 is of a file that was accepted
by_room : (radius : Float) (ps : List Point) (fits : Bool) → (read_of (cond fits (accepted radius ps) (refused 11 0))).answer ≡ 0 → (ps' : List Point)
    × (cond fits (accepted radius ps) (refused 11 0) ≡ accepted (read_of (cond fits (accepted radius ps) (refused 11 0))).radius ps')
unfolding read_of
by_room radius ps true z = (ps, refl)
by_room radius ps false z = absurd (omega (arith, z))

judged_accepted : (p n : ℕ) (f : File) → (read_of (outcome_of p n f)).answer ≡ 0 → (ps : List Point)
    × (outcome_of p n f ≡ accepted (read_of (outcome_of p n f)).radius ps)
unfolding outcome_of read_of
judged_accepted p n (malformed_line line) z = absurd (omega (arith, z))
judged_accepted p n (cloud radius ps) z = by_room radius ps (leb (3 * length ps) p && leb (3 * length ps) n) z

outcome_accepted : (bytes : List ℕ) (p n : ℕ) → (read_of (outcome bytes p n)).answer ≡ 0 → (ps : List Point)
    × (outcome bytes p n ≡ accepted (read_of (outcome bytes p n)).radius ps)
unfolding outcome
outcome_accepted bytes p n z = judged_accepted p n (file bytes) z

-- ---- the text, by what the reader tells
module _ (bytes : List ℕ) (points normals : List Float) (faces words floats : ℕ) where
  pub long_text : 65536 < length bytes → refusal_text 11 0 ≡ file_text bytes (length points) (length normals) faces words floats
  unfolding file_text
  long_text h = rw (lt-ltb 65536 (length bytes) h)

  short_text : length bytes ≤ 65536 → outcome_text (outcome bytes (length points) (length normals)) faces words floats
      ≡ file_text bytes (length points) (length normals) faces words floats
  unfolding file_text
  short_text h = rw (le-ltb 65536 (length bytes) h)

  refused_outcome : (o : Outcome) → ((read_of o).answer ≡ 0 → ⊥) → refusal_text (read_of o).answer (read_of o).detail ≡ outcome_text o faces words floats
  unfolding read_of outcome_text
  refused_outcome (accepted radius ps) bad = absurd (bad refl)
  refused_outcome (refused answer detail) bad = refl

  accepted_outcome : (o : Outcome) (radius : Float) (ps : List Point) → o ≡ accepted radius ps
      → laid_text radius (length ps) (coordinates_of (map (λ p. p.position) ps)) (coordinates_of (map (λ p. p.normal) ps)) faces words floats
      ≡ outcome_text o faces words floats
  unfolding outcome_text
  accepted_outcome o radius ps e = ap (λ (q : Outcome). outcome_text q faces words floats) (sym e)

  module _ (r : CloudRead) (points' normals' : List Float)
      (h : Answered (outcome bytes (length points) (length normals)) points normals r points' normals') where
    pub refused_text : length bytes ≤ 65536 → (r.answer ≡ 0 → ⊥) → refusal_text r.answer r.detail
        ≡ file_text bytes (length points) (length normals) faces words floats
    refused_text short bad =
        ap (λ (q : CloudRead). refusal_text q.answer q.detail) h.answer
        ∙ refused_outcome (outcome bytes (length points) (length normals)) (λ z. bad (ap (λ (q : CloudRead). q.answer) h.answer ∙ z))
        ∙ short_text short

    -- the points that were read
    pub read : r.answer ≡ 0 → (ps : List Point)
        × (outcome bytes (length points) (length normals) ≡ accepted (read_of (outcome bytes (length points) (length normals))).radius ps)
    read z = outcome_accepted bytes (length points) (length normals) (sym (ap (λ (q : CloudRead). q.answer) h.answer) ∙ z)

    told_count : (o : Outcome) (radius : Float) (ps : List Point) → o ≡ accepted radius ps → (read_of o).count ≡ length ps
    unfolding read_of
    told_count o radius ps e = ap (λ (q : Outcome). (read_of q).count) e

    counted : (z : r.answer ≡ 0) → r.count ≡ length (read z).0
    counted z = ap (λ (q : CloudRead). q.count) h.answer ∙ told_count _ _ _ (read z).1

    held : (part : Point → Triple) (old new : List Float) (z : r.answer ≡ 0) → new ≡ points_after part (outcome bytes (length points) (length normals)) old
        → new ≡ over_front (coordinates_of (map part (read z).0)) old
    unfolding points_after
    held part old new z e = e ∙ ap (λ (q : Outcome). points_after part q old) (read z).1

    inside : (part : Point → Triple) (old new : List Float) (z : r.answer ≡ 0) → new ≡ points_after part (outcome bytes (length points) (length normals)) old
        → 3 * r.count ≤ length new
    inside part old new z e = omega (arith, counted z, ap length (held part old new z e), over_long part (read z).0 old)

    pub points_inside : r.answer ≡ 0 → 3 * r.count ≤ length points'
    points_inside z = inside (λ p. p.position) points points' z h.points_hold

    pub normals_inside : r.answer ≡ 0 → 3 * r.count ≤ length normals'
    normals_inside z = inside (λ p. p.normal) normals normals' z h.normals_hold

    pub front : (part : Point → Triple) (old new : List Float) (z : r.answer ≡ 0) → new ≡ points_after part (outcome bytes (length points) (length normals)) old
        → take (3 * r.count) new ≡ coordinates_of (map part (read z).0)
    front part old new z e =
        ap (λ (k : ℕ). take (3 * k) new) (counted z) ∙ ap (take (3 * length (read z).0)) (held part old new z e) ∙ over_front_lem part (read z).0 old

    pub laid_file : length bytes ≤ 65536 → r.answer ≡ 0
        → laid_text r.radius (length (take (3 * r.count) points') / 3) (take (3 * r.count) points') (take (3 * r.count) normals') faces words floats
        ≡ file_text bytes (length points) (length normals) faces words floats
    laid_file short z =
        let ps = (read z).0 in
        let number : length (coordinates_of (map (λ p. p.position) ps)) / 3 ≡ length ps = let l = part_length (λ p. p.position) ps in omega arith in
        let fp = front (λ p. p.position) points points' z h.points_hold in
        let fn = front (λ p. p.normal) normals normals' z h.normals_hold in
        ap (λ (q : CloudRead). laid_text q.radius (length (take (3 * r.count) points') / 3) (take (3 * r.count) points')
        (take (3 * r.count) normals') faces words floats) h.answer
        ∙ ap₂ (λ (xs ns : List Float). laid_text (read_of (outcome bytes (length points) (length normals))).radius
        (length xs / 3) xs ns faces words floats) fp fn
        ∙ ap (λ (k : ℕ). laid_text (read_of (outcome bytes (length points) (length normals))).radius k (coordinates_of (map (λ p. p.position) ps))
        (coordinates_of (map (λ p. p.normal) ps)) faces words floats) number
        ∙ accepted_outcome _ _ ps (read z).1 ∙ short_text short
