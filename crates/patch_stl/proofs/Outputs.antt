-- What each call tells and leaves is what the definition outputs. Assumes nothing.
use Prim.Native.Nat.{ℕ, suc, ◌*◌, ◌^◌, ◌≤◌, ◌<◌}
use mathlib.Core.Path.{◌≡◌, refl, sym, ap, ap₂, ◌∙◌, subst}
use mathlib.Core.Bool.{Bool, true, false, cond}
use mathlib.Core.List.{List, [], ◌∷◌, map, ◌++◌}
use native.Mathlib.Omega.{arith}
use lib.Dec.{eqb, leb}
use lib.ListN.{length, take, drop, length-append}
use lib.Seq.{take-append_seam}
use lib.Ieee.{Float}
use borrow.Author.Tests.{eq-eqb, ne_eqb, le-leb, lt-ltb, le-ltb}
use Rattle.settings.specs.Settings.{defaults}
use Rattle.settings.specs.declared.BallPivotingConfig.{BallPivotingConfig}
use Rattle.patch.specs.View as view
use Rattle.ball_pivoting.specs.Reconstruct.{found, reconstructed}
use Rattle.ball_pivoting.specs.Outcome.{Reconstructs}
use Rattle.ball_pivoting.specs.declared.Patch.{Patch}
use Rattle.cloud.specs.Answers.{Outcome, accepted, refused, outcome, read_of, coordinates_of, Answered}
use Rattle.cloud_lines.specs.declared.line.Point.{Point}
use Rattle.cloud.specs.declared.CloudRead.{CloudRead}
use Rattle.listing.specs.Listing.{text, field_text, digits_of, refusal_text, written_length, filled}
use Rattle.listing.proofs.Decimal.{decimal_within}
use Rattle.patch_text.proofs.Laid.{faces_front}
use Rattle.patch_text.proofs.Told.{read, front}
use Rattle.facets.specs.Format.{stl}
use Rattle.stl_file.specs.Answers.{Wrote}
use Rattle.stl_file.specs.declared.StlWritten.{StlWritten}
use Rattle.facets.proofs.Puts.{stl_length}
use Rattle.stl_file.proofs.Calls.{accepted_patch}
use Rattle.patch_stl.specs.Output.{Output, output_refused, written_output, patch_output, laid_output, outcome_output, file_output, told_of, Outputs}
use Rattle.std.specs.Prelude.{Option, Some, Result, Ok, Err}

pub outputs_as : (o o' : Output) (out after : List ℕ) (r : Result ℕ ℕ) → o ≡ o' → Outputs o out r after → Outputs o' out r after
outputs_as o o' out after r e h = subst (λ (p : Output). Outputs p out r after) e h

-- so many bytes in front are the output's, refused or not
pub record Front (o : Output) (after : List ℕ) (refused : Bool) (n : ℕ) : Type 0 where
  pub refused_is : o.refused ≡ refused
  pub front : take n after ≡ o.bytes
  pub within : n ≤ length after

fronts : (o : Output) (out after : List ℕ) (n : ℕ) → n ≡ length o.bytes → after ≡ o.bytes ++ drop (length o.bytes) out
    → (take n after ≡ o.bytes) × (n ≤ length after)
fronts o out after n e h = (
  ap₂ (λ (k : ℕ) (l : List ℕ). take k l) e h ∙ take-append_seam o.bytes (drop (length o.bytes) out),
  omega (arith, e, ap length h, length-append o.bytes (drop (length o.bytes) out)),
)

-- the bytes told of are the output's
module _ (o : Output) (out after : List ℕ) (n : ℕ) where
  pub file_front : Outputs o out (Ok n) after → Front o after false n
  unfolding told_of
  file_front h = go o.refused refl h.told_is
    where
      go : (b : Bool) → o.refused ≡ b → ◌≡◌ {A = Result ℕ ℕ} (Ok n) (cond b (Err (length o.bytes)) (Ok (length o.bytes))) → Front o after false n
      go true r e = cc
      go false r e = let f = fronts o out after n (cc) h.after_is in record { refused_is = r; front = f.0; within = f.1 }

  pub line_front : Outputs o out (Err n) after → Front o after true n
  unfolding told_of
  line_front h = go o.refused refl h.told_is
    where
      go : (b : Bool) → o.refused ≡ b → ◌≡◌ {A = Result ℕ ℕ} (Err n) (cond b (Err (length o.bytes)) (Ok (length o.bytes))) → Front o after true n
      go true r e = let f = fronts o out after n (cc) h.after_is in record { refused_is = r; front = f.0; within = f.1 }
      go false r e = cc

-- ---- a refusal's line is at most forty bytes long
field_within : (k n end : ℕ) → n < 10 ^ suc k → length (field_text n end) ≤ suc (suc k)
unfolding field_text
field_within k n end h = omega (arith, length-append (digits_of n) (end ∷ []), decimal_within k n h)

line_most : (answer detail : ℕ) → answer < 2 ^ 32 → detail < 2 ^ 64 → length (refusal_text answer detail) ≤ 40
unfolding refusal_text text
line_most answer detail a d =
    let ten : answer < 10 ^ 10 = omega arith in
    let twenty : detail < 10 ^ 20 = omega arith in
    omega (
      arith,
      length-append (text "refused," ++ field_text answer 44) (field_text detail 10),
      length-append (text "refused,") (field_text answer 44),
      field_within 9 answer 44 ten,
      field_within 19 detail 10 twenty,
    )

-- so it fits
module _ (answer detail : ℕ) (out : List ℕ) (a : answer < 2 ^ 32) (d : detail < 2 ^ 64) (room : 40 ≤ length out) where
  line_fits : leb (length (refusal_text answer detail)) (length out) ≡ true
  line_fits = le-leb (length (refusal_text answer detail)) (length out) (omega (arith, line_most answer detail a d))

  pub line_written : (r : Option ℕ) → r ≡ written_length (refusal_text answer detail) out → r ≡ Some (length (refusal_text answer detail))
  unfolding written_length
  line_written r e = rw line_fits at e

  pub line_output : (after : List ℕ) (n : ℕ) → Some n ≡ written_length (refusal_text answer detail) out → after ≡ filled (refusal_text answer detail) out
      → Outputs (output_refused answer detail) out (Err n) after
  unfolding filled told_of
  line_output after n e w =
      let number : n ≡ length (refusal_text answer detail) = let s = line_written (Some n) e in cc in
      record { told_is = ap Err number; after_is = rw line_fits at w }

-- ---- the writer of STL files
module _ (points : List Float) (faces out : List ℕ) (t : StlWritten) (out₁ : List ℕ) (w : Wrote points faces out t out₁) where
  by_answer : (b : Bool) → eqb t.answer 0 ≡ b → written_output points faces (length out)
      ≡ cond b (record { refused = false; bytes = stl points faces }) (output_refused t.answer t.detail)
  unfolding written_output
  by_answer b e =
      ap (λ (s : StlWritten). cond (eqb s.answer 0) (record { refused = false; bytes = stl points faces }) (output_refused s.answer s.detail))
      (sym w.answer_is)
      ∙ ap (λ (d : Bool). cond d (record { refused = false; bytes = stl points faces }) (output_refused t.answer t.detail)) e

  pub writer_refused : (t.answer ≡ 0 → ⊥) → (r : Result ℕ ℕ) (after : List ℕ) → Outputs (output_refused t.answer t.detail) out₁ r after
      → Outputs (written_output points faces (length out)) out r after
  writer_refused bad r after h =
      let no : eqb t.answer 0 ≡ false = ne_eqb t.answer 0 bad in
      let same : out₁ ≡ out = w.after_is ∙ ap (λ (b : Bool). cond b (stl points faces ++ drop t.length out) out) no in
      outputs_as (output_refused t.answer t.detail) (written_output points faces (length out)) out after r (sym (by_answer false no))
      (subst (λ (l : List ℕ). Outputs (output_refused t.answer t.detail) l r after) same h)

  pub writer_wrote : t.answer ≡ 0 → Outputs (written_output points faces (length out)) out (Ok t.length) out₁
  unfolding told_of
  writer_wrote z =
      let yes : eqb t.answer 0 ≡ true = eq-eqb t.answer 0 z in
      let size : t.length ≡ length (stl points faces) = (accepted_patch points faces out out₁ t w z).4 ∙ sym (stl_length points faces) in
      let held : out₁ ≡ stl points faces ++ drop (length (stl points faces)) out =
      w.after_is ∙ ap (λ (b : Bool). cond b (stl points faces ++ drop t.length out) out) yes ∙ ap (λ (k : ℕ). stl points faces ++ drop k out) size in
      outputs_as (record { refused = false; bytes = stl points faces }) (written_output points faces (length out)) out out₁ (Ok t.length)
      (sym (by_answer true yes)) (record { told_is = ap Ok size; after_is = held })

-- ---- the main call
module _ (points normals : List Float) (c : BallPivotingConfig) (faces words : List ℕ) (floats : List Float) (p : Patch) (faces' words' : List ℕ)
    (floats' : List Float)
    (h : Reconstructs points normals c faces words floats p faces' words' floats') (radius : Float) (set : c ≡ defaults radius) (room : ℕ) where
  laid : patch_output points p (found c points) room ≡ laid_output radius points normals (length faces) (length words) (length floats) room
  unfolding laid_output
  laid =
      ap (λ (q : Patch). patch_output points q (found c points) room) h.result
      ∙ ap (λ (d : BallPivotingConfig). patch_output points (reconstructed points normals d (length faces) (length words) (length floats))
      (found d points) room) set

  pub patch_refused : (p.answer ≡ 0 → ⊥) → output_refused p.answer p.detail
      ≡ laid_output radius points normals (length faces) (length words) (length floats) room
  unfolding patch_output
  patch_refused bad =
      ap (λ (b : Bool). cond b (written_output points (view.flat (found c points).faces) room) (output_refused p.answer p.detail))
      (sym (ne_eqb p.answer 0 bad)) ∙ laid

  pub patch_accepted : p.answer ≡ 0 → written_output points (take (3 * p.faces) faces') room
      ≡ laid_output radius points normals (length faces) (length words) (length floats) room
  unfolding patch_output
  patch_accepted z =
      ap (λ (l : List ℕ). written_output points l room) (faces_front points normals c faces words floats p faces' words' floats' h z)
      ∙ ap (λ (b : Bool). cond b (written_output points (view.flat (found c points).faces) room) (output_refused p.answer p.detail))
      (sym (eq-eqb p.answer 0 z)) ∙ laid

-- ---- the reader of cloud files
module _ (bytes : List ℕ) (points normals : List Float) (faces words floats room : ℕ) where
  abbrev o : Outcome
  o = outcome bytes (length points) (length normals)

  pub long_file : 65536 < length bytes → output_refused 11 0 ≡ file_output bytes (length points) (length normals) faces words floats room
  unfolding file_output
  long_file h = rw (lt-ltb 65536 (length bytes) h)

  short_file : length bytes ≤ 65536 → outcome_output o faces words floats room ≡ file_output bytes (length points) (length normals) faces words floats room
  unfolding file_output
  short_file h = rw (le-ltb 65536 (length bytes) h)

  refused_outcome : (q : Outcome) → ((read_of q).answer ≡ 0 → ⊥) → output_refused (read_of q).answer (read_of q).detail ≡ outcome_output q faces words floats room
  unfolding read_of outcome_output
  refused_outcome (accepted radius ps) bad = absurd (bad refl)
  refused_outcome (refused answer detail) bad = refl

  accepted_outcome : (q : Outcome) (radius : Float) (ps : List Point) → q ≡ accepted radius ps
      → laid_output radius (coordinates_of (map (λ p. p.position) ps)) (coordinates_of (map (λ p. p.normal) ps)) faces words floats room
      ≡ outcome_output q faces words floats room
  unfolding outcome_output
  accepted_outcome q radius ps e = ap (λ (s : Outcome). outcome_output s faces words floats room) (sym e)

  module _ (r : CloudRead) (points' normals' : List Float) (h : Answered o points normals r points' normals') where
    pub reader_refused : length bytes ≤ 65536 → (r.answer ≡ 0 → ⊥) → output_refused r.answer r.detail
        ≡ file_output bytes (length points) (length normals) faces words floats room
    reader_refused short bad =
        ap (λ (q : CloudRead). output_refused q.answer q.detail) h.answer
        ∙ refused_outcome o (λ z. bad (ap (λ (q : CloudRead). q.answer) h.answer ∙ z)) ∙ short_file short

    pub reader_accepted : length bytes ≤ 65536 → r.answer ≡ 0
        → laid_output r.radius (take (3 * r.count) points') (take (3 * r.count) normals') faces words floats room
        ≡ file_output bytes (length points) (length normals) faces words floats room
    reader_accepted short z =
        let was = read bytes points normals faces words floats r points' normals' h z in
        let at = front bytes points normals faces words floats r points' normals' h in
        let fp = at (λ p. p.position) points points' z h.points_hold in
        let fn = at (λ p. p.normal) normals normals' z h.normals_hold in
        ap (λ (q : CloudRead). laid_output q.radius (take (3 * r.count) points') (take (3 * r.count) normals') faces words floats room) h.answer
        ∙ ap₂ (λ (xs ns : List Float). laid_output (read_of o).radius xs ns faces words floats room) fp fn
        ∙ accepted_outcome o (read_of o).radius was.0 was.1 ∙ short_file short
