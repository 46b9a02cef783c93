-- A buffer of 220,098 bytes holds whatever the program prints: 5,000 faces of 44 bytes each, five counts of 11 and two
-- lines of names. Assumes nothing.
use Prim.Native.Nat.{ℕ, zero, suc, ◌+◌, ◌*◌, ◌/◌, ◌≤◌, ◌<◌}
use mathlib.Core.Path.{◌≡◌, refl, ap, ◌∙◌, subst}
use mathlib.Core.Bool.{Bool, true, false, cond, ◌&&◌}
use mathlib.Core.List.{List, [], ◌∷◌, ◌++◌, map}
use native.Mathlib.Omega.{arith}
use lib.Dec.{eqb, leb, ltb}
use lib.ListN.{length, take, drop}
use lib.Seq.{take-append_seam}
use lib.Ieee.{Float}
use borrow.Author.Tests.{leb-true, leb-false, ltb-false, eqb-true, le-leb}
use Rattle.settings.specs.Settings.{first_failing, setting_tests, first_bad_setting, defaults}
use Rattle.settings.specs.declared.BallPivotingConfig.{BallPivotingConfig}
use Rattle.domain.specs.Refusals.{Check, first_refusal, reconstruct_refusal}
use Rattle.patch.specs.View as view
use Rattle.lists.proofs.Bools.{and_both}
use Rattle.ball_pivoting.specs.Reconstruct.{Found, found, radii_of, reason, refused, accepted, delivered, reconstructed}
use Rattle.ball_pivoting.specs.declared.Patch.{Patch}
use Rattle.ball_pivoting.proofs.Answered.{answered_zero}
use Rattle.ball_pivoting.proofs.Inside.{found_inside, flat_inside, found_few}
use Rattle.ball_pivoting.proofs.Reasons.{reason_most}
use Rattle.ball_pivoting.proofs.Outcome.{reconstruct_early}
use Rattle.cloud.specs.Format.{Parsed, parsed, malformed, point_fields, field, PointLines, good, wrong, point_ahead, lines_of_points, body, File, cloud}
use Rattle.cloud.specs.Format.{malformed_line, under, file}
use Rattle.cloud.specs.Answers as cloud
use Rattle.cloud_lines.specs.declared.line.Point.{Point}
use Rattle.numerals.proofs.Shorter.{Below}
use Rattle.cloud_lines.proofs.Shorter.{field_below}
use Rattle.std.specs.Prelude.{Option, Some}
use Rattle.listing.specs.Listing.{refusal_text, listing, written_length, filled}
use Rattle.listing.proofs.Lengths.{listing_most, listing_some, refusal_most, refusal_some}
use Rattle.patch_text.specs.Text.{counts_of, patch_text, laid_text, outcome_text, file_text, printed, Prints, PrintsFile}
use Rattle.patch_text.proofs.Told.{part_length}

-- ---- a refusal's detail is a small number
abbrev Small : ℕ → List Check → Type 0
Small m [] = Unit {0}
Small m (c ∷ cs) = (c.passes ≡ false → c.refusal.detail ≤ m) × Small m cs

refusal_small : (m : ℕ) (cs : List Check) → Small m cs → (first_refusal cs).detail ≤ m
unfolding first_refusal
refusal_small m [] h = omega arith
refusal_small m (c ∷ cs) h = go (refusal_small m cs h.1) c.passes refl
  where
    go : (first_refusal cs).detail ≤ m → (b : Bool) → c.passes ≡ b → (cond b (first_refusal cs) c.refusal).detail ≤ m
    go later true e = later
    go later false e = h.0 e

failing_most : (n : ℕ) (tests : List Bool) → first_failing n tests ≤ n + length tests
unfolding first_failing
failing_most n [] = omega arith
failing_most n (t ∷ tests) = go (failing_most (suc n) tests) t
  where
    go : first_failing (suc n) tests ≤ suc n + length tests → (b : Bool) → cond b (first_failing (suc n) tests) n ≤ n + suc (length tests)
    go h true = omega arith
    go h false = omega arith

bad_setting_most : (s : BallPivotingConfig) → first_bad_setting s ≤ 9
unfolding first_bad_setting setting_tests
bad_setting_most s = failing_most 1 (setting_tests s)

module _ (points normals : List Float) (c : BallPivotingConfig) (room words floats : ℕ) where
  detail_small : length points / 3 ≤ 4096 → (reconstruct_refusal points normals c words floats).detail ≤ 4096
  unfolding reconstruct_refusal
  detail_small few = refusal_small 4096 _ (
    (λ e. omega arith),
    (
      (λ e. omega arith),
      (
        (λ e. omega arith),
        (
          (λ e. let l = leb-false (length points / 3) _ e in omega arith),
          ((λ e. omega (arith, bad_setting_most c)), ((λ e. omega arith), tt)),
        ),
      ),
    ),
  )

  -- the answer and the detail
  abbrev Brief : Patch → Type 0
  Brief p = (p.answer ≤ 16) × (p.detail ≤ 4096)

  delivered_brief : Brief (delivered (reason c points) (found c points) (radii_of c points) room)
  unfolding delivered refused accepted
  delivered_brief = go (eqb (length (found c points).faces) 0) (ltb (room / 3) (length (found c points).faces))
    where
      go : (none over : Bool) → Brief (cond none (refused (reason c points) 0) (cond over (refused 9 0) (accepted (found c points) (radii_of c points))))
      go true over = (reason_most c points, omega arith)
      go false true = (omega arith, omega arith)
      go false false = (omega arith, omega arith)

  brief : length points / 3 ≤ 4096 → Brief (reconstructed points normals c room words floats)
  unfolding reconstructed refused
  brief few = go (eqb (reconstruct_refusal points normals c words floats).answer 0)
    where
      go : (passed : Bool) → Brief
          (cond passed (delivered (reason c points) (found c points) (radii_of c points) room)
          (refused (reconstruct_refusal points normals c words floats).answer (reconstruct_refusal points normals c words floats).detail))
      go true = delivered_brief
      go false = (omega (arith, reconstruct_early points normals c words floats), detail_small few)

  -- ---- the text of a patch
  listed_most : length points / 3 ≤ 4096 → room ≤ 15000 → (p : Patch) → p ≡ reconstructed points normals c room words floats → p.answer ≡ 0
      → length (listing (counts_of (length points / 3) p) (view.flat (found c points).faces)) ≤ 220098
  unfolding accepted
  listed_most few short p is zero_answer =
      let a = (answered_zero points normals c room words floats p is zero_answer).1 in
      let f = found_few c points in
      let faces : p.faces ≡ length (found c points).faces = ap (λ (q : Patch). q.faces) a.0 in
      let seeds : p.seeds ≡ (found c points).seeds = ap (λ (q : Patch). q.seeds) a.0 in
      let looks : p.looks ≡ (found c points).looks = ap (λ (q : Patch). q.looks) a.0 in
      let pivots : p.pivots ≡ (found c points).pivots = ap (λ (q : Patch). q.pivots) a.0 in
      let most = listing_most (counts_of (length points / 3) p) (view.flat (found c points).faces)
      (omega arith) (omega (arith, faces, a.1)) (omega (arith, seeds, f.seeds)) (omega (arith, looks, a.1, f.looks))
      (omega (arith, pivots, a.1, f.pivots))
      (λ k. omega (arith, flat_inside (length points / 3) (found c points).faces (found_inside c points) k)) in
      omega (arith, most, faces, a.1)

  patch_most : length points / 3 ≤ 4096 → room ≤ 15000
      → length (patch_text (length points / 3) (reconstructed points normals c room words floats) (found c points)) ≤ 220098
  unfolding patch_text
  patch_most few short = go (eqb (reconstructed points normals c room words floats).answer 0) refl
    where
      go : (zero_answer : Bool) → eqb (reconstructed points normals c room words floats).answer 0 ≡ zero_answer
          → length (cond zero_answer
          (listing (counts_of (length points / 3) (reconstructed points normals c room words floats)) (view.flat (found c points).faces))
          (refusal_text (reconstructed points normals c room words floats).answer (reconstructed points normals c room words floats).detail)) ≤ 220098
      go true e = listed_most few short (reconstructed points normals c room words floats) refl (eqb-true _ 0 e)
      go false e =
          let b = brief few in
          omega (
            arith,
            refusal_most (reconstructed points normals c room words floats).answer (reconstructed points normals c room words floats).detail
                (omega (arith, b.0)) (omega (arith, b.1)),
          )

-- ---- the number of a malformed line
abbrev Early : ℕ → PointLines → Type 0
Early m (good ps) = Unit {0}
Early m (wrong line) = line ≤ m

ahead_early : (m : ℕ) (p : Point) (l : PointLines) → Early m l → Early (suc m) (point_ahead p l)
unfolding point_ahead
ahead_early m p (good ps) h = tt
ahead_early m p (wrong line) h = omega arith

lines_early : (fuel : ℕ) (bs : List ℕ) → Early fuel (lines_of_points fuel bs)
unfolding lines_of_points
lines_early zero bs = tt
lines_early (suc fuel) [] = tt
lines_early (suc fuel) (b ∷ bs) = go (point_fields (b ∷ bs)) (λ rest. lines_early fuel rest)
  where
    go : (q : Parsed Point) → ((rest : List ℕ) → Early fuel (lines_of_points fuel rest))
        → Early (suc fuel) (elim q [ parsed p rest ↦ point_ahead p (lines_of_points fuel rest) | malformed ↦ wrong 1 ])
    go (parsed p rest) rec = ahead_early fuel p (lines_of_points fuel rest) (rec rest)
    go malformed rec = omega arith

abbrev EarlyFile : ℕ → File → Type 0
EarlyFile m (cloud radius ps) = Unit {0}
EarlyFile m (malformed_line line) = line ≤ m

under_early : (m : ℕ) (radius : Float) (l : PointLines) → Early m l → EarlyFile (suc m) (under radius l)
unfolding under
under_early m radius (good ps) h = tt
under_early m radius (wrong line) h = omega arith

early_more : (m k : ℕ) (f : File) → m ≤ k → EarlyFile m f → EarlyFile k f
early_more m k (cloud radius ps) h e = tt
early_more m k (malformed_line line) h e = omega arith

-- it is at most one above the number of bytes
file_early : (bs : List ℕ) → EarlyFile (suc (length bs)) (file bs)
unfolding file body
file_early bs = go (field 10 bs) (field_below 10 bs)
  where
    go : (q : Parsed Float) → Below (length bs) q
        → EarlyFile (suc (length bs)) (elim q [ parsed radius rest ↦ under radius (body rest) | malformed ↦ malformed_line 1 ])
    go (parsed radius rest) b = early_more (suc (length rest)) (suc (length bs)) (under radius (body rest)) (omega arith)
        (under_early (length rest) radius (body rest) (lines_early (length rest) rest))
    go malformed b = omega arith

-- ---- the text of a file
laid_most : (radius : Float) (ps : List Point) (faces words floats : ℕ) → length ps ≤ 4096 → faces ≤ 15000
    → length (outcome_text (cloud.accepted radius ps) faces words floats) ≤ 220098
unfolding outcome_text laid_text
laid_most radius ps faces words floats few short =
    let xs : List Float = cloud.coordinates_of (map (λ (p : Point). p.position) ps) in
    let ns : List Float = cloud.coordinates_of (map (λ (p : Point). p.normal) ps) in
    let number : length xs / 3 ≡ length ps = let l = part_length (λ p. p.position) ps in omega arith in
    subst (λ (n : ℕ). length (patch_text n (reconstructed xs ns (defaults radius) faces words floats) (found (defaults radius) xs)) ≤ 220098) number
    (patch_most xs ns (defaults radius) faces words floats (omega arith) short)

judged_most : (f : File) (p n faces words floats : ℕ) → EarlyFile 65537 f → p ≤ 12288 → faces ≤ 15000
    → length (outcome_text (cloud.outcome_of p n f) faces words floats) ≤ 220098
unfolding cloud.outcome_of outcome_text
judged_most (malformed_line line) p n faces words floats e few short = omega (arith, refusal_most 10 line (omega arith) (omega arith))
judged_most (cloud radius ps) p n faces words floats e few short = go (leb (3 * length ps) p && leb (3 * length ps) n) refl
  where
    go : (fits : Bool) → (leb (3 * length ps) p && leb (3 * length ps) n) ≡ fits
        → length (outcome_text (cond fits (cloud.accepted radius ps) (cloud.refused 11 0)) faces words floats) ≤ 220098
    go true h = laid_most radius ps faces words floats
        (let l = leb-true (3 * length ps) p (and_both {p = leb (3 * length ps) p} {q = leb (3 * length ps) n} h).0 in omega arith) short
    go false h = omega (arith, refusal_most 11 0 (omega arith) (omega arith))

-- whatever the bytes are
pub printed_most : (bytes : List ℕ) → length (printed bytes) ≤ 220098
unfolding printed file_text cloud.outcome
printed_most bytes = go (ltb 65536 (length bytes)) refl
  where
    go : (long : Bool) → ltb 65536 (length bytes) ≡ long
        → length (cond long (refusal_text 11 0) (outcome_text (cloud.outcome bytes 1536 1536) 15000 12352 2112)) ≤ 220098
    go true e = omega (arith, refusal_most 11 0 (omega arith) (omega arith))
    go false e =
        let l = ltb-false 65536 (length bytes) e in
        judged_most (file bytes) 1536 1536 15000 12352 2112 (early_more (suc (length bytes)) 65537 (file bytes) (omega arith) (file_early bytes)) (omega arith)
        (omega arith)

-- so a buffer of that length gets the whole text, and its first bytes are the text
pub prints_whole : (bytes out : List ℕ) (r : Option ℕ) (out' : List ℕ) → 220098 ≤ length out → Prints (printed bytes) out r out'
    → (r ≡ Some (length (printed bytes))) × (take (length (printed bytes)) out' ≡ printed bytes)
unfolding written_length filled
prints_whole bytes out r out' long h =
    let t : List ℕ = printed bytes in
    let fits = le-leb (length t) (length out) (omega (arith, printed_most bytes)) in
    let number : r ≡ Some (length t) = rw fits at h.bytes in
    let held : out' ≡ t ++ drop (length t) out = rw fits at h.holds in
    (number, ap (take (length t)) held ∙ take-append_seam t (drop (length t) out))

-- ---- no text is empty
cond_some : (b : Bool) (t u : List ℕ) → 0 < length t → 0 < length u → 0 < length (cond b t u)
cond_some true t u h k = h
cond_some false t u h k = k

patch_some : (n : ℕ) (p : Patch) (f : Found) → 0 < length (patch_text n p f)
unfolding patch_text
patch_some n p f =
    let faces : List ℕ = view.flat f.faces in
    cond_some (eqb p.answer 0) (listing (counts_of n p) faces) (refusal_text p.answer p.detail) (listing_some (counts_of n p) faces)
    (refusal_some p.answer p.detail)

outcome_some : (o : cloud.Outcome) (faces words floats : ℕ) → 0 < length (outcome_text o faces words floats)
unfolding outcome_text laid_text
outcome_some (cloud.accepted radius ps) faces words floats =
    let xs : List Float = cloud.coordinates_of (map (λ (p : Point). p.position) ps) in
    let ns : List Float = cloud.coordinates_of (map (λ (p : Point). p.normal) ps) in
    patch_some (length ps) (reconstructed xs ns (defaults radius) faces words floats) (found (defaults radius) xs)
outcome_some (cloud.refused answer detail) faces words floats = refusal_some answer detail

pub printed_some : (bytes : List ℕ) → 0 < length (printed bytes)
unfolding printed file_text
printed_some bytes =
    let o : cloud.Outcome = cloud.outcome bytes 1536 1536 in
    cond_some (ltb 65536 (length bytes)) (refusal_text 11 0) (outcome_text o 15000 12352 2112) (refusal_some 11 0) (outcome_some o 15000 12352 2112)

-- so whatever holds of a text that was printed, this holds of the file
pub prints_file : (bytes out : List ℕ) (r : Option ℕ) (out' : List ℕ) → Prints (printed bytes) out r out' → PrintsFile bytes out r out'
prints_file bytes out r out' h = record {
  text = h;
  number = λ long. (prints_whole bytes out r out' long h).0;
  some = printed_some bytes;
  front = λ long. (prints_whole bytes out r out' long h).1;
}
