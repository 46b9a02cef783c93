-- What the main call lays is written: so the program refuses nothing but what `lay` refuses, and with its line. Assumes
-- nothing.
use Prim.Native.Nat.{ℕ, suc, ◌+◌, ◌*◌, ◌/◌, ◌%◌, ◌≤◌, ◌<◌}
use mathlib.Core.Path.{◌≡◌, refl, ap}
use mathlib.Core.Bool.{Bool, true, false, cond}
use mathlib.Core.List.{List, [], ◌∷◌, map}
use native.Mathlib.Omega.{arith}
use lib.Dec.{eqb, ltb}
use lib.ListN.{length, get_or}
use lib.Ieee.{Float, nan, neg}
use borrow.Author.Tests.{eq-eqb, eqb-true, lt-ltb, le-ltb}
use Rattle.lists.proofs.Bools.{true_not_false}
use Rattle.settings.specs.Settings.{defaults}
use Rattle.settings.specs.declared.BallPivotingConfig.{BallPivotingConfig}
use Rattle.ranges.specs.Range.{inside, leading, first_outside, farthest}
use Rattle.domain.proofs.Accepted.{accepted_reconstruct}
use Rattle.patch.specs.Lay.{Face}
use Rattle.patch.specs.View as view
use Rattle.patch.proofs.View.{length_flat}
use Rattle.ball_pivoting.specs.Reconstruct.{found, reconstructed}
use Rattle.ball_pivoting.specs.declared.Patch.{Patch}
use Rattle.ball_pivoting.proofs.Answered.{answered_zero}
use Rattle.ball_pivoting.proofs.Inside.{Inside, found_inside}
use Rattle.cloud.specs.Answers as cloud
use Rattle.listing.specs.Listing.{refusal_text, listing}
use Rattle.patch_text.specs.Text.{counts_of, patch_text, laid_text, outcome_text, file_text, printed}
use Rattle.stl_file.specs.Answers.{all_below, stl_outcome}
use Rattle.stl_file.specs.declared.StlWritten.{StlWritten}
use Rattle.patch_stl.specs.Output.{output_refused, written_output, patch_output, laid_output, outcome_output, file_output, output}

all_leading : (lo hi : Float) (xs : List Float) → ((k : ℕ) → k < length xs → inside lo hi (get_or xs k nan) ≡ true) → leading lo hi xs ≡ length xs
unfolding leading
all_leading lo hi [] h = refl
all_leading lo hi (x ∷ xs) h =
    let first : inside lo hi x ≡ true = h 0 (omega arith) in
    let rest : leading lo hi xs ≡ length xs = all_leading lo hi xs (λ k l. h (suc k) (omega arith)) in
    rw first (ap suc rest)

faces_below : (n : ℕ) (fs : List Face) → Inside n fs → all_below n (view.flat fs) ≡ true
unfolding view.flat all_below
faces_below n [] h = refl
faces_below n (f ∷ fs) h = rw (lt-ltb f.a n h.0.0, lt-ltb f.b n h.0.1, lt-ltb f.c n h.0.2) (faces_below n fs h.1)

-- ---- the writer takes what the main call found
module _ (points normals : List Float) (c : BallPivotingConfig) (faces words floats room : ℕ) (few : faces / 3 ≤ 1000000)
    (fits : 84 + 50 * (faces / 3) ≤ room) where
  abbrev p : Patch
  p = reconstructed points normals c faces words floats

  abbrev fl : List ℕ
  fl = view.flat (found c points).faces

  pub taken : p.answer ≡ 0 → stl_outcome points fl room ≡ record { answer = 0; detail = 0; length = 84 + 50 * (length fl / 3) }
  unfolding stl_outcome first_outside
  taken z =
      let a = answered_zero points normals c faces words floats p refl z in
      let r = (accepted_reconstruct points normals c words floats a.0).cloud in
      let size : length fl ≡ 3 * length (found c points).faces = length_flat (found c points).faces in
      let all : leading (neg farthest) farthest points ≡ length points = all_leading (neg farthest) farthest points r.near in
      let h = a.1.1 in
      let e₁ : eqb (length points % 3) 0 ≡ true = eq-eqb (length points % 3) 0 (omega (arith, r.threes)) in
      let e₂ : eqb (length fl % 3) 0 ≡ true = eq-eqb (length fl % 3) 0 (omega (arith, size)) in
      let e₃ : ltb 1000000 (length fl / 3) ≡ false = le-ltb 1000000 (length fl / 3) (omega (arith, size, h)) in
      let e₄ : ltb (length points / 3) (length points / 3) ≡ false = le-ltb (length points / 3) (length points / 3) (omega arith) in
      let e₅ : all_below (length points / 3) fl ≡ true = faces_below (length points / 3) (found c points).faces (found_inside c points) in
      let e₆ : ltb room (84 + 50 * (length fl / 3)) ≡ false = le-ltb room (84 + 50 * (length fl / 3)) (omega (arith, size, h)) in
      rw (e₁, e₂, e₃, all, e₄, e₅, e₆)

  taken_output : p.answer ≡ 0 → (written_output points fl room).refused ≡ false
  unfolding written_output
  taken_output z = let t = taken z in let e : eqb (stl_outcome points fl room).answer 0
      ≡ true = eq-eqb (stl_outcome points fl room).answer 0 (ap (λ (s : StlWritten). s.answer) t) in rw e

  -- the line is lay's, whatever number of points it counts
  patch_alike : (n : ℕ) → (patch_output points p (found c points) room).refused ≡ true → (patch_output points p (found c points) room).bytes
      ≡ patch_text n p (found c points)
  unfolding patch_output patch_text
  patch_alike n = go (eqb p.answer 0) refl
    where
      go : (b : Bool) → eqb p.answer 0 ≡ b → (cond b (written_output points fl room) (output_refused p.answer p.detail)).refused ≡ true
          → (cond b (written_output points fl room) (output_refused p.answer p.detail)).bytes
          ≡ cond b (listing (counts_of n p) fl) (refusal_text p.answer p.detail)
      go true e r = absurd (true_not_false r (taken_output (eqb-true p.answer 0 e)))
      go false e r = refl

-- ---- a whole file
outcome_alike : (o : cloud.Outcome) (faces words floats room : ℕ) → faces / 3 ≤ 1000000 → 84 + 50 * (faces / 3) ≤ room
    → (outcome_output o faces words floats room).refused ≡ true
    → (outcome_output o faces words floats room).bytes ≡ outcome_text o faces words floats
unfolding outcome_output outcome_text laid_output laid_text
outcome_alike (cloud.accepted radius ps) faces words floats room few fits r =
    patch_alike (cloud.coordinates_of (map (λ p. p.position) ps)) (cloud.coordinates_of (map (λ p. p.normal) ps))
    (defaults radius) faces words floats room few fits (length ps) r
outcome_alike (cloud.refused answer detail) faces words floats room few fits r = refl

-- A REFUSAL'S LINE IS THE ONE THAT `lay` PRINTS
pub same_line : (bytes : List ℕ) → (output bytes).refused ≡ true → (output bytes).bytes ≡ printed bytes
unfolding output printed file_output file_text
same_line bytes = go (ltb 65536 (length bytes))
  where
    go : (long : Bool) → (cond long (output_refused 11 0) (outcome_output (cloud.outcome bytes 1536 1536) 15000 12352 2112 250084)).refused ≡ true
        → (cond long (output_refused 11 0) (outcome_output (cloud.outcome bytes 1536 1536) 15000 12352 2112 250084)).bytes
        ≡ cond long (refusal_text 11 0) (outcome_text (cloud.outcome bytes 1536 1536) 15000 12352 2112)
    go true r = refl
    go false r = outcome_alike (cloud.outcome bytes 1536 1536) 15000 12352 2112 250084 (omega arith) (omega arith) r
