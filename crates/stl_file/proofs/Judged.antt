-- The answers, one law for each way out. Assumes nothing.
use mathlib.Core.Path.{◌≡◌, refl, sym, ap, ◌∙◌}
use mathlib.Core.Bool.{Bool, true, false, cond}
use mathlib.Core.List.{List, ◌++◌}
use Prim.Native.Nat.{ℕ, ◌+◌, ◌*◌, ◌/◌, ◌%◌, ◌≤◌, ◌<◌}
use native.Mathlib.Omega.{arith}
use borrow.Author.Tests.{le-leb, lt-leb, lt-ltb, le-ltb, eq-eqb, ne_eqb}
use lib.Dec.{T, leb, ltb, eqb}
use lib.ListN.{length, get_or, drop}
use lib.Seq.{sets, sets-eq}
use lib.Ieee.{Float, nan, binary32, fits}
use Rattle.ranges.specs.Range.{first_outside, farthest}
use Rattle.words.specs.Words.{word_at}
use Rattle.words.specs.Chunks.{chunks}
use Rattle.words.proofs.Chunks.{chunks_length}
use Rattle.facets.specs.Format.{stl, is_file, corners_of, corners}
use Rattle.facets.specs.Known.{all_below, NamesPoints}
use Rattle.stl_file.specs.Answers.{not_written, stl_outcome, Wrote, not_read, stl_found, Got}
use Rattle.stl_file.specs.declared.StlWritten.{StlWritten}
use Rattle.stl_file.specs.declared.StlRead.{StlRead}
use Rattle.facets.proofs.Puts.{stl_length, nine_length}
use Rattle.facets.proofs.Below.{below_known}

-- ---- writing
module _ (points : List Float) (faces bytes : List ℕ) (told : StlWritten) (held : (k : ℕ) → T (fits binary32 (get_or points k nan))) where
  refused : (a d : ℕ) → told ≡ not_written a d → stl_outcome points faces (length bytes) ≡ not_written a d → eqb a 0 ≡ false → Wrote points faces bytes told bytes
  refused a d e j n = record {
    coordinates = held;
    answer_is = e ∙ sym j;
    after_is = sym (ap (λ (t : StlWritten). cond (eqb t.answer 0) (stl points faces ++ drop t.length bytes) bytes) e ∙ ap
        (λ (b : Bool). cond b (stl points faces ++ drop 0 bytes) bytes) n);
  }

  pub points_odd : told ≡ not_written 2 0 → (length points % 3 ≡ 0 → ⊥) → Wrote points faces bytes told bytes
  unfolding stl_outcome
  points_odd e h = let t : eqb (length points % 3) 0 ≡ false = ne_eqb (length points % 3) 0 h in refused 2 0 e (rw t) refl

  module _ (whole : length points % 3 ≡ 0) where
    a : eqb (length points % 3) 0 ≡ true
    a = eq-eqb (length points % 3) 0 whole

    pub faces_odd : told ≡ not_written 2 0 → (length faces % 3 ≡ 0 → ⊥) → Wrote points faces bytes told bytes
    unfolding stl_outcome
    faces_odd e h = let t : eqb (length faces % 3) 0 ≡ false = ne_eqb (length faces % 3) 0 h in refused 2 0 e (rw (a, t)) refl

    module _ (threes : length faces % 3 ≡ 0) where
      b : eqb (length faces % 3) 0 ≡ true
      b = eq-eqb (length faces % 3) 0 threes

      pub many : told ≡ not_written 3 0 → 1000000 < length faces / 3 → Wrote points faces bytes told bytes
      unfolding stl_outcome
      many e h = let t : ltb 1000000 (length faces / 3) ≡ true = lt-ltb 1000000 (length faces / 3) h in refused 3 0 e (rw (a, b, t)) refl

      module _ (few : length faces / 3 ≤ 1000000) (bad : ℕ) (first : bad ≡ first_outside farthest points) where
        d : ltb 1000000 (length faces / 3) ≡ false
        d = le-ltb 1000000 (length faces / 3) few

        pub outside : told ≡ not_written 4 bad → bad < length points / 3 → Wrote points faces bytes told bytes
        unfolding stl_outcome
        outside e h =
            let t : ltb (first_outside farthest points) (length points / 3)
            ≡ true = ap (λ (k : ℕ). ltb k (length points / 3)) (sym first) ∙ lt-ltb bad (length points / 3) h in
            refused 4 bad e (rw (a, b, d, t, sym first)) refl

        module _ (inside : length points / 3 ≤ bad) (named : Bool) (test : named ≡ all_below (length points / 3) faces) where
          f : ltb (first_outside farthest points) (length points / 3) ≡ false
          f = ap (λ (k : ℕ). ltb k (length points / 3)) (sym first) ∙ le-ltb bad (length points / 3) inside

          pub missing : told ≡ not_written 14 0 → named ≡ false → Wrote points faces bytes told bytes
          unfolding stl_outcome
          missing e h = let t : all_below (length points / 3) faces ≡ false = sym test ∙ h in refused 14 0 e (rw (a, b, d, f, t)) refl

          module _ (all : named ≡ true) where
            g : all_below (length points / 3) faces ≡ true
            g = sym test ∙ all

            pub names : NamesPoints points faces
            names = below_known points faces g

            pub short : told ≡ not_written 13 0 → length bytes < 84 + 50 * (length faces / 3) → Wrote points faces bytes told bytes
            unfolding stl_outcome
            short e h = let t : ltb (length bytes) (84 + 50 * (length faces / 3))
                ≡ true = lt-ltb (length bytes) (84 + 50 * (length faces / 3)) h in refused 13 0 e (rw (a, b, d, f, g, t)) refl

            pub written : (after : List ℕ) → 84 + 50 * (length faces / 3) ≤ length bytes → told
                ≡ record { answer = 0; detail = 0; length = 84 + 50 * (length faces / 3) }
                → after ≡ sets bytes 0 (stl points faces) → Wrote points faces bytes told after
            unfolding stl_outcome
            written after h e p =
                let n = length faces / 3 in
                let t : ltb (length bytes) (84 + 50 * n) ≡ false = le-ltb (length bytes) (84 + 50 * n) h in
                let size = stl_length points faces in
                let room : 0 + length (stl points faces) ≤ length bytes = omega arith in
                let end : 0 + length (stl points faces) ≡ 84 + 50 * n = omega arith in
                record {
                  coordinates = held;
                  answer_is = e ∙ sym (rw (a, b, d, f, g, t));
                  after_is = p ∙ sets-eq (stl points faces) bytes 0 room ∙ ap (λ (k : ℕ). stl points faces ++ drop k bytes) end
                      ∙ sym (ap (λ (w : StlWritten). cond (eqb w.answer 0) (stl points faces ++ drop w.length bytes) bytes) e);
                }

-- ---- reading
module _ (bytes : List ℕ) (slice : List Float) (told : StlRead) where
  not_read_lem : (a : ℕ) → told ≡ not_read a → stl_found bytes (length slice) ≡ not_read a → eqb a 0 ≡ false → Got bytes slice told slice
  not_read_lem a e j n = record {
    answer_is = e ∙ sym j;
    after_is = sym (ap (λ (t : StlRead). cond (eqb t.answer 0) (corners bytes ++ drop (9 * t.faces) slice) slice) e ∙ ap
        (λ (b : Bool). cond b (corners bytes ++ drop 0 slice) slice) n);
  }

  pub no_head : told ≡ not_read 12 → length bytes < 84 → Got bytes slice told slice
  unfolding stl_found is_file
  no_head e h = let t : leb 84 (length bytes) ≡ false = lt-leb 84 (length bytes) h in not_read_lem 12 e (rw t) refl

  module _ (head : 84 ≤ length bytes) (n : ℕ) (says : n ≡ word_at bytes 80) where
    a' : leb 84 (length bytes) ≡ true
    a' = le-leb 84 (length bytes) head

    pub wrong_length : told ≡ not_read 12 → (length bytes ≡ 84 + 50 * n → ⊥) → Got bytes slice told slice
    unfolding stl_found is_file
    wrong_length e h =
        let t : eqb (length bytes) (84 + 50 * word_at bytes 80)
        ≡ false = ap (λ (k : ℕ). eqb (length bytes) (84 + 50 * k)) (sym says) ∙ ne_eqb (length bytes) (84 + 50 * n) h in
        not_read_lem 12 e (rw (a', t)) refl

    module _ (long : length bytes ≡ 84 + 50 * n) where
      b' : eqb (length bytes) (84 + 50 * word_at bytes 80) ≡ true
      b' = ap (λ (k : ℕ). eqb (length bytes) (84 + 50 * k)) (sym says) ∙ eq-eqb (length bytes) (84 + 50 * n) long

      pub no_room_lem : told ≡ not_read 13 → length slice < 9 * n → Got bytes slice told slice
      unfolding stl_found is_file
      no_room_lem e h =
          let t : ltb (length slice) (9 * word_at bytes 80) ≡ true = ap (λ (k : ℕ). ltb (length slice) (9 * k)) (sym says) ∙ lt-ltb (length slice) (9 * n) h in
          not_read_lem 13 e (rw (a', b', t)) refl

      pub got : (after : List Float) → 9 * n ≤ length slice → told ≡ record { answer = 0; detail = 0; faces = n } → after
          ≡ sets slice 0 (chunks (corners_of bytes) 0 n) → Got bytes slice told after
      unfolding stl_found is_file corners
      got after h e p =
          let t : ltb (length slice) (9 * word_at bytes 80) ≡ false = ap (λ (k : ℕ). ltb (length slice) (9 * k)) (sym says) ∙ le-ltb (length slice) (9 * n) h in
          let size : length (chunks (corners_of bytes) 0 n) ≡ 9 * n = chunks_length (corners_of bytes) 9 (nine_length bytes) 0 n in
          let room : 0 + length (chunks (corners_of bytes) 0 n) ≤ length slice = omega arith in
          let end : 0 + length (chunks (corners_of bytes) 0 n) ≡ 9 * n = omega arith in
          record {
            answer_is = e ∙ sym (rw (a', b', t, sym says));
            after_is = p ∙ sets-eq (chunks (corners_of bytes) 0 n) slice 0 room ∙ ap (λ (k : ℕ). chunks (corners_of bytes) 0 n ++ drop k slice) end
                ∙ ap (λ (k : ℕ). chunks (corners_of bytes) 0 k ++ drop (9 * n) slice) says
                ∙ sym (ap (λ (w : StlRead). cond (eqb w.answer 0) (corners bytes ++ drop (9 * w.faces) slice) slice) e);
          }
