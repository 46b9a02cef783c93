-- The pass over all lines, line by line: what was found so far and what is left come to the whole. Assumes nothing.
use mathlib.Core.Path.{◌≡◌, refl, sym, ap, ◌∙◌}
use mathlib.Core.Bool.{Bool, true, false, ◌||◌}
use mathlib.Core.List.{List, [], ◌∷◌}
use Prim.Native.Nat.{ℕ, suc, ◌+◌, ◌-◌, ◌≤◌, ◌<◌}
use native.Mathlib.Omega.{arith}
use native.Mathlib.Nat.{zero-add, add-zero}
use lib.ListN.{length, drop}
use lib.Dec.{ltb}
use borrow.Author.Tests.{lt-ltb}
use Rattle.std.specs.Prelude.{Result, Ok, Err}
use Rattle.lists.specs.Lists.{bit, count, any}
use Rattle.numerals.specs.Format.{parsed, malformed}
use Rattle.numerals.specs.declared.MalformedLine.{MalformedLine}
use Rattle.patch.specs.Lay.{Face}
use Rattle.face_lines.specs.Format.{line, FaceLines, good, wrong, face_ahead, face_file, outside, twice}
use Rattle.face_lines.specs.Inner.Answers.{scan_of_lines}
use Rattle.face_lines.specs.declared.FacesScanned.{FacesScanned}
use Rattle.face_lines.proofs.Parts.{line_shorter}
use Rattle.numerals.proofs.Rows.{From, from_end, from_wrong, from_next}
use Rattle.face_lines.proofs.Rows.{faces_run, file_start}

-- ---- flags
module _ (p : Face → Bool) where
  any_more : (f : Face) (fs : List Face) → any p (f ∷ fs) ≡ (p f || any p fs)
  unfolding any
  any_more f fs = go (p f)
    where
      go : (b : Bool) → ltb 0 (bit b + count p fs) ≡ (b || ltb 0 (count p fs))
      go true = lt-ltb 0 (1 + count p fs) (omega arith)
      go false = ap (ltb 0) (zero-add (count p fs))

  flag_more : (b : Bool) (f : Face) (fs : List Face) → (b || any p (f ∷ fs)) ≡ ((b || p f) || any p fs)
  flag_more true f fs = refl
  flag_more false f fs = any_more f fs

  flag_end : (b : Bool) → (b || any p []) ≡ b
  unfolding any
  flag_end true = refl
  flag_end false = refl

-- ---- k lines with these flags, and then these
abbrev seen : ℕ → Bool → Bool → Result FacesScanned MalformedLine
seen k o t = Ok (record { count = k; outside = o; twice = t })

module _ (n : ℕ) where
  abbrev onward : ℕ → Bool → Bool → FaceLines → Result FacesScanned MalformedLine
  onward k o t (good fs) = seen (k + length fs) (o || any (outside n) fs) (t || any twice fs)
  onward k o t (wrong number) = Err (record { line = k + number })

  onward_none : (l : FaceLines) → onward 0 false false l ≡ scan_of_lines n l
  unfolding scan_of_lines
  onward_none (good fs) = rw (zero-add (length fs))
  onward_none (wrong number) = rw (zero-add number)

  onward_ahead : (k : ℕ) (o t : Bool) (f : Face) (l : FaceLines) → onward k o t (face_ahead f l) ≡ onward (k + 1) (o || outside n f) (t || twice f) l
  unfolding face_ahead
  onward_ahead k o t f (good fs) =
      let e : k + suc (length fs) ≡ k + 1 + length fs = omega arith in
      rw (e, flag_more (outside n) o f fs, flag_more twice t f fs)
  onward_ahead k o t f (wrong number) = let e : k + suc number ≡ k + 1 + number = omega arith in rw e

  onward_end : (k : ℕ) (o t : Bool) → onward k o t (good []) ≡ seen k o t
  onward_end k o t = rw (add-zero k, flag_end (outside n) o, flag_end twice t)

-- k lines were read up to a place, and these are left
pub record Scanning (s : List ℕ) (n k : ℕ) (o t : Bool) (at : ℕ) : Type 0 where
  pub left : FaceLines
  pub source : From faces_run s at left
  pub same : scan_of_lines n (face_file s) ≡ onward n k o t left
  pub few : k + (length s - at) ≤ length s

pub scanning_start : (s : List ℕ) (n : ℕ) → Scanning s n 0 false false 0
scanning_start s n = record { left = face_file s; source = file_start s; same = sym (onward_none n (face_file s)); few = omega arith }

module _ (s : List ℕ) (n k : ℕ) (o t : Bool) (at : ℕ) (c : Scanning s n k o t at) where
  pub scanning_end : length s ≤ at → Ok (record { count = k; outside = o; twice = t }) ≡ scan_of_lines n (face_file s)
  scanning_end h = sym (c.same ∙ ap (onward n k o t) (from_end faces_run s at c.left c.source h) ∙ onward_end n k o t)

  module _ (inside : at < length s) where
    pub scanning_wrong : line (drop at s) ≡ malformed → Err (record { line = k + 1 }) ≡ scan_of_lines n (face_file s)
    scanning_wrong e = sym (c.same ∙ ap (onward n k o t) (from_wrong faces_run s at c.left c.source inside e))

    pub scanning_next : (f : Face) (next : ℕ) (o' t' : Bool) → line (drop at s) ≡ parsed f (drop next s) → o' ≡ (o || outside n f) → t' ≡ (t || twice f)
        → Scanning s n (k + 1) o' t' next
    scanning_next f next o' t' e eo et =
        let m = from_next faces_run s at c.left c.source inside f next e in
        let short = line_shorter s at next f e in
        let few = c.few in
        record {
          left = m.0;
          source = m.1.1;
          same = rw (eo, et) (c.same ∙ ap (onward n k o t) m.1.0 ∙ onward_ahead n k o t f m.0);
          few = omega arith;
        }

-- ---- what the pass says of the lines
pub record Good (n : ℕ) (l : FaceLines) (r : FacesScanned) : Type 0 where
  pub faces : List Face
  pub lines : l ≡ good faces
  pub many : r.count ≡ length faces
  pub out : r.outside ≡ any (outside n) faces
  pub same : r.twice ≡ any twice faces

module _ (n : ℕ) where
  pub scanned_good : (l : FaceLines) (r : FacesScanned) → Ok r ≡ scan_of_lines n l → Good n l r
  unfolding scan_of_lines
  scanned_good (good fs) r e = record { faces = fs; lines = refl; many = cc; out = cc; same = cc }
  scanned_good (wrong k) r e = cc

  pub scanned_wrong : (l : FaceLines) (m : MalformedLine) → Err m ≡ scan_of_lines n l → l ≡ wrong m.line
  unfolding scan_of_lines
  scanned_wrong (good fs) m e = cc
  scanned_wrong (wrong k) m e = cc
