-- The lines of the bytes, line by line from a place on, as a loop meets them: of any kind of line. Assumes nothing.
use mathlib.Core.Path.{◌≡◌, refl, ap, ◌∙◌, subst}
use mathlib.Core.List.{List, [], ◌∷◌}
use Prim.Native.Nat.{ℕ, zero, suc, ◌-◌, ◌≤◌, ◌<◌}
use native.Mathlib.Omega.{arith}
use lib.ListN.{length, drop, length-drop, drop_of_length-le}
use Rattle.numerals.specs.Format.{Parsed, parsed, malformed}

-- a definition of all lines by fuel: what no bytes give, what a malformed line gives, and what a line gives in front of
-- those behind it, of which it leaves fewer bytes
pub record Run (A L : Type 0) : Type 0 where
  pub line : List ℕ → Parsed A
  pub lines : ℕ → List ℕ → L
  pub none : L
  pub failed : L
  pub ahead : A → L → L
  pub lines_none : (fuel : ℕ) → lines fuel [] ≡ none
  pub lines_some : (fuel b : ℕ) (bs : List ℕ) → lines (suc fuel) (b ∷ bs)
      ≡ elim (line (b ∷ bs)) [ parsed a rest ↦ ahead a (lines fuel rest) | malformed ↦ failed ]
  pub shorter : (s : List ℕ) (at next : ℕ) (a : A) → line (drop at s) ≡ parsed a (drop next s) → length s - next < length s - at

module _ {A L : Type 0} (r : Run A L) where
  -- ---- one line of the definition
  line_good : (fuel : ℕ) (bs : List ℕ) (a : A) (rest : List ℕ) → 0 < length bs → r.line bs ≡ parsed a rest → r.lines (suc fuel) bs
      ≡ r.ahead a (r.lines fuel rest)
  line_good fuel [] a rest h e = absurd (omega arith)
  line_good fuel (b ∷ bs) a rest h e = r.lines_some fuel b bs ∙ ap
      (λ (q : Parsed A). elim q [ parsed a rest ↦ r.ahead a (r.lines fuel rest) | malformed ↦ r.failed ]) e

  line_wrong : (fuel : ℕ) (bs : List ℕ) → 0 < length bs → r.line bs ≡ malformed → r.lines (suc fuel) bs ≡ r.failed
  line_wrong fuel [] h e = absurd (omega arith)
  line_wrong fuel (b ∷ bs) h e = r.lines_some fuel b bs ∙ ap
      (λ (q : Parsed A). elim q [ parsed a rest ↦ r.ahead a (r.lines fuel rest) | malformed ↦ r.failed ]) e

  -- ---- the lines from a place on, with fuel that lasts
  pub record From (s : List ℕ) (at : ℕ) (all : L) : Type 0 where
    pub fuel : ℕ
    pub enough : length s - at ≤ fuel
    pub same : all ≡ r.lines fuel (drop at s)

  pub from_start : (s : List ℕ) (at : ℕ) → From s at (r.lines (length (drop at s)) (drop at s))
  from_start s at = record { fuel = length (drop at s); enough = (let e = length-drop at s in omega arith); same = refl }

  module _ (s : List ℕ) (at : ℕ) (all : L) (f : From s at all) where
    pub from_end : length s ≤ at → all ≡ r.none
    from_end h = f.same ∙ ap (r.lines f.fuel) (drop_of_length-le s h) ∙ r.lines_none f.fuel

    module _ (inside : at < length s) where
      bytes_left : 0 < length (drop at s)
      bytes_left = let e = length-drop at s in omega arith

      -- the fuel is not out
      spent : (n : ℕ) → length s - at ≤ n → (m : ℕ) × (n ≡ suc m)
      spent zero h = absurd (omega arith)
      spent (suc n) h = (n, refl)

      pub from_wrong : r.line (drop at s) ≡ malformed → all ≡ r.failed
      from_wrong e = let m = spent f.fuel f.enough in f.same ∙ ap (λ (n : ℕ). r.lines n (drop at s)) m.1 ∙ line_wrong m.0 (drop at s) bytes_left e

      -- the rest, behind the line that was read
      pub from_next : (a : A) (next : ℕ) → r.line (drop at s) ≡ parsed a (drop next s) → (rest : L) × ((all ≡ r.ahead a rest) × From s next rest)
      from_next a next e =
          let m = spent f.fuel f.enough in
          let short = r.shorter s at next a e in
          let en : length s - at ≤ suc m.0 = subst (λ (n : ℕ). length s - at ≤ n) m.1 f.enough in (
            r.lines m.0 (drop next s),
            (
              f.same ∙ ap (λ (n : ℕ). r.lines n (drop at s)) m.1 ∙ line_good m.0 (drop at s) a (drop next s) bytes_left e,
              record { fuel = m.0; enough = omega arith; same = refl },
            ),
          )
