-- Which way a face looks, by its parent's way, and sides as numbers. Assumes nothing.
use mathlib.Core.Path.{◌≡◌, refl, sym, ap, ◌∙◌}
use mathlib.Core.Bool.{Bool, true, false, cond, not}
use mathlib.Core.Logic.{◌⊎◌, inl, inr, ⊎_elim, dite}
use native.Mathlib.Decide.{dec_lt}
use mathlib.Core.List.{List, []}
use Prim.Native.Nat.{ℕ, zero, suc, ◌+◌, ◌≤◌, ◌<◌}
use native.Mathlib.Omega.{arith}
use mir.Val.{bool_byte}
use lib.Dec.{eqb}
use borrow.Author.Tests.{le-ltb}
use lib.ListN.{length, get_or, set, take, length-set}
use lib.Seq.{get_or-set_same, get_or-set_other, get_or-take, length-take-le}
use Rattle.origins.specs.Sides.{out_after, looks_out, looks_in}
use Rattle.origins.proofs.Looking.{other_out, other_in, in_not_out}
use Rattle.looks.specs.Inner.Looks.{parent_in, side_of, HasSides, SidesWritten}

-- a seed, and a face whose parent p was asked
module _ (parent : ℕ → ℕ) (face p : ℕ) (is : p ≡ parent face) where
  seed_out : (n : ℕ) → face ≤ p → true ≡ out_after n parent face
  unfolding out_after
  seed_out zero h = refl
  seed_out (suc n) h = rw (← is, le-ltb p face h)

  pub out_seed : face ≤ p → true ≡ looks_out parent face
  unfolding looks_out
  out_seed h = seed_out face h

  pub in_seed : face ≤ p → false ≡ looks_in parent face
  in_seed h = ap not (out_seed h) ∙ sym (in_not_out parent face)

  pub out_child : {r : Bool} → p < face → r ≡ looks_in parent p → r ≡ looks_out parent face
  out_child h e = e ∙ ap (looks_in parent) is ∙ sym (other_out parent face (omega (arith, is)))

  pub in_child : {r : Bool} → p < face → r ≡ looks_out parent p → r ≡ looks_in parent face
  in_child h e = e ∙ ap (looks_out parent) is ∙ sym (other_in parent face (omega (arith, is)))

-- ---- the sides that are told
told_back : (b : Bool) → eqb (cond (not b) 1 0) 0 ≡ b
told_back true = refl
told_back false = refl

pub told_out : (origins sides : List ℕ) (n face : ℕ) → HasSides origins sides n → face < n
    → eqb (get_or sides face 0) 0 ≡ looks_out (parent_in origins) face
unfolding side_of
told_out origins sides n face k h =
    ap (λ (x : ℕ). eqb x 0) (k.right face h ∙ ap (λ (b : Bool). cond b 1 0) (in_not_out (parent_in origins) face))
    ∙ told_back (looks_out (parent_in origins) face)

pub known_in : (origins sides : List ℕ) (n face : ℕ) → HasSides origins sides n → face < n
    → not (eqb (get_or sides face 0) 0) ≡ looks_in (parent_in origins) face
known_in origins sides n face k h = ap not (told_out origins sides n face k h) ∙ sym (in_not_out (parent_in origins) face)

pub none_told : (origins : List ℕ) → HasSides origins [] 0
none_told origins = record { long = omega arith; right = λ face h. absurd (omega arith) }

pub front_told : (origins sides : List ℕ) (n : ℕ) → HasSides origins sides n → HasSides origins (take n sides) (length (take n sides))
front_told origins sides n k =
    let l = length-take-le n sides k.long in
    record {
      long = omega arith;
      right = λ face h. let b : face < n = omega arith in get_or-take n sides face 0 b ∙ k.right face b;
    }

-- ---- the pass
below : (a n : ℕ) → a < n + 1 → (a < n) ⊎ (a ≡ n)
below a n h = dite (dec_lt a n) inl (λ q. inr (omega arith))

byte_side : (b : Bool) → bool_byte b ≡ cond b 1 0
byte_side true = refl
byte_side false = refl

pub side_is : (origins : List ℕ) (face side : ℕ) (inward : Bool) → inward ≡ looks_in (parent_in origins) face → side ≡ bool_byte inward
    → side ≡ side_of origins face
unfolding side_of
side_is origins face side inward e f = f ∙ ap bool_byte e ∙ byte_side (looks_in (parent_in origins) face)

pub told_step : (origins before now : List ℕ) (n side : ℕ) → n < length now → side ≡ side_of origins n → SidesWritten origins before now n
    → SidesWritten origins before (set now n side) (n + 1)
told_step origins before now n side l e t = record {
  known = record {
    long = rw (length-set now n side) (omega arith);
    right = λ face h. ⊎_elim
        (λ (q : face < n). get_or-set_other now n face side 0 (λ z. omega arith) ∙ t.known.right face q)
        (λ (q : face ≡ n). ap (λ (j : ℕ). get_or (set now n side) j 0) q ∙ get_or-set_same now n side 0 l ∙ e ∙ ap (side_of origins) (sym q))
        (below face n h);
  };
  same = length-set now n side ∙ t.same;
  rest = λ k h. get_or-set_other now n k side 0 (λ z. omega arith) ∙ t.rest k (omega arith);
}
