-- Which way a face looks. Definitions only.
use Rattle.std.specs.Prelude.{ℕ, zero, suc, Bool, true, false, cond, ltb}

-- `parent` tells the number of each face's parent: any parent comes earlier but a seed's, which is its own. Whether
-- the face looks out, or in, told in so many steps back at most:
unfoldable mutual
  pub out_after : ℕ → (ℕ → ℕ) → ℕ → Bool
  out_after zero parent face = true
  out_after (suc n) parent face = cond (ltb (parent face) face) (in_after n parent (parent face)) true

  pub in_after : ℕ → (ℕ → ℕ) → ℕ → Bool
  in_after zero parent face = false
  in_after (suc n) parent face = cond (ltb (parent face) face) (out_after n parent (parent face)) false

-- A seed looks out; any other face looks out when its parent looks in, and looks in when its parent looks out.
-- A parent comes earlier, so as many steps as the face's number are enough.
unfoldable pub looks_out : (ℕ → ℕ) → ℕ → Bool
looks_out parent face = out_after face parent face

unfoldable pub looks_in : (ℕ → ℕ) → ℕ → Bool
looks_in parent face = in_after face parent face
