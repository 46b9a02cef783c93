-- What the inner functions require and ensure.
use Rattle.std.specs.Prelude.{ℕ, ◌+◌, ◌≡◌, List, length}
use Rattle.std.proofs.lemmas.List.Edits.{sets}

-- Bytes were put at a place of a buffer, as far as it goes, and r is the place after them.
pub record PutBytes (bytes before after : List ℕ) (at r : ℕ) : Type 0 where
  pub holds : after ≡ sets before at bytes
  pub next : r ≡ at + length bytes
