-- The triples of the plain path that come to its cross product test. Definitions only.
use Rattle.std.specs.Prelude.{ℕ, ◌/◌, Bool, List, ltb, length, Float}
use Rattle.lists.specs.Lists.{any, up_from}
use Rattle.plain.specs.Plain.{candidates}

-- point i has two candidates among the points before it: they come to the test with it, however far they are from
-- each other
unfoldable pub paired : List Float → Float → ℕ → Bool
paired points radius i = ltb 1 (length (candidates points radius i (up_from 0 i)))

-- some point of the cloud has
unfoldable pub plain_reached : List Float → Float → Bool
plain_reached points radius = any (paired points radius) (up_from 0 (length points / 3))
