-- What a search of the definition comes to, as the code gives it, and back. Definitions only.
use Rattle.std.specs.Prelude.{Option, Some, None}
use Rattle.std.proofs.Math.Option.{Option as Sought, none, some}

-- the same value, if there is one
abbrev pub option_found : {A : Type 0} → Sought A → Option A
option_found none = None
option_found (some x) = Some x

abbrev pub option_sought : {A : Type 0} → Option A → Sought A
option_sought None = none
option_sought (Some x) = some x
