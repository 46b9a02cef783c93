-- When a third point completes a triangle, as one test. Definitions only.
use Rattle.std.specs.Prelude.{ℕ, Bool, ◌&&◌, List, Float}
use Rattle.decisions.specs.declared.Scene.{Scene}
use Rattle.decisions.specs.Decisions.{quality_at, is_close, accepts}

-- k is near enough to i and j and makes an acceptable triangle with them
unfoldable pub completes : Scene → List Float → Float → ℕ → ℕ → ℕ → Bool
completes s pts r i j k = is_close pts r i k && (is_close pts r j k && accepts s r (quality_at pts i j k))
