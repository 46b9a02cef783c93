-- What holds of the faces of the main call where it answers 0 and there are radii, under either rule of the frontier.
-- Definitions only.
use Rattle.std.specs.Prelude.{◌≡◌, true, List, ℕ}
use Rattle.patch.specs.Lay.{Face}
use Rattle.orders.specs.Order.{greedy, order_accepted, Rearranged, Valid}

-- in any order of their lines, the first two points of any of them swapped, they are accepted
pub record Ours (fs : List Face) : Type 0 where
  pub ours : (hs : List Face) (order : List ℕ) → Rearranged fs hs order → order_accepted hs ≡ true
  pub ordered : (hs : List Face) (order : List ℕ) → Rearranged fs hs order → Valid hs (greedy hs)
