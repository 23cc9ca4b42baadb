-- All of 02, C-22, as one statement. Assumes nothing.
use Rattle.orders.specs.Advances.{Advances}
use Rattle.orders.specs.EitherOrder.{EitherOrder}
use Rattle.orders.specs.Example.{Shown}
use Rattle.orders.specs.Locality.{Locality}

pub record Demand : Type 0 where
  -- two calls on different parties leave the same and answer the same, in either order
  pub either_order : EitherOrder
  -- what a call answers depends on its own party, and on what all share
  pub locality : Locality
  -- advances add up, at both ends
  pub advances : Advances
  -- pairs that change places, and two that may not
  pub example : Shown
