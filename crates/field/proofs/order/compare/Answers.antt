-- `field::order::compare` meets its contract: the order and the length, side by side. Assumes nothing.
use Prim.Native.Nat.{ℕ}
use mathlib.Core.Path.{ap₂}
use Rattle.std.specs.declared.cmp.Ordering.{Ordering}
use Rattle.field.specs.declared.order.Parting.{Parting}
use Rattle.field.proofs.order.compare.Goals as goal

-- the answer of an order and a length
abbrev parts : Ordering → ℕ → Parting
parts order common = record { order = order; common = common }

pub returns : goal.returns
returns c = ap₂ parts c.order_at-order.ensures c.common_of-common.ensures

pub order_at-order-requires : goal.order_at-order-requires
order_at-order-requires c = c.common_of-common.ensures
