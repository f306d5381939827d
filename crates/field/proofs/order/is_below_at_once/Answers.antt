-- `field::order::is_below_at_once` meets its contract, whichever way it compares. Assumes nothing.
use native.Mathlib.Omega.{arith}
use Rattle.field.proofs.CommonLaws.{least}
use Rattle.field.proofs.order.is_below_at_once.Goals as goal

pub is_below_by_four-requires : goal.is_below_by_four-requires
is_below_by_four-requires c = let l = (least _ _ _ c.min-n.ensures) in (omega arith, omega arith, l.0, l.1, l.2)

pub returns-then-n-le32 : goal.returns-then-n-le32
returns-then-n-le32 c = c.is_below_by_four.ensures

pub returns : goal.returns
returns c = c.is_below.ensures
