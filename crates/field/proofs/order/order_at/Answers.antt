-- `field::order::order_at` meets its contract: not lower, the first is higher where it has a byte more, and else both end there. Assumes nothing.
use mathlib.Core.Path.{sym, ◌∙◌}
use native.Mathlib.Omega.{arith}
use Rattle.field.proofs.OrderLaws.{is_lt_lem}
use Rattle.field.proofs.CommonLaws.{left_over, none_over}
use Rattle.field.proofs.order.order_at.Goals as goal

pub returns-then-lower_at : goal.returns-then-lower_at
returns-then-lower_at c = sym (is_lt_lem _ (sym c.lower_at.ensures ∙ c.if-lower_at.true))

pub returns-then-at-a : goal.returns-then-at-a
returns-then-at-a c =
    sym
    (left_over c.args.a.now c.args.b.now c.args.at c.requires (sym c.lower_at.ensures ∙ c.if-lower_at.false) (omega arith))

pub returns : goal.returns
returns c =
    sym
    (none_over c.args.a.now c.args.b.now c.args.at c.requires (sym c.lower_at.ensures ∙ c.if-lower_at.false) (omega arith))
