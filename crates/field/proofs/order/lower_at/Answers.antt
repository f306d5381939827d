-- `field::order::lower_at` meets its contract: one key ends there, or the byte there decides. Assumes nothing.
use mathlib.Core.Path.{sym}
use native.Mathlib.Omega.{arith}
use Rattle.field.proofs.CommonLaws.{second_ended, first_ended, by_byte}
use Rattle.field.proofs.order.lower_at.Goals as goal

pub returns-then-b-at : goal.returns-then-b-at
returns-then-b-at c =
    sym (second_ended c.args.a.now c.args.b.now c.args.at c.requires (omega arith))

pub returns-then-a-at : goal.returns-then-a-at
returns-then-a-at c =
    sym (first_ended c.args.a.now c.args.b.now c.args.at c.requires (omega arith) (omega arith))

pub returns : goal.returns
returns c =
    sym (by_byte c.args.a.now c.args.b.now c.args.at c.requires (omega arith) (omega arith))
