use mathlib.Core.Path.{sym}
use native.Mathlib.Omega.{arith}
use Rattle.field.proofs.CommonLaws.{common_within, common_flip, common_more, common_ends}
use Rattle.field.proofs.order.common_of.Goals as goal

pub returns-then-a-i : goal.returns-then-a-i
returns-then-a-i c =
    let a = c.args in
    sym (common_ends a.a.now a.b.now c.loop-i.i c.loop-i.invariant (λ e. c.if-a-i.true e))

pub loop-i-preserved : goal.loop-i-preserved
loop-i-preserved c =
    let a = c.args in
    common_more a.a.now a.b.now c.loop-i.i c.loop-i.invariant (omega arith) (omega arith) c.if-a-i.false

pub returns : goal.returns
returns c =
    let a = c.args in
    let first = common_within a.a.now a.b.now in
    let second = common_within a.b.now a.a.now in
    let same = common_flip a.a.now a.b.now in
    let inv = c.loop-i.invariant in
    omega (arith, c.min-n.ensures)
