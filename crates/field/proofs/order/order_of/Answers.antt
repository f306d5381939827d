use Prim.Native.Nat.{◌-◌}
use mathlib.Core.Path.{sym}
use native.Mathlib.Omega.{arith}
use Rattle.field.proofs.FieldLaws.{Bytes}
use Rattle.field.proofs.CommonLaws.{least, ended}
use Rattle.field.proofs.WordLaws.{lower_here, higher_here, goes_on}
use Rattle.field.proofs.order.order_of.Goals as goal
use Rattle.field.proofs.order.order_of.Goals.{At-loop-i}

left-bytes : (c : At-loop-i) → Bytes c.args.a.now
left-bytes c k = omega (arith, c.shared_slice_known-1.given k)

right-bytes : (c : At-loop-i) → Bytes c.args.b.now
right-bytes c k = omega (arith, c.shared_slice_known-2-1.given k)

pub returns-then-x-y-2 : goal.returns-then-x-y-2
returns-then-x-y-2 c =
    sym (lower_here _ _ (left-bytes (goal.at.returns-then-x-y-2 c).At-loop-i) (right-bytes (goal.at.returns-then-x-y-2 c).At-loop-i) c.loop-i.i c.loop-i.invariant.4 (omega arith) (omega arith) (omega arith))

pub returns-then-x-y : goal.returns-then-x-y
returns-then-x-y c =
    sym (higher_here _ _ (left-bytes (goal.at.returns-then-x-y c).At-loop-i) (right-bytes (goal.at.returns-then-x-y c).At-loop-i) c.loop-i.i c.loop-i.invariant.4 (omega arith) (omega arith) (omega arith))

pub loop-i-preserved : goal.loop-i-preserved
loop-i-preserved c =
    (omega arith, omega arith, omega arith, omega arith, goes_on _ _ (left-bytes (goal.at.loop-i-preserved c).At-loop-i) (right-bytes (goal.at.loop-i-preserved c).At-loop-i) c.loop-i.i c.loop-i.invariant.4 (omega arith) (omega arith) (omega arith))

pub returns-then-x-y-4 : goal.returns-then-x-y-4
returns-then-x-y-4 c =
    sym (lower_here _ _ (left-bytes (goal.at.returns-then-x-y-4 c).At-loop-i) (right-bytes (goal.at.returns-then-x-y-4 c).At-loop-i) (c.min-n.result - 8) (omega (arith, c.loop-i.invariant.4)) (omega arith) (omega arith) (omega arith))

pub returns-then-x-y-3 : goal.returns-then-x-y-3
returns-then-x-y-3 c =
    sym (higher_here _ _ (left-bytes (goal.at.returns-then-x-y-3 c).At-loop-i) (right-bytes (goal.at.returns-then-x-y-3 c).At-loop-i) (c.min-n.result - 8) (omega (arith, c.loop-i.invariant.4)) (omega arith) (omega arith) (omega arith))

pub order_at-requires-2 : goal.order_at-requires-2
order_at-requires-2 c =
    let a = c.args in
    let n = c.min-n.result in
    let same = goes_on a.a.now a.b.now (left-bytes (goal.at.order_at-requires-2 c).At-loop-i) (right-bytes (goal.at.order_at-requires-2 c).At-loop-i) (n - 8) (omega (arith, c.loop-i.invariant.4)) (omega arith) (omega arith) (omega arith) in
    ended a.a.now a.b.now n (omega arith) (least _ _ _ c.min-n.ensures).2

pub order_at-requires : goal.order_at-requires
order_at-requires c = c.common_of.ensures

pub returns-then-n-lt8 : goal.returns-then-n-lt8
returns-then-n-lt8 c = c.order_at.ensures

pub loop-i-init : goal.loop-i-init
loop-i-init c = (omega arith, omega arith, omega arith, omega arith, omega arith)

pub returns : goal.returns
returns c = c.order_at-2.ensures
