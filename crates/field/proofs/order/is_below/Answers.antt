use Prim.Native.Nat.{◌-◌}
use mathlib.Core.Path.{sym, ap₂, ◌∙◌}
use native.Mathlib.Omega.{arith}
use lib.Dec.{ltb}
use Rattle.field.proofs.FieldLaws.{Bytes}
use Rattle.field.proofs.CommonLaws.{least, by_length}
use Rattle.field.proofs.WordLaws.{parts_here, goes_on}
use Rattle.field.proofs.order.is_below.Goals as goal
use Rattle.field.proofs.order.is_below.Goals.{At-loop-i}

left-bytes : (c : At-loop-i) → Bytes c.args.a.now
left-bytes c k = omega (arith, c.shared_slice_known-1.given k)

right-bytes : (c : At-loop-i) → Bytes c.args.b.now
right-bytes c k = omega (arith, c.shared_slice_known-2-1.given k)

pub returns-then-x-y : goal.returns-then-x-y
returns-then-x-y c =
    let x = c.big_u64_at-x.ensures in
    let y = c.big_u64_at-y.ensures in
    ap₂ ltb x y ∙ sym (parts_here _ _ (left-bytes (goal.at.returns-then-x-y c).At-loop-i) (right-bytes (goal.at.returns-then-x-y c).At-loop-i) c.loop-i.i c.loop-i.invariant.4 (omega arith) (omega arith) (λ e. c.if-x-y.true (x ∙ e ∙ sym y)))

pub loop-i-preserved : goal.loop-i-preserved
loop-i-preserved c =
    (omega arith, omega arith, omega arith, omega arith, goes_on _ _ (left-bytes (goal.at.loop-i-preserved c).At-loop-i) (right-bytes (goal.at.loop-i-preserved c).At-loop-i) c.loop-i.i c.loop-i.invariant.4 (omega arith) (omega arith) (omega arith))

pub returns-then-x-y-2 : goal.returns-then-x-y-2
returns-then-x-y-2 c =
    let x = c.big_u64_at-x-2.ensures in
    let y = c.big_u64_at-y-2.ensures in
    ap₂ ltb x y ∙ sym (parts_here _ _ (left-bytes (goal.at.returns-then-x-y-2 c).At-loop-i) (right-bytes (goal.at.returns-then-x-y-2 c).At-loop-i) _ (omega (arith, c.loop-i.invariant.4)) (omega arith) (omega arith) (λ e. c.if-x-y-2.true (x ∙ e ∙ sym y)))

pub returns : goal.returns
returns c =
    let a = c.args in
    let n = c.min-n.result in
    let same = goes_on a.a.now a.b.now (left-bytes (goal.at.returns c).At-loop-i) (right-bytes (goal.at.returns c).At-loop-i) (n - 8) (omega (arith, c.loop-i.invariant.4)) (omega arith) (omega arith) (omega arith) in
    sym (by_length a.a.now a.b.now n (omega arith) (least _ _ _ c.min-n.ensures).2)

pub lower_at-requires : goal.lower_at-requires
lower_at-requires c = c.common_of.ensures

pub returns-then-n-lt8 : goal.returns-then-n-lt8
returns-then-n-lt8 c = c.lower_at.ensures

pub loop-i-init : goal.loop-i-init
loop-i-init c = (omega arith, omega arith, omega arith, omega arith, omega arith)
