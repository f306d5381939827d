use mathlib.Core.Path.{◌≡◌}
use native.Mathlib.Nat.{add-sub_cancel}
use native.Mathlib.Omega.{arith}
use Rattle.page.specs.Layout.{key_at}
use Rattle.pack.proofs.RangeLaws.{run_one, run_next}
use Rattle.pack.proofs.write.run_end.Goals as goal

pub loop-i-init : goal.loop-i-init
loop-i-init c =
    let a = c.args in
    let e = c.body_end-end.ensures in
    let o = run_one a.leaf a.block.now a.from in
    (rw add-sub_cancel e, omega arith, rw e o)

pub loop-i-preserved : goal.loop-i-preserved
loop-i-preserved c =
    let l = c.loop-i in
    let a = c.args in
    let e = c.body_end-end-in-loop-i.ensures in
    let k : l.end ≡ key_at a.leaf a.block.now l.i = omega arith in
    let n = run_next a.leaf a.block.now a.from l.i (omega arith) (omega arith) (rw k at l.invariant.2) in
    (rw add-sub_cancel e, omega arith, rw e n)
