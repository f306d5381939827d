use Prim.Native.Nat.{◌+◌}
use mathlib.Core.Path.{refl, sym, ◌∙◌}
use native.Mathlib.Nat.{add-zero}
use native.Mathlib.Omega.{arith}
use lib.ListN.{length-set}
use Rattle.field.proofs.RunLaws.{put_turn, put_done}
use Rattle.field.proofs.run.copy.Goals as goal

pub loop-j-init : goal.loop-j-init
loop-j-init c = (refl, rw add-zero)

pub loop-j-preserved : goal.loop-j-preserved
loop-j-preserved c =
    let l = c.loop-j in
    let a = c.args in
    (simp length-set l.invariant.0, put_turn l.out a.src.now a.at l.j (omega arith) (omega arith) ∙ l.invariant.1)

pub returns : goal.returns
returns c =
    let l = c.loop-j in
    let a = c.args in
    sym (put_done l.out a.src.now (a.at + l.j) l.j (omega arith)) ∙ l.invariant.1
