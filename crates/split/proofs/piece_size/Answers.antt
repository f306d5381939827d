use Prim.Native.Nat.{◌+◌}
use native.Mathlib.Omega.{arith}
use Rattle.pack.specs.Plan.{range}
use Rattle.size.proofs.SizeLaws.{size_least, size_next, size_none}
use Rattle.split.proofs.piece_size.Goals as goal

pub loop-k-preserved : goal.loop-k-preserved
loop-k-preserved c =
    let a = c.args in
    let n = size_next a.leaf a.b.now c.loop-k.k a.j (omega arith) in
    let m = size_least a.leaf (range a.leaf a.b.now (c.loop-k.k + 1) a.j) in
    let e = c.entry_size.ensures in
    let s = c.add_capped-sum.ensures in
    (omega arith, omega arith)

pub returns : goal.returns
returns c =
    let a = c.args in
    let n = size_none a.leaf a.b.now c.loop-k.k a.j (omega arith) in
    let v = c.loop-k.invariant.1 in
    omega arith
