-- `cuts::run_end` meets its contract: the two tests are those of `unsplit`, on a size that is counted past every page size. Assumes nothing.
use native.Mathlib.Omega.{arith}
use Rattle.cuts.proofs.RunLaws.{end_few, end_small, end_whole}
use Rattle.cuts.proofs.run_end.Goals as goal
use Rattle.cuts.proofs.run_end.Goals.{then-n-via-then-n, then-n-via-else-n+then-size-p}

pub returns-then-n : goal.returns-then-n
returns-then-n c =
    let a = c.args in
    elim c.then-n.branch [
      | then-n-via-then-n w ↦ end_few a.leaf a.p a.b.now (omega arith)
      | then-n-via-else-n+then-size-p w ↦ end_small a.leaf a.p a.b.now (omega arith)
    ]

pub returns : goal.returns
returns c =
    let a = c.args in
    let e = end_whole a.leaf a.p a.b.now (omega arith) (omega arith) in
    omega arith
