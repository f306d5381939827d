-- `split::piece_end` meets its contract: the next cut, or the block's count where there is none. Assumes nothing.
use mathlib.Core.Path.{ap₂, ◌∙◌}
use native.Mathlib.Omega.{arith}
use Rattle.std.specs.Prelude.{unwrap_or}
use Rattle.split.proofs.WriteLaws.{end_between}
use Rattle.split.proofs.piece_end.Goals as goal

pub returns : goal.returns
returns c =
    let a = c.args in
    let e = c.unwrap_or.ensures ∙ ap₂ unwrap_or c.next_cut.ensures c.count.ensures in
    let w = end_between a.leaf a.t a.b.now a.end a.c (omega arith) (omega arith) in
    (e, omega arith, omega arith)
