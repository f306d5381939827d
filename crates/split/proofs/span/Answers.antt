-- `split::span` meets its contract, by `span_counted`. Assumes nothing.
use native.Mathlib.Omega.{arith}
use Rattle.pack.specs.Pack.{node_size}
use Rattle.pack.specs.Plan.{range}
use Rattle.split.proofs.WriteLaws.{span_counted}
use Rattle.split.proofs.span.Goals as goal

pub returns : goal.returns
returns c =
    let a = c.args in
    let e = span_counted (node_size a.leaf (range a.leaf a.b.now a.i a.j)) c.piece_size.result a.p (omega arith) (omega arith) c.piece_size.ensures in
    omega arith
