-- `pack::element::put_body` meets its contract: two runs put, one after the other. Assumes nothing.
use Prim.Native.Nat.{◌+◌}
use mathlib.Core.Path.{refl}
use borrow.Author.Rules.{rules}
use native.Mathlib.Omega.{arith}
use lib.ListN.{length}
use Rattle.field.proofs.RunLaws.{put_then}
use Rattle.pack.proofs.element.put_body.Goals as goal

pub returns : goal.returns
returns c =
    let a = c.args in
    (search rules, put_then a.out.now a.at (a.at + length a.key.now) a.key.now a.value.now refl (omega arith) c.copy.ensures c.copy-2.ensures)
