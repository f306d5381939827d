-- `pack::element::put_three` meets its contract: three words put, one after the other. Assumes nothing.
use Prim.Native.Nat.{◌+◌}
use mathlib.Core.List.{◌++◌}
use native.Mathlib.Omega.{arith}
use lib.ListN.{length-append}
use Rattle.field.specs.Field.{bytes_of}
use Rattle.field.proofs.FieldLaws.{length_bytes}
use Rattle.field.proofs.RunLaws.{put_then}
use Rattle.pack.proofs.element.put_three.Goals as goal

pub returns : goal.returns
returns c =
    let o = c.args.out.now in
    let at = c.args.at in
    let x = bytes_of 8 c.args.a in
    let y = bytes_of 8 c.args.b in
    let lx = length_bytes 8 c.args.a in
    let ly = length_bytes 8 c.args.b in
    let lxy = length-append x y in
    put_then o at (at + 8 + 8) (x ++ y) (bytes_of 8 c.args.c) (omega arith) (omega arith)
    (put_then o at (at + 8) x y (omega arith) (omega arith) c.put_u64.ensures c.put_u64-2.ensures) c.put_u64-3.ensures
