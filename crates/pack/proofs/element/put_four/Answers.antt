-- `pack::element::put_four` meets its contract: a word put after three. Assumes nothing.
use Prim.Native.Nat.{◌+◌}
use mathlib.Core.List.{◌++◌}
use native.Mathlib.Omega.{arith}
use lib.ListN.{length-append}
use Rattle.field.specs.Field.{bytes_of}
use Rattle.field.proofs.FieldLaws.{length_bytes}
use Rattle.field.proofs.RunLaws.{put_then}
use Rattle.pack.proofs.element.put_four.Goals as goal

pub returns : goal.returns
returns c =
    let x = bytes_of 8 c.args.a in
    let y = bytes_of 8 c.args.b in
    let z = bytes_of 8 c.args.c in
    let lx = length_bytes 8 c.args.a in
    let ly = length_bytes 8 c.args.b in
    let lz = length_bytes 8 c.args.c in
    let lxy = length-append x y in
    let lxyz = length-append (x ++ y) z in
    put_then c.args.out.now c.args.at (c.args.at + 24) (x ++ y ++ z) (bytes_of 8 c.args.d) (omega arith) (omega arith)
    c.put_three.ensures c.put_u64.ensures
