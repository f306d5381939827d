-- `freelist::table::clear_bits` meets its contract: zeros stand at the front of the table.
-- Assumes nothing.
use native.Mathlib.Omega.{arith}
use lib.ListN.{replicate}
use lib.Seq.{length-take-le}
use Rattle.field.proofs.RunLaws.{put_start}
use Rattle.freelist.specs.Freelist.{new_table}
use Rattle.freelist.proofs.table.clear_bits.Goals as goal

pub returns : goal.returns
unfolding new_table
returns c =
    let t = c.args.t.now in
    let e = c.fill.ensures.after (λ y e. e) in
    let l = length-take-le 1024 t (omega arith) in
    let s = put_start t (replicate 1024 0) in
    rw (e, l, s)
