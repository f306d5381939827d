use mathlib.Core.Path.{sym, ◌∙◌}
use native.Mathlib.Omega.{arith}
use Rattle.pack.proofs.RangeLaws.{bodies_next, bodies_none, table_next, table_turn, table_done}
use Rattle.pack.proofs.write.copy_table.Goals as goal

pub copy_element-e-requires : goal.copy_element-e-requires
copy_element-e-requires c =
    let l = c.loop-i in
    let n = bodies_next c.args.leaf c.args.block.now l.out l.i c.args.to l.w (omega arith) in
    let m = table_next c.args.leaf c.args.block.now l.out l.i c.args.to l.w (omega arith) in
    record { sound_block = c.requires.sound_block; i_bound = (omega arith, omega arith, omega arith) }

pub loop-i-preserved : goal.loop-i-preserved
loop-i-preserved c =
    let l = c.loop-i in
    let n = bodies_next c.args.leaf c.args.block.now l.out l.i c.args.to l.w (omega arith) in
    let m = table_next c.args.leaf c.args.block.now l.out l.i c.args.to l.w (omega arith) in
    let t = table_turn c.args.leaf c.args.block.now l.out l.i c.args.to l.w (omega arith) l.e (omega arith) in
    let z = c.element_size-size.ensures in
    let r = c.copy_element-e.ensures.0 in
    let o = c.copy_element-e.ensures.1 in
    (omega arith, omega arith, omega arith, cc)

pub returns : goal.returns
returns c =
    let l = c.loop-i in
    let a = c.args in
    let n = bodies_none a.leaf a.block.now l.out l.i a.to l.w (omega arith) in
    let t = table_done a.leaf a.block.now l.out l.i a.to l.w (omega arith) l.e in
    (omega arith, sym t ∙ l.invariant.3)
