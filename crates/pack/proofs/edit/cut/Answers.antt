-- `pack::edit::cut` meets its contract: the plan is that of a cut. Assumes nothing.
use native.Mathlib.Omega.{arith}
use Rattle.pack.proofs.PlanLaws.{plan_cut, same_block}
use Rattle.pack.proofs.edit.cut.Goals as goal

pub write-requires : goal.write-requires
write-requires c =
    let a = c.args in
    let e = plan_cut a.leaf a.block.now a.i a.j a.block.now a.block.now c.requires.i_le_j.0 c.requires.i_le_j.1 in
    record {
      sound_block = c.requires.sound_block;
      within = record { front = omega arith; middle = omega arith; back = omega arith; end = omega arith };
      p_nonzero = (c.requires.i_le_j.2, c.requires.i_le_j.3, rw e c.requires.i_le_j.4);
    }

pub returns : goal.returns
returns c =
    let a = c.args in
    let e = plan_cut a.leaf a.block.now a.i a.j a.block.now a.block.now c.requires.i_le_j.0 c.requires.i_le_j.1 in
    same_block a.leaf a.id a.p c.write.result a.out.now _ e c.write.ensures
