-- `node::edit::write_new` meets its contract: the plan takes nothing of its source, a block with no entries. Assumes nothing.
use mathlib.Core.Path.{refl}
use native.Mathlib.Omega.{arith}
use lib.ListN.{replicate}
use Rattle.pack.proofs.PlanLaws.{plan_new, no_entries}
use Rattle.node.proofs.EditLaws.{same_node}
use Rattle.node.proofs.edit.write_new.Goals as goal

pub write_planned-requires : goal.write_planned-requires
write_planned-requires c =
    record { sound_block = no_entries c.args.leaf; within = record { front = omega arith; middle = omega arith; back = omega arith; end = omega arith }; p_nonzero = c.requires }

pub returns : goal.returns
returns c =
    let a = c.args in
    let e = plan_new a.leaf (replicate 32 0) a.tag a.key.now a.value.now in
    same_node a.leaf a.p a.out.now e refl c.write_planned.ensures
