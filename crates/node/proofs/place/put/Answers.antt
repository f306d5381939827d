-- `node::place::put` meets its contract: the planned entries are those with the new one inserted. Assumes nothing.
use native.Mathlib.Omega.{arith}
use Rattle.node.proofs.NodeLaws.{lent, lent_as}
use Rattle.node.proofs.place.put.Goals as goal

pub id-page-requires : goal.id-page-requires
id-page-requires c = (lent c.args.p c.args.b.now c.requires.0).long

pub plan_of-plan-requires : goal.plan_of-plan-requires
plan_of-plan-requires c =
    lent_as c.args.p c.args.b.now c.args.leaf c.requires.0 c.requires.1

pub write_planned-requires : goal.write_planned-requires
write_planned-requires c =
    let l = lent c.args.p c.args.b.now c.requires.0 in
    let low = l.least in
    record { sound_block = lent_as c.args.p c.args.b.now c.args.leaf c.requires.0 c.requires.1; within = c.plan_of-plan.ensures.0; p_nonzero = (omega arith, l.most) }
