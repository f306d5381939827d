-- `pack::write::write_bodies` meets its contract: three runs of keys and values put, one after the other, are one. Assumes nothing.
use native.Mathlib.Omega.{arith}
use Rattle.pack.proofs.PlanLaws.{planned_bodies, planned_run}
use Rattle.pack.proofs.write.write_bodies.Goals as goal

pub copy_bodies-e-requires : goal.copy_bodies-e-requires
copy_bodies-e-requires c =
    let a = c.args in
    let n = planned_bodies a.leaf a.block.now a.plan a.key.now a.value.now in
    record { sound_block = c.requires.sound_block; from_le_to = (c.requires.within.front, c.requires.within.middle, omega arith) }

pub put_new_body-f-requires : goal.put_new_body-f-requires
put_new_body-f-requires c =
    let a = c.args in
    let n = planned_bodies a.leaf a.block.now a.plan a.key.now a.value.now in
    omega arith

pub copy_bodies-requires : goal.copy_bodies-requires
copy_bodies-requires c =
    let a = c.args in
    let n = planned_bodies a.leaf a.block.now a.plan a.key.now a.value.now in
    record { sound_block = c.requires.sound_block; from_le_to = (c.requires.within.back, c.requires.within.end, omega arith) }

pub returns : goal.returns
returns c =
    let a = c.args in
    let n = planned_bodies a.leaf a.block.now a.plan a.key.now a.value.now in
    planned_run a.leaf a.block.now a.plan a.key.now a.value.now a.out.now a.d c.copy_bodies-e.result c.put_new_body-f.result
    c.copy_bodies-e.ensures.0 c.put_new_body-f.ensures.0 (omega arith)
    c.copy_bodies-e.ensures.1 c.put_new_body-f.ensures.1 c.copy_bodies.ensures.1
