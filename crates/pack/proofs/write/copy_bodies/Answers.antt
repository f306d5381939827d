use Prim.Native.Nat.{◌-◌}
use mathlib.Core.Path.{sym, ◌∙◌}
use native.Mathlib.Omega.{arith}
use Rattle.pack.proofs.RangeLaws.{BodiesTurn, entry_room, bodies_turn, bodies_none, bodies_done}
use Rattle.pack.proofs.write.copy_bodies.Goals as goal
use Rattle.pack.proofs.write.copy_bodies.Goals.{After-body_end-end}

-- the part that is copied is the run
turn : (t : After-body_end-end) →
    let l = t.loop-i in
    let a = t.args in
    BodiesTurn a.leaf a.block.now l.out l.i t.run_end-j.result a.to l.w t.key_at-start.result t.body_end-end.result
turn t =
    let run = t.run_end-j in
    let k = t.key_at-start.ensures in
    let v = t.body_end-end.ensures in
    let r = entry_room t.args.leaf t.args.block.now t.requires.sound_block (run.result - 1) (omega arith) in
    bodies_turn t.args.leaf t.args.block.now _ _ _ _ _ _ _ (omega arith) (omega arith) (omega arith) (rw (k, v) run.ensures.3)

pub copy-requires : goal.copy-requires
copy-requires c = let t = turn (goal.at.copy-requires c).After-body_end-end in omega arith

pub loop-i-preserved : goal.loop-i-preserved
loop-i-preserved c =
    let t = turn (goal.at.loop-i-preserved c).After-body_end-end in
    let u = t.put (omega arith) in
    let o = c.copy.ensures in
    (omega arith, omega arith, omega arith, cc)

pub returns : goal.returns
returns c =
    let l = c.loop-i in
    let a = c.args in
    let n = bodies_none a.leaf a.block.now l.out l.i a.to l.w (omega arith) in
    let t = bodies_done a.leaf a.block.now l.out l.i a.to l.w (omega arith) in
    (omega arith, sym t ∙ l.invariant.3)
