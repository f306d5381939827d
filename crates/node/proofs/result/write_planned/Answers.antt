-- `node::result::write_planned` meets its contract: 15, then 10, then the packed block and the output's own rest. Assumes nothing.
use mathlib.Core.Path.{sym, ap, ◌∙◌}
use mathlib.Core.List.{List}
use Rattle.std.specs.Prelude.{Err}
use Rattle.node.proofs.EditLaws.{refused_edits}
use native.Mathlib.Omega.{arith}
use Rattle.page.specs.Layout.{Entry}
use Rattle.pack.specs.Plan.{planned}
use Rattle.node.proofs.ResultLaws.{too_large, too_short_lem, long_enough, done}
use Rattle.node.proofs.result.write_planned.Goals as goal
use Rattle.node.proofs.result.write_planned.Goals.{Start}

entries : Start → List Entry
entries s = planned s.args.leaf s.args.b.now s.args.plan s.args.key.now s.args.value.now

pub returns-then-size-gt-NODE_LIMIT : goal.returns-then-size-gt-NODE_LIMIT
unfolding entries
returns-then-size-gt-NODE_LIMIT c =
    let a = c.args in
    refused_edits a.leaf a.id a.p a.out.now _
    (too_large a.leaf a.id a.p a.out.now (entries (goal.at.returns-then-size-gt-NODE_LIMIT c).Start) c.plan_size-size.result c.plan_size-size.ensures (omega arith)
    ∙ ap Err (sym c.from.ensures))

pub returns-then-out-p : goal.returns-then-out-p
unfolding entries
returns-then-out-p c =
    let a = c.args in
    refused_edits a.leaf a.id a.p a.out.now _
    (too_short_lem a.leaf a.id a.p a.out.now (entries (goal.at.returns-then-out-p c).Start) c.plan_size-size.result c.plan_size-size.ensures (omega arith) c.requires.p_nonzero.0
    c.div_ceil.result c.div_ceil.ensures (omega arith)
    ∙ ap Err (sym c.from-then-out-p.ensures))

pub write-requires : goal.write-requires
unfolding entries
write-requires c =
    let a = c.args in
    let room = long_enough a.leaf a.id a.p a.out.now (entries (goal.at.write-requires c).Start) c.plan_size-size.result c.plan_size-size.ensures (omega arith) c.requires.p_nonzero.0
    c.div_ceil.result c.div_ceil.ensures (omega arith) in
    record { sound_block = c.requires.sound_block; within = c.requires.within; p_nonzero = (c.requires.p_nonzero.0, c.requires.p_nonzero.1, room) }

pub returns : goal.returns
unfolding entries
returns c =
    let a = c.args in
    done a.leaf a.id a.p a.out.now (entries (goal.at.returns c).Start) c.plan_size-size.result c.plan_size-size.ensures (omega arith) c.requires.p_nonzero.0
    c.div_ceil.result c.div_ceil.ensures (omega arith) c.write.ensures
