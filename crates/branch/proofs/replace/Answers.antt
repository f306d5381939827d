-- `branch::replace` meets its contract: the plan is that of a replacement. Assumes nothing.
use mathlib.Core.Bool.{false}
use mathlib.Core.List.{[]}
use native.Mathlib.Omega.{arith}
use Rattle.pack.proofs.PlanLaws.{plan_replace}
use Rattle.node.proofs.NodeLaws.{lent, lent_as}
use Rattle.node.proofs.EditLaws.{same_node}
use Rattle.branch.proofs.replace.Goals as goal

pub count-n-requires : goal.count-n-requires
count-n-requires c = (lent c.args.p c.args.b.now c.requires.0).long

pub id-page-requires : goal.id-page-requires
id-page-requires c = (lent c.args.p c.args.b.now c.requires.0).long

pub write_planned-requires : goal.write_planned-requires
write_planned-requires c =
    let l = lent c.args.p c.args.b.now c.requires.0 in
    let low = l.least in
    let n = c.count-n.ensures in
    record {
      sound_block = lent_as c.args.p c.args.b.now false c.requires.0 c.requires.1;
      within = record { front = omega arith; middle = omega arith; back = omega arith; end = omega arith };
      p_nonzero = (omega arith, l.most);
    }

pub returns : goal.returns
returns c =
    let n = c.count-n in
    let a = c.args in
    let e = plan_replace false a.b.now a.i n.result a.key.now [] n.ensures a.child (omega arith) in
    same_node false a.p a.out.now e c.id-page.ensures c.write_planned.ensures
