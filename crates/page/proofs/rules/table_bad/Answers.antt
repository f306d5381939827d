-- `page::rules::table_bad` meets its contract. Assumes nothing.
use mathlib.Core.Path.{sym, ◌∙◌}
use mathlib.Core.Bool.{true, false}
use Rattle.page.proofs.RuleLaws.{table_none, table_over}
use Rattle.page.proofs.rules.table_bad.Goals as goal

pub returns-then-n-eq0 : goal.returns-then-n-eq0
returns-then-n-eq0 c =
    let a = c.args in
    sym (table_none a.leaf a.empty _ c.requires (sym c.count-n.ensures ∙ c.if-n-eq0.true))

pub returns-then-leaf : goal.returns-then-leaf
returns-then-leaf c =
    rw c.if-leaf.true (table_over true c.args.empty _ _ c.requires c.count-n.ensures c.if-n-eq0.false)

pub returns : goal.returns
returns c =
    rw c.if-leaf.false (table_over false c.args.empty _ _ c.requires c.count-n.ensures c.if-n-eq0.false)
