-- `page::rules::check` meets its contract: rule 5, then the one pass, and where that meets a breach, the two. Assumes nothing.
use mathlib.Core.Path.{◌≡◌, sym, ap, ◌∙◌}
use Prim.Native.Nat.{◌≤◌}
use lib.ListN.{length}
use Rattle.page.specs.Layout.{table_end}
use Rattle.page.specs.PageRules.{elements_of, check_of}
use Rattle.page.proofs.RuleLaws.{table_good, check_table, check_elements_lem}
use Rattle.page.proofs.PassLaws.{is_sound_lem}
use Rattle.page.proofs.rules.check.Goals as goal
use Rattle.page.proofs.rules.check.Goals.{Else-table_bad}
use Rattle.std.specs.Prelude.{Err}

pub returns-then-table_bad : goal.returns-then-table_bad
returns-then-table_bad c =
    let a = c.args in
    ap Err c.from.ensures ∙ sym (check_table a.leaf a.empty a.b.now (sym c.table_bad.ensures ∙ c.if-table_bad.true))

-- the table lies in the block
fits : (c : Else-table_bad) → let a = c.args in table_end a.leaf a.b.now ≤ length a.b.now
fits c = let a = c.args in (table_good a.leaf a.empty a.b.now (sym c.table_bad.ensures ∙ c.if-table_bad.false)).1

-- what rules 6 and 7 find is the answer
goes_on : (c : Else-table_bad) → let a = c.args in check_of a.leaf a.empty a.b.now ≡ elements_of a.leaf a.b.now
goes_on c = let a = c.args in check_elements_lem a.leaf a.empty a.b.now (sym c.table_bad.ensures ∙ c.if-table_bad.false)

pub keeps-requires : goal.keeps-requires
keeps-requires c = (c.count-n.ensures, fits (goal.at.keeps-requires c).Else-table_bad)

pub returns-then-keeps : goal.returns-then-keeps
returns-then-keeps c = sym (goes_on (goal.at.returns-then-keeps c).Else-table_bad ∙ is_sound_lem _ (sym c.keeps.ensures ∙ c.if-keeps.true))

pub check_each-requires : goal.check_each-requires
check_each-requires c = (c.count-n.ensures, fits (goal.at.check_each-requires c).Else-table_bad)

pub returns : goal.returns
returns c = c.check_each.ensures ∙ sym (goes_on (goal.at.returns c).Else-table_bad)
