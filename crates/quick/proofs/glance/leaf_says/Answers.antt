-- `quick::glance::leaf_says` meets its contract: what halving finds is an element that keeps rule 6, so its value is in the leaf. Assumes nothing.
use mathlib.Core.Path.{◌≡◌, sym, ◌∙◌}
use mathlib.Core.Bool.{true, false}
use Rattle.std.proofs.Common.{rules}
use Rattle.std.specs.Prelude.{Ok}
use Rattle.page.specs.PageRules.{table_bad}
use Rattle.page.proofs.LayoutLaws.{element_room}
use Rattle.page.proofs.RuleLaws.{table_good, element_good}
use Rattle.quick.proofs.PlaceLaws.{found_judged}
use Rattle.quick.proofs.glance.leaf_says.Goals as goal
use Rattle.quick.proofs.glance.leaf_says.Goals.{Else-table_bad}

-- the table keeps rule 5
kept : (c : Else-table_bad) → let a = c.args in table_bad true a.top a.b.now ≡ false
kept c = sym c.table_bad.ensures ∙ c.if-table_bad.false

pub halve_leaf-requires : goal.halve_leaf-requires
halve_leaf-requires c =
    let a = c.args in
    (c.count.ensures, (table_good true a.top a.b.now (kept (goal.at.halve_leaf-requires c).Else-table_bad)).1)

pub value_at-requires : goal.value_at-requires
value_at-requires c =
    let a = c.args in
    let e : c.halve_leaf.result ≡ Ok c.in_ok-place.place = search rules in
    let j = found_judged true a.b.now a.key.now c.in_ok-place.place (sym c.halve_leaf.ensures ∙ e) c.if-place.true in
    (element_room true a.b.now _ j.0 (table_good true a.top a.b.now (kept (goal.at.value_at-requires c).Else-table_bad)).1, (element_good true a.b.now _ j.1).1, c.requires.1)
