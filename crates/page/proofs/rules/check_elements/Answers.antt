use mathlib.Core.Path.{◌≡◌, sym, ◌∙◌}
use native.Mathlib.Nat.{sub-zero}
use native.Mathlib.Omega.{arith}
use Rattle.page.specs.PageRules.{no_common, element_bad}
use Rattle.page.proofs.RuleLaws.{bad_skip, bad_here, bad_none}
use Rattle.page.proofs.rules.check_elements.Goals as goal
use Rattle.field.specs.declared.refusal.Refusal.TheVariants.{Element}

pub table_end-end-requires : goal.table_end-end-requires
table_end-end-requires c = rw c.requires.0 (omega arith)

pub loop-i-init : goal.loop-i-init
loop-i-init c = rw sub-zero

pub element_bad-requires : goal.element_bad-requires
element_bad-requires c =
    let p = c.requires in
    let e : c.table_end-end.result ≡ _ = rw p.0 at c.table_end-end.ensures in
    (e, rw e p.1, omega arith)

pub returns-then-element_bad : goal.returns-then-element_bad
returns-then-element_bad c =
    let a = c.args in
    let l = c.loop-i in
    sym (l.invariant ∙ bad_here (element_bad a.leaf a.b.now) no_common Element a.n l.i (omega arith) (sym c.element_bad.ensures ∙ c.if-element_bad.true))

pub loop-i-preserved : goal.loop-i-preserved
loop-i-preserved c =
    let a = c.args in
    let l = c.loop-i in
    (l.invariant ∙ bad_skip (element_bad a.leaf a.b.now) no_common Element a.n l.i (omega arith) (sym c.element_bad.ensures ∙ c.if-element_bad.false))

pub returns : goal.returns
returns c =
    let a = c.args in
    let l = c.loop-i in
    sym (l.invariant ∙ bad_none (element_bad a.leaf a.b.now) no_common Element a.n l.i (omega arith))
