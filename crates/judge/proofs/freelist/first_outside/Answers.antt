use mathlib.Core.Path.{◌≡◌, sym, ap, ◌∙◌}
use mathlib.Core.Bool.{not}
use native.Mathlib.Nat.{sub-zero}
use native.Mathlib.Omega.{arith}
use Rattle.std.specs.Prelude.{Err}
use Rattle.field.specs.declared.refusal.Refusal.TheVariants.{Element}
use Rattle.page.specs.PageRules.{no_common}
use Rattle.page.proofs.RuleLaws.{bad_skip, bad_here, bad_none}
use Rattle.walk.specs.Tree.{inside}
use Rattle.judge.specs.Judge.{id_outside}
use Rattle.judge.proofs.freelist.first_outside.Goals as goal
use Rattle.judge.proofs.freelist.first_outside.Goals.{After-inside}

pub loop-i-init : goal.loop-i-init
loop-i-init c = rw sub-zero

tested : (c : After-inside)
    → let a = c.args in not c.inside.result ≡ id_outside a.n a.b.now c.loop-i.i
tested c =
    let a = c.args in
    ap not (c.inside.ensures ∙ ap (inside a.n) c.id_at.ensures)

pub returns-then-not-inside : goal.returns-then-not-inside
returns-then-not-inside c =
    let a = c.args in
    ap Err c.id_breach.ensures ∙ sym (c.loop-i.invariant ∙ bad_here (id_outside a.n a.b.now) no_common Element a.c c.loop-i.i (omega arith) (sym (tested (goal.at.returns-then-not-inside c).After-inside) ∙ (ap not c.if-not-inside.true)))

pub loop-i-preserved : goal.loop-i-preserved
loop-i-preserved c =
    let a = c.args in
    (c.loop-i.invariant ∙ bad_skip (id_outside a.n a.b.now) no_common Element a.c c.loop-i.i (omega arith) (sym (tested (goal.at.loop-i-preserved c).After-inside) ∙ (ap not c.if-not-inside.false)))

pub returns : goal.returns
returns c =
    let a = c.args in
    sym (c.loop-i.invariant ∙ bad_none (id_outside a.n a.b.now) no_common Element a.c c.loop-i.i (omega arith))
