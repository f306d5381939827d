use Prim.Native.Nat.{◌-◌}
use mathlib.Core.Path.{refl, sym, ap, ◌∙◌}
use mathlib.Core.Bool.{not}
use borrow.Author.Tests.{lt-ltb, le-ltb}
use native.Mathlib.Omega.{arith}
use Rattle.std.specs.Prelude.{Err}
use Rattle.field.specs.declared.refusal.Refusal.TheVariants.{KeyOrder}
use Rattle.page.specs.PageRules.{no_common}
use Rattle.page.proofs.RuleLaws.{bad_skip, bad_here, bad_none}
use Rattle.judge.specs.Judge.{id_at, id_not_above}
use Rattle.judge.proofs.freelist.first_not_above.Goals as goal

pub loop-i-init : goal.loop-i-init
loop-i-init c = refl

pub returns-then-id_at : goal.returns-then-id_at
returns-then-id_at c =
    let a = c.args in
    let x = c.id_at.ensures in
    let y = c.id_at-in-loop-i.ensures in
    let t = c.if-id_at.true in
    ap Err c.id_breach.ensures ∙ sym (c.loop-i.invariant ∙ bad_here (id_not_above a.b.now) no_common KeyOrder a.c c.loop-i.i (omega arith) (ap not (le-ltb (id_at a.b.now (c.loop-i.i - 1)) (id_at a.b.now c.loop-i.i) (omega arith))))

pub loop-i-preserved : goal.loop-i-preserved
loop-i-preserved c =
    let a = c.args in
    let x = c.id_at.ensures in
    let y = c.id_at-in-loop-i.ensures in
    let t = c.if-id_at.false in
    (c.loop-i.invariant ∙ bad_skip (id_not_above a.b.now) no_common KeyOrder a.c c.loop-i.i (omega arith) (ap not (lt-ltb (id_at a.b.now (c.loop-i.i - 1)) (id_at a.b.now c.loop-i.i) (omega arith))))

pub returns : goal.returns
returns c =
    let a = c.args in
    sym (c.loop-i.invariant ∙ bad_none (id_not_above a.b.now) no_common KeyOrder a.c c.loop-i.i (omega arith))
