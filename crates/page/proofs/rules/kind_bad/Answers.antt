-- `page::rules::kind_bad` meets its contract. Assumes nothing.
use borrow.Author.Tests.{eq-eqb, ne_eqb}
use Rattle.page.proofs.rules.kind_bad.Goals as goal

pub returns-then-kind-eq0 : goal.returns-then-kind-eq0
returns-then-kind-eq0 c = rw (eq-eqb c.args.kind 0 c.if-kind-eq0.true)

pub returns-then-kind-eq1 : goal.returns-then-kind-eq1
returns-then-kind-eq1 c =
    let k = c.args.kind in
    rw (ne_eqb k 0 c.if-kind-eq0.false, eq-eqb k 1 c.if-kind-eq1.true)

pub returns : goal.returns
returns c =
    let k = c.args.kind in
    rw (ne_eqb k 0 c.if-kind-eq0.false, ne_eqb k 1 c.if-kind-eq1.false)
