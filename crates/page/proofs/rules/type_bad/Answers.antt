-- `page::rules::type_bad` meets its contract. Assumes nothing.
use mathlib.Core.Path.{sym, ◌∙◌}
use borrow.Author.Tests.{eq-eqb, ne_eqb}
use Rattle.page.specs.Layout.{type_of}
use Rattle.page.proofs.rules.type_bad.Goals as goal

pub returns-then-t-eq-TYPE_BRANCH : goal.returns-then-t-eq-TYPE_BRANCH
returns-then-t-eq-TYPE_BRANCH c = rw (eq-eqb (type_of c.args.s.now) 1 (sym c.page_type-t.ensures ∙ c.if-t-eq-TYPE_BRANCH.true))

pub returns : goal.returns
returns c =
    let e = c.page_type-t.ensures in
    rw (e, ne_eqb (type_of c.args.s.now) 1 (λ h. c.if-t-eq-TYPE_BRANCH.false (e ∙ h)))
