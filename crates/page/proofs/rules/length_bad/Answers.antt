-- `page::rules::length_bad` meets its contract. Assumes nothing.
use mathlib.Core.Path.{sym, ◌∙◌}
use borrow.Author.Tests.{lt-leb, le-leb}
use lib.ListN.{length}
use Rattle.page.proofs.rules.length_bad.Goals as goal

pub returns-then-not-size_allowed : goal.returns-then-not-size_allowed
returns-then-not-size_allowed c = rw (sym c.size_allowed.ensures ∙ c.if-not-size_allowed.true)

pub returns-then-b-p : goal.returns-then-b-p
returns-then-b-p c =
    let a = c.args in
    rw (sym c.size_allowed.ensures ∙ c.if-not-size_allowed.false, lt-leb a.p (length a.b.now) c.if-b-p.true)

pub returns : goal.returns
returns c =
    let a = c.args in
    rw (sym c.size_allowed.ensures ∙ c.if-not-size_allowed.false, le-leb a.p (length a.b.now) c.if-b-p.false)
