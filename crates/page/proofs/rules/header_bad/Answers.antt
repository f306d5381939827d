-- `page::rules::header_bad` meets its contract. Assumes nothing.
use Prim.Native.Nat.{◌+◌, ◌-◌}
use mathlib.Core.Path.{sym, ◌∙◌}
use borrow.Author.Tests.{eq-eqb, ne_eqb}
use native.Mathlib.Omega.{arith}
use Rattle.page.specs.Layout.{id_of, overflow_of}
use Rattle.page.specs.PageRules.{header_bad}
use Rattle.page.proofs.TestLaws.{leb_same}
use Rattle.page.proofs.rules.header_bad.Goals as goal

pub returns-then-id-q : goal.returns-then-id-q
unfolding header_bad
returns-then-id-q c =
    let a = c.args in
    rw (ne_eqb (id_of a.s.now) a.q (λ h. c.if-id-q.true (c.id.ensures ∙ h)))

pub returns-then-type_bad : goal.returns-then-type_bad
unfolding header_bad
returns-then-type_bad c =
    let a = c.args in
    rw (eq-eqb (id_of a.s.now) a.q (sym c.id.ensures ∙ c.if-id-q.false), sym c.type_bad.ensures ∙ c.if-type_bad.true)

pub returns : goal.returns
unfolding header_bad
returns c =
    let a = c.args in
    let o = overflow_of a.s.now in
    rw (
      c.overflow.ensures,
      eq-eqb (id_of a.s.now) a.q (sym c.id.ensures ∙ c.if-id-q.false),
      sym c.type_bad.ensures ∙ c.if-type_bad.false,
    )
    (leb_same (a.n - a.q) o a.n (a.q + o) (λ h. omega arith) (λ h. omega arith))
