-- `judge::freelist::free_header_bad` meets its contract. Assumes nothing.
use Prim.Native.Nat.{◌+◌, ◌-◌}
use mathlib.Core.Path.{sym, ◌∙◌}
use borrow.Author.Tests.{eq-eqb, ne_eqb}
use native.Mathlib.Omega.{arith}
use Rattle.page.specs.Layout.{id_of, type_of, overflow_of}
use Rattle.page.proofs.TestLaws.{leb_same}
use Rattle.judge.specs.Judge.{free_header_bad}
use Rattle.judge.proofs.freelist.free_header_bad.Goals as goal

pub returns-then-id-f : goal.returns-then-id-f
unfolding free_header_bad
returns-then-id-f c =
    let a = c.args in
    rw (ne_eqb (id_of a.s.now) a.f (λ h. c.if-id-f.true (c.id.ensures ∙ h)))

pub returns-then-page_type-ne-TYPE_FREELIST : goal.returns-then-page_type-ne-TYPE_FREELIST
unfolding free_header_bad
returns-then-page_type-ne-TYPE_FREELIST c =
    let a = c.args in
    rw (eq-eqb (id_of a.s.now) a.f (sym c.id.ensures ∙ c.if-id-f.false), ne_eqb (type_of a.s.now) 4 (λ h. c.if-page_type-ne-TYPE_FREELIST.true (c.page_type.ensures ∙ h)))

pub returns : goal.returns
unfolding free_header_bad
returns c =
    let a = c.args in
    let o = overflow_of a.s.now in
    rw (
      c.overflow.ensures,
      eq-eqb (id_of a.s.now) a.f (sym c.id.ensures ∙ c.if-id-f.false),
      eq-eqb (type_of a.s.now) 4 (sym c.page_type.ensures ∙ c.if-page_type-ne-TYPE_FREELIST.false),
    )
    (leb_same (a.n - a.f) o a.n (a.f + o) (λ h. omega arith) (λ h. omega arith))
