-- `page::rules::lent_header_bad` meets its contract: where the length is a whole number of pages, the overflow is one less. Assumes nothing.
use mathlib.Core.Path.{sym, ap, ◌∙◌}
use mathlib.Core.Bool.{Bool, not, ◌||◌}
use borrow.Author.Tests.{not-true, not-false}
use native.Mathlib.Omega.{arith}
use Rattle.page.specs.Layout.{is_branch, is_leaf}
use Rattle.page.proofs.LentLaws.{LengthGood, length_good, pages_least, overflow_test}
use Rattle.page.proofs.rules.lent_header_bad.Goals as goal
use Rattle.page.proofs.rules.lent_header_bad.Goals.{Start}

good : (s : Start) → LengthGood s.args.p s.args.b.now
good s = length_good s.args.p s.args.b.now s.requires

abbrev typed : Start → Bool
typed s = is_branch s.args.b.now || is_leaf s.args.b.now

pub type_bad-requires : goal.type_bad-requires
type_bad-requires c = let g = good (goal.at.type_bad-requires c).Start in omega arith

pub returns-then-type_bad : goal.returns-then-type_bad
returns-then-type_bad c = rw (not-true (typed (goal.at.returns-then-type_bad c).Start) (sym c.type_bad.ensures ∙ c.if-type_bad.true))

pub overflow-requires : goal.overflow-requires
overflow-requires c = let g = good (goal.at.overflow-requires c).Start in omega arith

pub overflow_sub-result : goal.overflow_sub-result
overflow_sub-result c =
    pages_least c.args.p c.args.b.now (good (goal.at.overflow_sub-result c).Start)

pub returns : goal.returns
returns c =
    rw (not-false (typed (goal.at.returns c).Start) (sym c.type_bad.ensures ∙ c.if-type_bad.false), c.overflow.ensures)
    (ap not (overflow_test c.args.p c.args.b.now (good (goal.at.returns c).Start) _))
