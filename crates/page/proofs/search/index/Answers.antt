-- `page::search::index` meets its contract: a block that the check finds sound is searched. Assumes nothing.
use Rattle.std.proofs.Common.{rules}
use mathlib.Core.Path.{◌≡◌, sym, ◌∙◌}
use Rattle.page.specs.PageRules.{lent_check_of}
use Rattle.page.specs.Search.{index_of}
use Rattle.page.proofs.LentLaws.{lent_sound}
use Rattle.page.proofs.search.index.Goals as goal
use Rattle.page.proofs.search.index.Goals.{In_ok-lent_check}
use Rattle.std.specs.Prelude.{Ok}

passed : (c : In_ok-lent_check) → lent_check_of c.args.p c.args.b.now ≡ Ok tt
passed c = sym c.lent_check.ensures ∙ c.in_ok-lent_check.was

pub is_leaf-requires : goal.is_leaf-requires
is_leaf-requires c = (lent_sound c.args.p c.args.b.now (passed c)).0

pub count-requires : goal.count-requires
count-requires c = (lent_sound c.args.p c.args.b.now (passed (goal.at.count-requires c).In_ok-lent_check)).0

pub find-requires : goal.find-requires
find-requires c =
    (c.count.ensures, rw c.is_leaf.ensures (lent_sound c.args.p c.args.b.now (passed (goal.at.find-requires c).In_ok-lent_check)).1)

pub returns-in_err-lent_check : goal.returns-in_err-lent_check
unfolding index_of
returns-in_err-lent_check c = rw (sym c.lent_check.ensures ∙ c.in_err-lent_check.was) (search rules)

pub returns : goal.returns
unfolding index_of
returns c = rw (passed (goal.at.returns c).In_ok-lent_check, ← c.is_leaf.ensures, c.find.ensures)
