-- `page::search::index_page` meets its contract: a block that the check finds sound has room for each element below its count. Assumes nothing.
use Prim.Native.Nat.{◌≤◌}
use Rattle.std.proofs.Common.{rules}
use mathlib.Core.Path.{◌≡◌, sym, ◌∙◌}
use mathlib.Core.Bool.{false}
use borrow.Author.Tests.{lt-ltb, le-ltb}
use native.Mathlib.Omega.{arith}
use lib.ListN.{length}
use Rattle.page.specs.Layout.{count_of, is_leaf, table_end}
use Rattle.page.specs.PageRules.{lent_check_of}
use Rattle.page.specs.Search.{index_page_of}
use Rattle.page.proofs.LayoutLaws.{element_room}
use Rattle.page.proofs.LentLaws.{lent_sound}
use Rattle.page.proofs.search.index_page.Goals as goal
use Rattle.page.proofs.search.index_page.Goals.{In_ok-lent_check}
use Rattle.std.specs.Prelude.{Ok}

passed : (c : In_ok-lent_check) → lent_check_of c.args.p c.args.b.now ≡ Ok tt
passed c = sym c.lent_check.ensures ∙ c.in_ok-lent_check.was

pub count-requires : goal.count-requires
count-requires c = (lent_sound c.args.p c.args.b.now (passed c)).0

pub returns-then-count-i : goal.returns-then-count-i
unfolding index_page_of
returns-then-count-i c =
    let a = c.args in
    let e = c.count.ensures in
    rw (passed (goal.at.returns-then-count-i c).In_ok-lent_check, le-ltb a.i (count_of a.b.now) (omega arith))

pub is_leaf-requires : goal.is_leaf-requires
is_leaf-requires c = (lent_sound c.args.p c.args.b.now (passed (goal.at.is_leaf-requires c).In_ok-lent_check)).0

pub returns-then-is_leaf : goal.returns-then-is_leaf
unfolding index_page_of
returns-then-is_leaf c =
    let a = c.args in
    let e = c.count.ensures in
    rw (passed (goal.at.returns-then-is_leaf c).In_ok-lent_check, lt-ltb a.i (count_of a.b.now) (omega arith), sym c.is_leaf.ensures ∙ c.if-is_leaf.true) (search rules)

pub child-requires : goal.child-requires
child-requires c =
    let e = c.count.ensures in
    let sound = (lent_sound c.args.p c.args.b.now (passed (goal.at.child-requires c).In_ok-lent_check)).1 in
    let branch : is_leaf c.args.b.now ≡ false = sym c.is_leaf.ensures ∙ c.if-is_leaf.false in
    let fits : table_end false c.args.b.now ≤ length c.args.b.now = rw branch at sound.fits in
    element_room false c.args.b.now c.args.i (omega arith) fits

pub returns-in_err-lent_check : goal.returns-in_err-lent_check
unfolding index_page_of
returns-in_err-lent_check c = rw (sym c.lent_check.ensures ∙ c.in_err-lent_check.was) (search rules)

pub returns : goal.returns
unfolding index_page_of
returns c =
    let a = c.args in
    let e = c.count.ensures in
    rw (
      passed (goal.at.returns c).In_ok-lent_check,
      lt-ltb a.i (count_of a.b.now) (omega arith),
      sym c.is_leaf.ensures ∙ c.if-is_leaf.false,
      c.child.ensures,
    )
