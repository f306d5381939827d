-- `page::search::entry` meets its contract: each entry below the count of a sound leaf is there. Assumes nothing.
use Rattle.std.proofs.Common.{rules}
use mathlib.Core.Path.{◌≡◌, sym, ap, ◌∙◌}
use mathlib.Core.Bool.{true}
use borrow.Author.Tests.{lt-ltb, le-ltb}
use native.Mathlib.Omega.{arith}
use Rattle.page.specs.Layout.{count_of, is_leaf}
use Rattle.page.specs.PageRules.{lent_check_of, SoundBlock}
use Rattle.page.specs.Search.{held_of}
use Rattle.page.proofs.LentLaws.{lent_sound}
use Rattle.page.proofs.search.entry.Goals as goal
use Rattle.page.proofs.search.entry.Goals.{Else-not-is_leaf, In_ok-lent_check}
use Rattle.std.specs.Prelude.{Ok, Err}

passed : (c : In_ok-lent_check) → lent_check_of c.args.p c.args.b.now ≡ Ok tt
passed c = sym c.lent_check.ensures ∙ c.in_ok-lent_check.was

leafy : (c : Else-not-is_leaf) → is_leaf c.args.b.now ≡ true
leafy c = sym c.is_leaf.ensures ∙ c.if-not-is_leaf.false

pub is_leaf-requires : goal.is_leaf-requires
is_leaf-requires c = (lent_sound c.args.p c.args.b.now (passed c)).0

pub returns-then-not-is_leaf : goal.returns-then-not-is_leaf
unfolding held_of
returns-then-not-is_leaf c = rw (passed (goal.at.returns-then-not-is_leaf c).In_ok-lent_check, sym c.is_leaf.ensures ∙ c.if-not-is_leaf.true) (ap Err c.from.ensures)

pub count-requires : goal.count-requires
count-requires c = (lent_sound c.args.p c.args.b.now (passed (goal.at.count-requires c).In_ok-lent_check)).0

pub returns-then-count-i : goal.returns-then-count-i
unfolding held_of
returns-then-count-i c =
    let a = c.args in
    let e = c.count.ensures in
    rw (passed (goal.at.returns-then-count-i c).In_ok-lent_check, leafy (goal.at.returns-then-count-i c).Else-not-is_leaf, le-ltb a.i (count_of a.b.now) (omega arith))

pub leaf_at-requires : goal.leaf_at-requires
leaf_at-requires c =
    let e = c.count.ensures in
    let sound : SoundBlock (is_leaf c.args.b.now) true c.args.b.now = (lent_sound c.args.p c.args.b.now (passed (goal.at.leaf_at-requires c).In_ok-lent_check)).1 in
    (omega arith, rw (leafy (goal.at.leaf_at-requires c).Else-not-is_leaf) at sound)

pub returns-in_err-lent_check : goal.returns-in_err-lent_check
unfolding held_of
returns-in_err-lent_check c = rw (sym c.lent_check.ensures ∙ c.in_err-lent_check.was) (search rules)

pub returns : goal.returns
unfolding held_of
returns c =
    let a = c.args in
    let e = c.count.ensures in
    rw (passed (goal.at.returns c).In_ok-lent_check, leafy (goal.at.returns c).Else-not-is_leaf, lt-ltb a.i (count_of a.b.now) (omega arith), c.leaf_at.ensures)
