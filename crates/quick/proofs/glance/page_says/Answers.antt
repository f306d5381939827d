-- `quick::glance::page_says` meets its contract: the header, and then the block by its kind. Assumes nothing.
use mathlib.Core.Path.{◌≡◌, sym, ap, ◌∙◌}
use mathlib.Core.Bool.{false}
use Prim.Native.Nat.{◌+◌, ◌*◌, ◌<◌}
use lib.ListN.{drop}
use Rattle.page.specs.Layout.{overflow_of}
use Rattle.page.specs.PageRules.{header_bad}
use Rattle.view.proofs.ViewFrame.{header_ends}
use Rattle.quick.proofs.PageLaws.{says_header, says_leaf, says_branch}
use Rattle.quick.proofs.glance.page_says.Goals as goal
use Rattle.quick.proofs.glance.page_says.Goals.{After-header_bad, Else-header_bad}
use Rattle.std.specs.Prelude.{Err}

-- what was found of the header
header : (c : After-header_bad)
    → let a = c.args in c.header_bad.result ≡ header_bad a.n a.q (drop (a.q * a.p) a.image.now)
header c = let a = c.args in c.header_bad.ensures ∙ ap (header_bad a.n a.q) c.from_page.ensures.0

pub returns-then-header_bad : goal.returns-then-header_bad
returns-then-header_bad c =
    let a = c.args in
    ap Err c.from.ensures
    ∙ sym (says_header a.image.now a.p a.n a.key.now a.q a.top (sym (header (goal.at.returns-then-header_bad c).After-header_bad) ∙ c.if-header_bad.true))

good : (c : Else-header_bad)
    → let a = c.args in header_bad a.n a.q (drop (a.q * a.p) a.image.now) ≡ false
good c = sym (header (goal.at.Else-header_bad c).After-header_bad) ∙ c.if-header_bad.false

ends : (c : Else-header_bad)
    → let a = c.args in a.q + overflow_of (drop (a.q * a.p) a.image.now) < a.n
ends c = let a = c.args in header_ends a.n a.q (drop (a.q * a.p) a.image.now) (good c)

pub block-b-requires : goal.block-b-requires
block-b-requires c = (c.requires.0, c.requires.1, ends c)

pub returns-then-is_leaf : goal.returns-then-is_leaf
returns-then-is_leaf c =
    let a = c.args in
    c.leaf_says.ensures
    ∙ sym
    (says_leaf a.image.now a.p a.n a.key.now a.q a.top c.block-b.result.now c.block-b.ensures.0 (good (goal.at.returns-then-is_leaf c).Else-header_bad)
    (sym c.is_leaf.ensures ∙ c.if-is_leaf.true))

pub returns : goal.returns
returns c =
    let a = c.args in
    c.branch_says.ensures
    ∙ sym
    (says_branch a.image.now a.p a.n a.key.now a.q a.top c.block-b.result.now c.block-b.ensures.0 (good (goal.at.returns c).Else-header_bad)
    (sym c.is_leaf.ensures ∙ c.if-is_leaf.false))
