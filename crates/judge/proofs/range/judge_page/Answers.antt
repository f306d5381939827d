-- `judge::range::judge_page` meets its contract: the block, whose header is sound. Assumes nothing.
use mathlib.Core.Path.{◌≡◌, sym, ap, ◌∙◌}
use Prim.Native.Nat.{◌*◌, ◌≤◌}
use native.Mathlib.Omega.{arith}
use lib.ListN.{length, drop}
use Rattle.std.proofs.Common.{rules}
use Rattle.std.specs.Prelude.{Ok}
use Rattle.std.specs.declared.result.Result.{Result}
use Rattle.page.specs.Layout.{count_of}
use Rattle.judge.specs.declared.range.Page.TheVariants.{Branch, Leaf}
use Rattle.judge.specs.Walk.{upper_of, on_page, judge_page_of}
use Rattle.view.specs.View.{view_of}
use Rattle.view.specs.declared.Fault.{Fault}
use Rattle.view.proofs.ViewFrame.{header_ends}
use Rattle.judge.proofs.PageLaws.{unless_bad, leaf_page, branch_page}
use Rattle.judge.proofs.range.judge_page.Goals as goal
use Rattle.judge.proofs.range.judge_page.Goals.{After-block-b, After-on_page, After-on_page-2}

pub block-b-requires : goal.block-b-requires
block-b-requires c =
    (c.requires.0, c.requires.1, header_ends c.args.n c.args.q (drop (c.args.q * c.args.p) c.args.image.now) c.requires.2)

long : (c : After-block-b) → 32 ≤ length c.block-b.result.now
long c =
    let l = c.block-b.ensures.1 in
    omega (arith, c.requires.0.least_size)

-- the page's verdict, by what the block's was
leaf-told : (c : After-on_page)
    → let a = c.args in
    judge_page_of (view_of a.image.now a.p a.n a.q a.top) a.q a.low.now (upper_of a.high) ≡ unless_bad c.on_page.result (Leaf (count_of c.block-b.result.now))
leaf-told c =
    let a = c.args in
    leaf_page a.image.now a.p a.n a.q a.top a.low.now (upper_of a.high) c.block-b.result.now c.block-b.ensures.0 c.requires.2
    (sym c.is_leaf.ensures ∙ c.if-is_leaf.true)
    ∙ ap (λ (r : Result Unit Fault). unless_bad r (Leaf (count_of c.block-b.result.now))) (sym (c.on_page.ensures ∙ ap (on_page a.q) c.judge_block.ensures))

branch-told : (c : After-on_page-2)
    → let a = c.args in
    judge_page_of (view_of a.image.now a.p a.n a.q a.top) a.q a.low.now (upper_of a.high) ≡ unless_bad c.on_page-2.result (Branch (count_of c.block-b.result.now))
branch-told c =
    let a = c.args in
    branch_page a.image.now a.p a.n a.q a.top a.low.now (upper_of a.high) c.block-b.result.now c.block-b.ensures.0 c.requires.2
    (sym c.is_leaf.ensures ∙ c.if-is_leaf.false)
    ∙ ap (λ (r : Result Unit Fault). unless_bad r (Branch (count_of c.block-b.result.now))) (sym (c.on_page-2.ensures ∙ ap (on_page a.q) c.judge_block-2.ensures))

pub returns-in_err-on_page : goal.returns-in_err-on_page
returns-in_err-on_page c = rw (leaf-told (goal.at.returns-in_err-on_page c).After-on_page, c.in_err-on_page.was) (search rules)

pub returns-then-is_leaf : goal.returns-then-is_leaf
returns-then-is_leaf c = rw (leaf-told (goal.at.returns-then-is_leaf c).After-on_page, c.in_ok-on_page.was) (ap (λ n. Ok (Leaf n)) c.count.ensures)

pub returns-in_err-on_page-2 : goal.returns-in_err-on_page-2
returns-in_err-on_page-2 c = rw (branch-told (goal.at.returns-in_err-on_page-2 c).After-on_page-2, c.in_err-on_page-2.was) (search rules)

pub returns : goal.returns
returns c = rw (branch-told (goal.at.returns c).After-on_page-2, c.in_ok-on_page-2.was) (ap (λ n. Ok (Branch n)) c.count-2.ensures)

pub is_leaf-requires : goal.is_leaf-requires
is_leaf-requires c = long c

pub judge_block-requires : goal.judge_block-requires
judge_block-requires c = long (goal.at.judge_block-requires c).After-block-b
