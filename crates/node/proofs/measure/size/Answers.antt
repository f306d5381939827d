-- `node::measure::size` meets its contract: a count that stopped one past the limit tells that the size is past it. Assumes nothing.
use Rattle.std.proofs.Common.{rules}
use mathlib.Core.Path.{◌≡◌, sym, ap, ◌∙◌}
use mathlib.Core.Bool.{Bool}
use native.Mathlib.Omega.{arith}
use Rattle.std.specs.Prelude.{Ok, Err}
use Rattle.page.specs.Layout.{entries_of}
use Rattle.page.specs.PageRules.{lent_check_of}
use Rattle.pack.specs.Pack.{node_size}
use Rattle.pack.proofs.PackLaws.{ceil_pages}
use Rattle.size.specs.Size.{capped_size}
use Rattle.node.specs.Measure.{size_in, size_of}
use Rattle.node.proofs.NodeLaws.{lent, past_limit, within_limit}
use Rattle.node.proofs.measure.size.Goals as goal
use Rattle.node.proofs.measure.size.Goals.{After-node_size-bytes, In_ok-lent_check}

passed : (c : In_ok-lent_check) → lent_check_of c.args.p c.args.b.now ≡ Ok tt
passed c = sym c.lent_check.ensures ∙ c.in_ok-lent_check.was

told : (c : After-node_size-bytes) → c.node_size-bytes.result ≡ capped_size (size_in c.args.b.now)
told c =
    let b = c.args.b.now in
    c.node_size-bytes.ensures ∙ ap (λ (l : Bool). capped_size (node_size l (entries_of l b))) c.is_leaf.ensures

pub returns-in_err-lent_check : goal.returns-in_err-lent_check
unfolding size_of
returns-in_err-lent_check c = rw (sym c.lent_check.ensures ∙ c.in_err-lent_check.was) (search rules)

pub is_leaf-requires : goal.is_leaf-requires
is_leaf-requires c = let a = c.args in (lent a.p a.b.now (passed c)).long

pub node_size-bytes-requires : goal.node_size-bytes-requires
node_size-bytes-requires c = let a = c.args in rw c.is_leaf.ensures (lent a.p a.b.now (passed (goal.at.node_size-bytes-requires c).In_ok-lent_check)).sound

pub returns-then-bytes-gt-NODE_LIMIT : goal.returns-then-bytes-gt-NODE_LIMIT
unfolding size_of
returns-then-bytes-gt-NODE_LIMIT c =
    let over = past_limit c.node_size-bytes.result _ (told (goal.at.returns-then-bytes-gt-NODE_LIMIT c).After-node_size-bytes) (omega arith) in
    rw (passed (goal.at.returns-then-bytes-gt-NODE_LIMIT c).In_ok-lent_check, over) (ap Err c.from.ensures)

pub div_ceil-requires : goal.div_ceil-requires
div_ceil-requires c =
    let l = (lent c.args.p c.args.b.now (passed (goal.at.div_ceil-requires c).In_ok-lent_check)).least in
    omega arith

pub returns : goal.returns
unfolding size_of
returns c =
    let n = c.node_size-bytes.result in
    let l = (lent c.args.p c.args.b.now (passed (goal.at.returns c).In_ok-lent_check)).least in
    let within = within_limit n _ (told (goal.at.returns c).After-node_size-bytes) (omega arith) in
    rw (passed (goal.at.returns c).In_ok-lent_check, within.1, c.div_ceil.ensures ∙ ceil_pages n c.args.p (omega arith), within.0)
