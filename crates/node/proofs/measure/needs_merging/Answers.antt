-- `node::measure::needs_merging` meets its contract: a quarter of a page is below the limit, so that a count that stopped there decides. Assumes nothing.
use Rattle.std.proofs.Common.{rules}
use Prim.Native.Nat.{◌/◌}
use mathlib.Core.Path.{◌≡◌, sym, ap, ◌∙◌}
use mathlib.Core.Bool.{Bool}
use borrow.Author.Tests.{lt-ltb, le-ltb}
use native.Mathlib.Omega.{arith}
use Rattle.std.specs.Prelude.{Ok}
use Rattle.page.specs.Layout.{count_of, entries_of}
use Rattle.page.specs.PageRules.{lent_check_of}
use Rattle.page.proofs.TestLaws.{ltb_same}
use Rattle.pack.specs.Pack.{node_size}
use Rattle.size.specs.Size.{capped_size}
use Rattle.node.specs.Measure.{size_in, needs_merging_of}
use Rattle.node.proofs.NodeLaws.{lent}
use Rattle.node.proofs.measure.needs_merging.Goals as goal
use Rattle.node.proofs.measure.needs_merging.Goals.{In_ok-lent_check}

passed : (c : In_ok-lent_check) → lent_check_of c.args.p c.args.b.now ≡ Ok tt
passed c = sym c.lent_check.ensures ∙ c.in_ok-lent_check.was

pub returns-in_err-lent_check : goal.returns-in_err-lent_check
unfolding needs_merging_of
returns-in_err-lent_check c = rw (sym c.lent_check.ensures ∙ c.in_err-lent_check.was) (search rules)

pub count-requires : goal.count-requires
count-requires c = let a = c.args in (lent a.p a.b.now (passed c)).long

pub is_leaf-requires : goal.is_leaf-requires
is_leaf-requires c = let a = c.args in (lent a.p a.b.now (passed (goal.at.is_leaf-requires c).In_ok-lent_check)).long

pub node_size-requires : goal.node_size-requires
node_size-requires c =
    let a = c.args in
    rw c.is_leaf.ensures (lent a.p a.b.now (passed (goal.at.node_size-requires c).In_ok-lent_check)).sound

pub returns-then-count-lt2 : goal.returns-then-count-lt2
unfolding needs_merging_of
returns-then-count-lt2 c =
    let a = c.args in
    let e = c.count.ensures in
    rw (passed (goal.at.returns-then-count-lt2 c).In_ok-lent_check, lt-ltb (count_of a.b.now) 2 (omega arith)) (ap Ok (lt-ltb _ 2 c.if-count-lt2.true))

pub returns-else-count-lt2 : goal.returns-else-count-lt2
unfolding needs_merging_of
returns-else-count-lt2 c =
    let a = c.args in
    let b = a.b.now in
    let n = c.node_size.result in
    let most = (lent a.p b (passed (goal.at.returns-else-count-lt2 c).In_ok-lent_check)).most in
    let told : n ≡ capped_size (size_in b) = c.node_size.ensures ∙ ap (λ (l : Bool). capped_size (node_size l (entries_of l b))) c.is_leaf.ensures in
    let e = c.count.ensures in
    rw (
      passed (goal.at.returns-else-count-lt2 c).In_ok-lent_check,
      le-ltb (count_of b) 2 (omega arith),
      ltb_same n (a.p / 4) (size_in b) (a.p / 4) (λ h. omega arith) (λ h. omega arith),
    )
