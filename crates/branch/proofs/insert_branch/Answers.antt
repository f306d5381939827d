-- `branch::insert_branch` meets its contract: the check's refusal, one for a leaf or a child below 2, and else the replacement or the addition. Assumes nothing.
use Rattle.std.proofs.Common.{rules}
use mathlib.Core.Path.{◌≡◌, sym, ap, ◌∙◌}
use mathlib.Core.Bool.{false}
use mathlib.Core.Logic.{⊎_elim}
use native.Mathlib.Omega.{arith}
use Rattle.std.specs.Prelude.{Ok, Err, Some, None, option_copied}
use Rattle.field.specs.declared.refusal.Refusal.TheVariants.{Argument}
use Rattle.page.specs.Layout.{id_of, is_leaf}
use Rattle.page.specs.PageRules.{breach, lent_check_of}
use Rattle.node.specs.Edit.{insert_branch_of}
use Rattle.node.proofs.NodeLaws.{lent}
use Rattle.node.proofs.EditLaws.{same_edits, refused_edits, branched_breach, branched_leaf, branched_child, branched_goes}
use Rattle.branch.proofs.insert_branch.Goals as goal
use Rattle.branch.proofs.insert_branch.Goals.{Else-is_leaf, In_ok-lent_check}

passed : (c : In_ok-lent_check) → lent_check_of c.args.p c.args.b.now ≡ Ok tt
passed c = sym c.lent_check.ensures ∙ c.in_ok-lent_check.was

branch : (c : Else-is_leaf) → is_leaf c.args.b.now ≡ false
branch c = sym c.is_leaf.ensures ∙ c.if-is_leaf.false

pub is_leaf-requires : goal.is_leaf-requires
is_leaf-requires c = let a = c.args in (lent a.p a.b.now (passed c)).long

pub returns-in_err-lent_check : goal.returns-in_err-lent_check
returns-in_err-lent_check c =
    let a = c.args in
    let e = branched_breach a.p a.b.now (option_copied a.original) a.key.now a.child a.out.now _ (sym c.lent_check.ensures ∙ c.in_err-lent_check.was) in
    rw e (search rules)

pub returns-then-is_leaf : goal.returns-then-is_leaf
returns-then-is_leaf c =
    let a = c.args in
    let o = option_copied a.original in
    let p = passed (goal.at.returns-then-is_leaf c).In_ok-lent_check in
    let e : insert_branch_of a.p a.b.now o a.key.now a.child a.out.now ≡ Err (breach Argument 0 0) = ⊎_elim
    (λ t. branched_leaf a.p a.b.now o a.key.now a.child a.out.now p (sym c.is_leaf.ensures ∙ t))
    (λ t. branched_child a.p a.b.now o a.key.now a.child a.out.now p (sym c.is_leaf.ensures ∙ t.0) t.1)
    c.then-is_leaf.either in
    refused_edits false (id_of a.b.now) a.p a.out.now _ (e ∙ ap Err (sym c.from.ensures))

pub returns-in-Some : goal.returns-in-Some
returns-in-Some c =
    let a = c.args in
    rw c.in-Some.is
    (same_edits false (id_of a.b.now) a.p a.out.now
    (branched_goes a.p a.b.now (Some c.in-Some.original.now) a.key.now a.child a.out.now (passed (goal.at.returns-in-Some c).In_ok-lent_check)
    (branch (goal.at.returns-in-Some c).Else-is_leaf) (omega arith))
    c.replace_branch.ensures)

pub returns-in-None : goal.returns-in-None
returns-in-None c =
    let a = c.args in
    rw c.in-None.is
    (same_edits false (id_of a.b.now) a.p a.out.now
    (branched_goes a.p a.b.now None a.key.now a.child a.out.now (passed (goal.at.returns-in-None c).In_ok-lent_check)
    (branch (goal.at.returns-in-None c).Else-is_leaf) (omega arith))
    c.add_branch.ensures)
