-- `node::edit::new_branch` meets its contract: a refusal for a page size that is not allowed, one for a child below 2, and else a branch of one entry. Assumes nothing.
use mathlib.Core.Path.{◌≡◌, sym, ap, ◌∙◌}
use Rattle.std.specs.Prelude.{Err}
use mathlib.Core.Bool.{true, false}
use native.Mathlib.Omega.{arith}
use Rattle.field.specs.Sizes.{size_allowed}
use Rattle.node.proofs.EditLaws.{same_edits, refused_edits, branch_size, branch_child, branch_goes}
use Rattle.node.proofs.edit.new_branch.Goals as goal
use Rattle.node.proofs.edit.new_branch.Goals.{Else-not-size_allowed}

allowed : (c : Else-not-size_allowed) → size_allowed c.args.p ≡ true
allowed c = sym c.size_allowed.ensures ∙ c.if-not-size_allowed.false

pub returns-then-not-size_allowed : goal.returns-then-not-size_allowed
returns-then-not-size_allowed c =
    let a = c.args in
    refused_edits false a.id a.p a.out.now _
    (branch_size a.p a.out.now a.key.now a.child (sym c.size_allowed.ensures ∙ c.if-not-size_allowed.true) ∙ ap Err (sym c.from.ensures))

pub returns-then-child-lt2 : goal.returns-then-child-lt2
returns-then-child-lt2 c =
    let a = c.args in
    refused_edits false a.id a.p a.out.now _
    (branch_child a.p a.out.now a.key.now a.child (allowed (goal.at.returns-then-child-lt2 c).Else-not-size_allowed) (omega arith) ∙ ap Err (sym c.from-then-child-lt2.ensures))

pub returns : goal.returns
returns c =
    let a = c.args in
    same_edits false a.id a.p a.out.now (branch_goes a.p a.out.now a.key.now a.child (allowed (goal.at.returns c).Else-not-size_allowed) (omega arith)) c.write_new.ensures
