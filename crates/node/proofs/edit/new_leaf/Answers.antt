-- `node::edit::new_leaf` meets its contract: a refusal for a page size that is not allowed, and else a leaf of no entries. Assumes nothing.
use mathlib.Core.Path.{◌≡◌, sym, ap, ◌∙◌}
use Rattle.std.specs.Prelude.{Err}
use mathlib.Core.Bool.{true}
use Rattle.field.specs.Sizes.{size_allowed}
use Rattle.node.proofs.EditLaws.{same_edits, refused_edits, leaf_size, leaf_goes}
use Rattle.node.proofs.edit.new_leaf.Goals as goal
use Rattle.node.proofs.edit.new_leaf.Goals.{Else-not-size_allowed}

allowed : (c : Else-not-size_allowed) → size_allowed c.args.p ≡ true
allowed c = sym c.size_allowed.ensures ∙ c.if-not-size_allowed.false

pub returns-then-not-size_allowed : goal.returns-then-not-size_allowed
returns-then-not-size_allowed c =
    let a = c.args in
    refused_edits true a.id a.p a.out.now _ (leaf_size a.p a.out.now (sym c.size_allowed.ensures ∙ c.if-not-size_allowed.true) ∙ ap Err (sym c.from.ensures))

pub returns : goal.returns
returns c =
    let a = c.args in
    same_edits true a.id a.p a.out.now (leaf_goes a.p a.out.now (allowed (goal.at.returns c).Else-not-size_allowed)) c.write_new.ensures
