-- `node::edit::insert_data` meets its contract: the check's refusal, one for a branch or a bad kind, and else the entry put in order. Assumes nothing.
use Rattle.std.proofs.Common.{rules}
use mathlib.Core.Path.{◌≡◌, sym, ap, ◌∙◌}
use mathlib.Core.Bool.{true}
use Rattle.std.specs.Prelude.{Ok, Err}
use Rattle.field.specs.declared.refusal.Refusal.TheVariants.{Argument}
use Rattle.page.specs.Layout.{id_of, is_leaf}
use Rattle.page.specs.PageRules.{breach, lent_check_of}
use Rattle.node.specs.Edit.{insert_of}
use Rattle.node.proofs.NodeLaws.{lent}
use Rattle.node.proofs.EditLaws.{same_edits, refused_edits, insert_breach, insert_branch_lem, insert_kind, insert_goes}
use Rattle.node.proofs.edit.insert_data.Goals as goal
use Rattle.node.proofs.edit.insert_data.Goals.{Else-not-is_leaf, In_ok-lent_check, then-not-is_leaf-via-then-not-is_leaf, then-not-is_leaf-via-else-not-is_leaf+then-kind_bad}

passed : (c : In_ok-lent_check) → lent_check_of c.args.p c.args.b.now ≡ Ok tt
passed c = sym c.lent_check.ensures ∙ c.in_ok-lent_check.was

leafy : (c : Else-not-is_leaf) → is_leaf c.args.b.now ≡ true
leafy c = sym c.is_leaf.ensures ∙ c.if-not-is_leaf.false

pub returns-in_err-lent_check : goal.returns-in_err-lent_check
returns-in_err-lent_check c =
    let a = c.args in
    let e = insert_breach a.p a.b.now a.key.now a.kind a.value.now a.out.now _ (sym c.lent_check.ensures ∙ c.in_err-lent_check.was) in
    rw e (search rules)

pub is_leaf-requires : goal.is_leaf-requires
is_leaf-requires c = let a = c.args in (lent a.p a.b.now (passed c)).long

pub returns-then-not-is_leaf : goal.returns-then-not-is_leaf
returns-then-not-is_leaf c =
    let a = c.args in
    let p = passed (goal.at.returns-then-not-is_leaf c).In_ok-lent_check in
    let e : insert_of a.p a.b.now a.key.now a.kind a.value.now a.out.now ≡ Err (breach Argument 0 0) = elim c.then-not-is_leaf.branch [
      | then-not-is_leaf-via-then-not-is_leaf w ↦
          insert_branch_lem a.p a.b.now a.key.now a.kind a.value.now a.out.now p (sym c.is_leaf.ensures ∙ w.if-not-is_leaf.true)
      | then-not-is_leaf-via-else-not-is_leaf+then-kind_bad w ↦
          insert_kind a.p a.b.now a.key.now a.kind a.value.now a.out.now p (sym c.is_leaf.ensures ∙ w.if-not-is_leaf.false) (sym w.kind_bad.ensures ∙ w.if-kind_bad.true)
    ] in
    refused_edits true (id_of a.b.now) a.p a.out.now _ (e ∙ ap Err (sym c.from.ensures))

pub returns : goal.returns
returns c =
    let a = c.args in
    same_edits true (id_of a.b.now) a.p a.out.now
    (insert_goes a.p a.b.now a.key.now a.kind a.value.now a.out.now (passed (goal.at.returns c).In_ok-lent_check) (leafy (goal.at.returns c).Else-not-is_leaf)
    (sym c.kind_bad.ensures ∙ c.if-kind_bad.false))
    (rw c.from-2.ensures at c.put.ensures)
