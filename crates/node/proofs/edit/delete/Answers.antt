-- `node::edit::delete` meets its contract: the check's refusal, one for a branch or an index past the end, and else the removal. Assumes nothing.
use Rattle.std.proofs.Common.{rules}
use mathlib.Core.Path.{◌≡◌, refl, sym, ap, ◌∙◌}
use mathlib.Core.Bool.{true}
use native.Mathlib.Omega.{arith}
use Rattle.std.specs.Prelude.{Ok, Err}
use Rattle.field.specs.declared.refusal.Refusal.TheVariants.{Argument}
use Rattle.page.specs.Layout.{is_leaf}
use Rattle.page.specs.PageRules.{breach, lent_check_of}
use Rattle.node.specs.Edit.{delete_of}
use Rattle.node.proofs.NodeLaws.{lent, lent_as}
use Rattle.node.proofs.EditLaws.{delete_breach, delete_branch, delete_past, delete_goes, deleted_refused, deleted_done}
use Rattle.node.proofs.edit.delete.Goals as goal
use Rattle.node.proofs.edit.delete.Goals.{Else-not-is_leaf, In_ok-lent_check, then-not-is_leaf-via-then-not-is_leaf, then-not-is_leaf-via-else-not-is_leaf+then-count-i}

passed : (c : In_ok-lent_check) → lent_check_of c.args.p c.args.b.now ≡ Ok tt
passed c = sym c.lent_check.ensures ∙ c.in_ok-lent_check.was

leafy : (c : Else-not-is_leaf) → is_leaf c.args.b.now ≡ true
leafy c = sym c.is_leaf.ensures ∙ c.if-not-is_leaf.false

pub returns-in_err-lent_check : goal.returns-in_err-lent_check
returns-in_err-lent_check c =
    let a = c.args in
    let e = delete_breach a.p a.b.now a.i a.out.now _ (sym c.lent_check.ensures ∙ c.in_err-lent_check.was) in
    rw e (search rules, refl)

pub is_leaf-requires : goal.is_leaf-requires
is_leaf-requires c = let a = c.args in (lent a.p a.b.now (passed c)).long

pub count-requires : goal.count-requires
count-requires c = let a = c.args in (lent a.p a.b.now (passed (goal.at.count-requires c).In_ok-lent_check)).long

pub returns-then-not-is_leaf : goal.returns-then-not-is_leaf
returns-then-not-is_leaf c =
    let a = c.args in
    let p = passed (goal.at.returns-then-not-is_leaf c).In_ok-lent_check in
    let e : delete_of a.p a.b.now a.i a.out.now ≡ Err (breach Argument 0 0) = elim c.then-not-is_leaf.branch [
      | then-not-is_leaf-via-then-not-is_leaf w ↦ delete_branch a.p a.b.now a.i a.out.now p (sym c.is_leaf.ensures ∙ w.if-not-is_leaf.true)
      | then-not-is_leaf-via-else-not-is_leaf+then-count-i w ↦
          let n = w.count.ensures in
          delete_past a.p a.b.now a.i a.out.now p (sym c.is_leaf.ensures ∙ w.if-not-is_leaf.false) (omega arith)
    ] in
    rw e (ap Err c.from.ensures, refl)

pub leaf_at-leaf-requires : goal.leaf_at-leaf-requires
leaf_at-leaf-requires c =
    let a = c.args in
    let n = c.count.ensures in
    (omega arith, lent_as a.p a.b.now true (passed (goal.at.leaf_at-leaf-requires c).In_ok-lent_check) (leafy (goal.at.leaf_at-leaf-requires c).Else-not-is_leaf))

pub returns-in_err-bytes : goal.returns-in_err-bytes
returns-in_err-bytes c =
    let n = c.count.ensures in
    let a = c.args in
    let e = delete_goes a.p a.b.now a.i a.out.now (passed (goal.at.returns-in_err-bytes c).In_ok-lent_check) (leafy (goal.at.returns-in_err-bytes c).Else-not-is_leaf) (omega arith) in
    let d = deleted_refused a.p a.b.now a.i e c.remove.ensures _ c.in_err-bytes.was in
    (search rules, d.1)

pub returns : goal.returns
returns c =
    let n = c.count.ensures in
    let a = c.args in
    let e = delete_goes a.p a.b.now a.i a.out.now (passed (goal.at.returns c).In_ok-lent_check) (leafy (goal.at.returns c).Else-not-is_leaf) (omega arith) in
    rw c.leaf_at-leaf.ensures (deleted_done a.p a.b.now a.i e c.remove.ensures _ c.in_ok-bytes.was)
