-- `branch::add_branch` meets its contract: a conflict where the key is present, and else the entry put in order. Assumes nothing.
use mathlib.Core.Path.{sym, ap, ◌∙◌}
use Rattle.std.specs.Prelude.{Err}
use mathlib.Core.Bool.{true, false}
use mathlib.Core.List.{[]}
use Rattle.page.specs.Layout.{id_of}
use Rattle.page.proofs.SearchLaws.{found_at, missing_none}
use Rattle.pack.specs.Plan.{entry_with}
use Rattle.node.proofs.NodeLaws.{lent, lent_as}
use Rattle.node.proofs.InsertLaws.{place_is}
use Rattle.node.proofs.EditLaws.{same_edits, refused_edits}
use Rattle.branch.proofs.BranchLaws.{present_at, absent_all, add_present, add_goes}
use Rattle.branch.proofs.add_branch.Goals as goal

pub count-requires : goal.count-requires
count-requires c = (lent c.args.p c.args.b.now c.requires.0).long

pub find-place-requires : goal.find-place-requires
find-place-requires c =
    (c.count.ensures, lent_as c.args.p c.args.b.now false c.requires.0 c.requires.1)

pub returns-then-place : goal.returns-then-place
returns-then-place c =
    let a = c.args in
    let b = a.b.now in
    let p = c.find-place.result in
    let there = found_at false b a.key.now p.at (sym c.find-place.ensures ∙ place_is p true c.if-place.true) in
    refused_edits false (id_of b) a.p a.out.now _
    (add_present a.p a.out.now b (entry_with a.child a.key.now []) (present_at b a.key.now p.at there.0 there.1) ∙ ap Err (sym c.from.ensures))

pub returns : goal.returns
returns c =
    let a = c.args in
    let b = a.b.now in
    let p = c.find-place.result in
    let sound = lent_as a.p b false c.requires.0 c.requires.1 in
    let none = missing_none false true b sound a.key.now p.at (sym c.find-place.ensures ∙ place_is p false c.if-place.false) in
    same_edits false (id_of b) a.p a.out.now (add_goes a.p a.out.now b (entry_with a.child a.key.now []) (absent_all b a.key.now none)) c.put.ensures
