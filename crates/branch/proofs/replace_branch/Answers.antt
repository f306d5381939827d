-- `branch::replace_branch` meets its contract: a conflict where the original key is absent or a neighbour breaks the order, and else the replacement. Assumes nothing.
use borrow.Author.Tests.{not-true, not-false}
use Prim.Native.Nat.{◌<◌}
use mathlib.Core.Path.{◌≡◌, sym, ap, ◌∙◌}
use mathlib.Core.Bool.{true, false, ◌||◌}
use Rattle.std.specs.Prelude.{Err}
use mathlib.Core.List.{[]}
use native.Mathlib.Omega.{arith}
use Rattle.page.specs.Layout.{id_of, count_of, key_of}
use Rattle.page.specs.PageRules.{SoundBlock}
use Rattle.page.proofs.SearchLaws.{found_at, missing_none}
use Rattle.pack.specs.Plan.{entry_with}
use Rattle.node.specs.Neighbours.{not_above, not_below}
use Rattle.node.proofs.NodeLaws.{lent, lent_as}
use Rattle.node.proofs.InsertLaws.{place_is}
use Rattle.node.proofs.EditLaws.{same_edits, refused_edits}
use Rattle.branch.proofs.BranchLaws.{absent_all, replace_absent, replace_breaks, replace_goes}
use Rattle.branch.proofs.replace_branch.Goals as goal
use Rattle.branch.proofs.replace_branch.Goals.{Else-not-place, Start, then-not_above-via-then-not_above, then-not_above-via-else-not_above+then-not_below}

sound : (s : Start) → SoundBlock false true s.args.b.now
sound s = lent_as s.args.p s.args.b.now false s.requires.0 s.requires.1

-- the original key is there
there : (c : Else-not-place)
    → (c.find-place.result.at < count_of c.args.b.now)
    × (key_of false c.args.b.now c.find-place.result.at
    ≡ c.args.original.now)
there c =
    let a = c.args in
    let p = c.find-place.result in
    found_at false a.b.now a.original.now p.at (sym c.find-place.ensures ∙ place_is p true (not-false _ c.if-not-place.false))

pub count-n-requires : goal.count-n-requires
count-n-requires c = (lent c.args.p c.args.b.now c.requires.0).long

pub find-place-requires : goal.find-place-requires
find-place-requires c = (c.count-n.ensures, sound (goal.at.find-place-requires c).Start)

pub returns-then-not-place : goal.returns-then-not-place
returns-then-not-place c =
    let a = c.args in
    let b = a.b.now in
    let p = c.find-place.result in
    let none = missing_none false true b (sound (goal.at.returns-then-not-place c).Start) a.original.now p.at (sym c.find-place.ensures ∙ place_is p false (not-true _ c.if-not-place.true)) in
    refused_edits false (id_of b) a.p a.out.now _
    (replace_absent a.p a.out.now b (entry_with a.child a.key.now []) a.original.now (absent_all b a.original.now none) ∙ ap Err (sym c.from.ensures))

pub not_above-requires : goal.not_above-requires
not_above-requires c = ((there c).0, sound (goal.at.not_above-requires c).Start)

pub not_below-requires : goal.not_below-requires
not_below-requires c =
    let n = c.count-n.ensures in
    let h = (there (goal.at.not_below-requires c).Else-not-place).0 in
    (n, omega arith, sound (goal.at.not_below-requires c).Start)

pub returns-then-not_above : goal.returns-then-not_above
returns-then-not_above c =
    let a = c.args in
    let b = a.b.now in
    let h = there (goal.at.returns-then-not_above c).Else-not-place in
    let i = c.find-place.result.at in
    let broken : (not_above b i a.key.now || not_below b i a.key.now) ≡ true = elim c.then-not_above.branch [
      | then-not_above-via-then-not_above w ↦ rw (sym c.not_above.ensures ∙ w.if-not_above.true)
      | then-not_above-via-else-not_above+then-not_below w ↦ rw (sym c.not_above.ensures ∙ w.if-not_above.false, sym w.not_below.ensures ∙ w.if-not_below.true)
    ] in
    refused_edits false (id_of b) a.p a.out.now _
    (replace_breaks a.p a.out.now b (entry_with a.child a.key.now []) a.original.now (sound (goal.at.returns-then-not_above c).Start) _ h.0 h.1 broken
    ∙ ap Err (sym c.from-then-not_above.ensures))

pub replace-requires : goal.replace-requires
replace-requires c =
    (c.requires.0, c.requires.1, (there (goal.at.replace-requires c).Else-not-place).0)

pub returns : goal.returns
returns c =
    let a = c.args in
    let b = a.b.now in
    let h = there (goal.at.returns c).Else-not-place in
    same_edits false (id_of b) a.p a.out.now
    (replace_goes a.p a.out.now b (entry_with a.child a.key.now []) a.original.now (sound (goal.at.returns c).Start) _ h.0 h.1
    (sym c.not_above.ensures ∙ c.if-not_above.false) (sym c.not_below.ensures ∙ c.if-not_below.false))
    c.replace.ensures
