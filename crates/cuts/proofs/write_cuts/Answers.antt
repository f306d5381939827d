use mathlib.Core.Path.{◌≡◌, sym, ap, ◌∙◌}
use mathlib.Core.List.{◌∷◌}
use Prim.Native.Nat.{◌≤◌, ◌<◌}
use native.Mathlib.Omega.{arith}
use lib.ListN.{length, length-set}
use Rattle.field.specs.Run.{put_at}
use Rattle.field.proofs.RunLaws.{put_nil, put_cons}
use Rattle.cuts.specs.Run.{cuts_after}
use Rattle.cuts.proofs.RunLaws.{none_first, next_after}
use Rattle.cuts.proofs.write_cuts.Goals as goal
use Rattle.cuts.proofs.write_cuts.Goals.{In-Some}

-- the cut that was found, and those after it
turn : (c : In-Some) →
    let a = c.args in
    let cut = c.in-Some.cut in
    (cuts_after a.leaf a.t a.b.now a.end c.loop-cut.from ≡ cut ∷ cuts_after a.leaf a.t a.b.now a.end cut) × (c.loop-cut.from < cut) × (cut ≤ a.end)
turn c =
    let a = c.args in
    next_after a.leaf a.t a.b.now a.end c.loop-cut.from c.in-Some.cut c.in-Some.ensures

pub loop-cut-smaller : goal.loop-cut-smaller
loop-cut-smaller c = let e = turn (goal.at.loop-cut-smaller c).In-Some in omega arith

pub loop-cut-preserved : goal.loop-cut-preserved
loop-cut-preserved c =
    let l = c.loop-cut in
    let a = c.args in
    let cut = c.in-Some.cut in
    let e = turn (goal.at.loop-cut-preserved c).In-Some in
    let n = ap length e.0 in
    let s = length-set l.cuts l.at cut in
    let p = put_cons l.cuts l.at cut (cuts_after a.leaf a.t a.b.now a.end cut) (omega arith) in
    (omega arith, omega arith, omega arith, p ∙ ap (put_at l.cuts l.at) (sym e.0) ∙ l.invariant.3)

pub returns : goal.returns
returns c =
    let a = c.args in
    let l = c.loop-cut in
    let e = none_first (cuts_after a.leaf a.t a.b.now a.end l.from) (sym c.next_cut.ensures ∙ c.in_default.is) in
    sym (put_nil l.cuts l.at) ∙ ap (put_at l.cuts l.at) (sym e) ∙ l.invariant.3
