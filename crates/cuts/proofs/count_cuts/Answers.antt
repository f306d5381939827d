use mathlib.Core.Path.{◌≡◌, ap}
use mathlib.Core.List.{◌∷◌}
use Prim.Native.Nat.{◌≤◌, ◌<◌}
use native.Mathlib.Omega.{arith}
use lib.ListN.{length}
use Rattle.cuts.specs.Run.{cuts_after}
use Rattle.cuts.proofs.RunLaws.{next_after}
use Rattle.cuts.proofs.count_cuts.Goals as goal
use Rattle.cuts.proofs.count_cuts.Goals.{In-Some}

-- the cut that was found, and those after it
turn : (c : In-Some) →
    let a = c.args in
    let next = c.in-Some.next in
    (cuts_after a.leaf a.t a.b.now a.end c.loop-next.c ≡ next ∷ cuts_after a.leaf a.t a.b.now a.end next) × (c.loop-next.c < next) × (next ≤ a.end)
turn c =
    let a = c.args in
    next_after a.leaf a.t a.b.now a.end c.loop-next.c c.in-Some.next c.in-Some.ensures

pub loop-next-smaller : goal.loop-next-smaller
loop-next-smaller c = let e = turn (goal.at.loop-next-smaller c).In-Some in omega arith

pub loop-next-preserved : goal.loop-next-preserved
loop-next-preserved c =
    let e = turn (goal.at.loop-next-preserved c).In-Some in
    let n = ap length e.0 in
    (omega arith, omega arith, omega arith)
