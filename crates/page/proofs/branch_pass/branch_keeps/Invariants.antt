-- `page::branch_pass::branch_keeps` meets its contract, as `leaf_keeps` does; an element has no value and no kind. Assumes nothing.
use Prim.Native.Nat.{◌-◌}
use mathlib.Core.Bool.{false}
use Rattle.page.proofs.PassLaws.{Pass}
use Rattle.page.proofs.branch_pass.branch_keeps.Given as goal

abbrev pub invariant-loop-at : goal.invariant-loop-at
invariant-loop-at l = Pass false l.b l.at l.start l.stop

abbrev pub decreases-loop-at : goal.decreases-loop-at
decreases-loop-at l = l.end - l.at
