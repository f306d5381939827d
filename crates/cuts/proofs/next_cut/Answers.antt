use mathlib.Core.Path.{◌≡◌, sym, ap, ◌∙◌}
use Prim.Native.Nat.{◌+◌, ◌-◌}
use native.Mathlib.Omega.{arith}
use Rattle.pack.specs.Plan.{range}
use Rattle.cuts.specs.Run.{restart, first_cut}
use Rattle.cuts.proofs.RunLaws.{cuts_capped, run_cut, run_few, run_small, run_done}
use Rattle.cuts.proofs.next_cut.Goals as goal
use Rattle.cuts.proofs.next_cut.Goals.{else-since-ge-MIN_KEYS_PER_NODE-via-then-since-ge-MIN_KEYS_PER_NODE+else-t-sum, else-since-ge-MIN_KEYS_PER_NODE-via-else-since-ge-MIN_KEYS_PER_NODE}

pub loop-i-init : goal.loop-i-init
loop-i-init c =
    let a = c.args in
    let e : a.c - a.c ≡ 0 = omega arith in
    rw e (cuts_capped a.leaf a.t a.c c.start_sum-sum.result (restart a.leaf a.b.now a.c) 0 (range a.leaf a.b.now a.c a.end) (omega arith))

pub returns-then-t-sum : goal.returns-then-t-sum
returns-then-t-sum c =
    let a = c.args in
    let l = c.loop-i in
    let e = run_cut a.leaf a.t a.b.now l.i a.end l.sum (l.i - a.c) c.add_capped-sum.result (omega arith) (omega arith) (omega arith) (omega arith) in
    sym e ∙ ap first_cut l.invariant

pub loop-i-preserved : goal.loop-i-preserved
loop-i-preserved c =
    let a = c.args in
    let l = c.loop-i in
    let n : l.i + 1 - a.c ≡ l.i - a.c + 1 = omega arith in
    let few = run_few a.leaf a.t a.b.now l.i a.end l.sum (l.i - a.c) c.add_capped-sum.result (omega arith) (omega arith) in
    let small = run_small a.leaf a.t a.b.now l.i a.end l.sum (l.i - a.c) c.add_capped-sum.result (omega arith) (omega arith) in
    rw n
    (elim c.else-since-ge-MIN_KEYS_PER_NODE.branch [
      | else-since-ge-MIN_KEYS_PER_NODE-via-then-since-ge-MIN_KEYS_PER_NODE+else-t-sum w ↦ sym (small (omega arith) (omega arith)) ∙ l.invariant
      | else-since-ge-MIN_KEYS_PER_NODE-via-else-since-ge-MIN_KEYS_PER_NODE w ↦ sym (few (omega arith)) ∙ l.invariant
    ])

pub returns : goal.returns
returns c =
    let a = c.args in
    let l = c.loop-i in
    let e = run_done a.leaf a.t a.b.now l.i a.end l.sum (l.i - a.c) (omega arith) in
    ap first_cut (sym e ∙ l.invariant)
