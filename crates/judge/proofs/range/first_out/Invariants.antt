-- `judge::range::first_out` meets its contract. The loop's invariant: the first bad one of all is the first of those from `i` on. Assumes nothing.
use Prim.Native.Nat.{◌-◌}
use mathlib.Core.Path.{◌≡◌}
use Rattle.field.specs.declared.refusal.Refusal.TheVariants.{KeyRange}
use Rattle.page.specs.PageRules.{first_bad}
use Rattle.judge.specs.Walk.{upper_of, key_out, common_out}
use Rattle.judge.proofs.range.first_out.Given as goal

abbrev pub invariant-loop-i : goal.invariant-loop-i
invariant-loop-i l =
    first_bad (key_out l.leaf l.b l.low (upper_of l.high)) (common_out l.leaf l.b l.low (upper_of l.high)) KeyRange l.n 0
    ≡ first_bad (key_out l.leaf l.b l.low (upper_of l.high)) (common_out l.leaf l.b l.low (upper_of l.high)) KeyRange (l.n - l.i) l.i
