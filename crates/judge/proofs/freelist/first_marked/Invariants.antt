-- `judge::freelist::first_marked` meets its contract. The loop's invariant: for any pages that the words mark, the first bad one of all is the
-- first of those from `i` on. Assumes nothing.
use Prim.Native.Nat.{ℕ, ◌-◌}
use mathlib.Core.Path.{◌≡◌}
use mathlib.Core.List.{List}
use Rattle.field.specs.declared.refusal.Refusal.TheVariants.{UsedTwice}
use Rattle.page.specs.PageRules.{no_common, first_bad}
use Rattle.judge.specs.Judge.{id_marked}
use Rattle.judge.specs.Walk.{Marks}
use Rattle.judge.proofs.freelist.first_marked.Given as goal

abbrev pub invariant-loop-i : goal.invariant-loop-i
invariant-loop-i l = (vs : List ℕ) → Marks l.marks vs → first_bad (id_marked vs l.b) no_common UsedTwice l.c 0 ≡ first_bad (id_marked vs l.b) no_common UsedTwice (l.c - l.i) l.i
