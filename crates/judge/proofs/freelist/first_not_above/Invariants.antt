-- `judge::freelist::first_not_above` meets its contract. The loop's invariant: the first bad one of all is the first of those from `i` on. Assumes nothing.
use Prim.Native.Nat.{◌-◌}
use mathlib.Core.Path.{◌≡◌}
use Rattle.field.specs.declared.refusal.Refusal.TheVariants.{KeyOrder}
use Rattle.page.specs.PageRules.{no_common, first_bad}
use Rattle.judge.specs.Judge.{id_not_above}
use Rattle.judge.proofs.freelist.first_not_above.Given as goal

abbrev pub invariant-loop-i : goal.invariant-loop-i
invariant-loop-i l = first_bad (id_not_above l.b) no_common KeyOrder (l.c - 1) 1 ≡ first_bad (id_not_above l.b) no_common KeyOrder (l.c - l.i) l.i
