-- `judge::freelist::first_outside` meets its contract. The loop's invariant: the first bad one of all is the first of those from `i` on. Assumes nothing.
use Prim.Native.Nat.{◌-◌}
use mathlib.Core.Path.{◌≡◌}
use Rattle.field.specs.declared.refusal.Refusal.TheVariants.{Element}
use Rattle.page.specs.PageRules.{no_common, first_bad}
use Rattle.judge.specs.Judge.{id_outside}
use Rattle.judge.proofs.freelist.first_outside.Given as goal

abbrev pub invariant-loop-i : goal.invariant-loop-i
invariant-loop-i l = first_bad (id_outside l.n l.b) no_common Element l.c 0 ≡ first_bad (id_outside l.n l.b) no_common Element (l.c - l.i) l.i
