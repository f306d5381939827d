-- `page::rules::check_elements` meets its contract. The loop's invariant: the first bad element is the first from `i` on.
-- Assumes nothing.
use Prim.Native.Nat.{◌-◌}
use mathlib.Core.Path.{◌≡◌}
use Rattle.page.specs.PageRules.{no_common, first_bad, element_bad}
use Rattle.page.proofs.rules.check_elements.Given as goal
use Rattle.field.specs.declared.refusal.Refusal.TheVariants.{Element}

abbrev pub invariant-loop-i : goal.invariant-loop-i
invariant-loop-i l = first_bad (element_bad l.leaf l.b) no_common Element l.n 0 ≡ first_bad (element_bad l.leaf l.b) no_common Element (l.n - l.i) l.i
