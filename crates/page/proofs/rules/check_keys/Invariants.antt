-- `page::rules::check_keys` meets its contract. The loop's invariant: the first bad element is the first from `i` on.
-- Assumes nothing.
use Prim.Native.Nat.{◌-◌}
use mathlib.Core.Path.{◌≡◌}
use Rattle.page.specs.PageRules.{first_bad, key_bad, common_before}
use Rattle.page.proofs.rules.check_keys.Given as goal
use Rattle.field.specs.declared.refusal.Refusal.TheVariants.{KeyOrder}

abbrev pub invariant-loop-i : goal.invariant-loop-i
invariant-loop-i l = first_bad (key_bad l.leaf l.b) (common_before l.leaf l.b) KeyOrder (l.n - 1) 1 ≡ first_bad (key_bad l.leaf l.b) (common_before l.leaf l.b) KeyOrder (l.n - l.i) l.i
