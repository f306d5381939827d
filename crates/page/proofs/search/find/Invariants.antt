-- `page::search::find` meets its contract. The loop's invariant: the keys before `lo` are lower than the one looked for, and those from `hi` on higher.
-- The measure is what lies between the two. Assumes nothing.
use Prim.Native.Nat.{ℕ, ◌-◌, ◌≤◌, ◌<◌}
use mathlib.Core.Path.{◌≡◌}
use Rattle.std.specs.declared.cmp.Ordering.TheVariants.{Less, Greater}
use Rattle.field.specs.Order.{order_of}
use Rattle.page.specs.Layout.{key_of}
use Rattle.page.proofs.search.find.Given as goal

abbrev pub invariant-loop-lo : goal.invariant-loop-lo
invariant-loop-lo l =
    (l.lo ≤ l.hi)
    × (l.hi ≤ l.n)
    × ((k : ℕ) → k < l.lo → order_of (key_of l.leaf l.b k) l.key ≡ Less)
    × ((k : ℕ) → l.hi ≤ k → k < l.n → order_of (key_of l.leaf l.b k) l.key ≡ Greater)

abbrev pub decreases-loop-lo : goal.decreases-loop-lo
decreases-loop-lo l = l.hi - l.lo
