-- `judge::walk` and `judge::walk_all` meet their contracts; each call has fewer levels to spend, or is of a child with as many. The loop's
-- invariant: for any pages that the words mark at its start, the walk of all children is the walk of those from `i` on, after the entries counted
-- and with the pages marked by now; and each entry counted has its page, so that few enough are counted. Assumes nothing.
use Prim.Native.Nat.{ℕ, ◌+◌, ◌-◌, ◌*◌, ◌≤◌}
use mathlib.Core.Path.{◌≡◌}
use mathlib.Core.Bool.{false}
use mathlib.Core.List.{List}
use mathlib.Core.Option.{Option}
use Rattle.field.specs.Marks.{count}
use Rattle.walk.specs.Tree.{Key, walk_all as walk_all_of, walk as walk_of, Verdict as Walk}
use Rattle.view.specs.View.{row, child_item, view_of, pages_of}
use Rattle.judge.specs.Walk.{upper_of, Marks}
use Rattle.judge.proofs.+walk.Given as goal

-- the children of a block b from i on, after so many entries
abbrev pub children : List ℕ → ℕ → ℕ → ℕ → List ℕ → Option Key → ℕ → ℕ → ℕ → List ℕ → Walk
children image p n left b high k i entries us = walk_all_of (walk_of n (pages_of image p n) (view_of image p n) left false) (row (child_item b) k i) high entries us

abbrev pub decreases-walk : goal.decreases-walk
decreases-walk l = 2 * l.left

abbrev pub decreases-walk_all : goal.decreases-walk_all
decreases-walk_all l = 2 * l.left + 1

abbrev pub invariant-walk_all-loop-i : goal.invariant-walk_all-loop-i
invariant-walk_all-loop-i l = record {
  walked : (vs : List ℕ) → Marks l.initial.marks vs
      → (us : List ℕ) × Marks l.marks us × (children l.image l.p l.n l.left l.b (upper_of l.high) l.c 0 0 vs ≡ children l.image l.p l.n l.left l.b (upper_of l.high) (l.c - l.i) l.i l.entries us);
  counted : l.entries + 2147483648 * count l.initial.marks ≤ 2147483648 * count l.marks;
}
