-- `page::layout::key_size` meets its contract, for either kind of block. Assumes nothing.
use native.Mathlib.Omega.{arith}
use Rattle.page.proofs.layout.key_size.Goals as goal

pub returns-then-leaf : goal.returns-then-leaf
returns-then-leaf c = rw c.if-leaf.true (omega arith)

pub returns : goal.returns
returns c = rw c.if-leaf.false (omega arith)

pub overflow_mul-at : goal.overflow_mul-at
overflow_mul-at c = let h = rw c.if-leaf.true at c.requires in omega arith

pub overflow_add-at : goal.overflow_add-at
overflow_add-at c = let h = rw c.if-leaf.true at c.requires in omega arith

pub overflow_add-at-then-leaf : goal.overflow_add-at-then-leaf
overflow_add-at-then-leaf c = let h = rw c.if-leaf.true at c.requires in omega arith

pub u64_at-requires : goal.u64_at-requires
u64_at-requires c = let h = rw c.if-leaf.true at c.requires in omega arith

pub overflow_mul-at-2 : goal.overflow_mul-at-2
overflow_mul-at-2 c = let h = rw c.if-leaf.false at c.requires in omega arith

pub overflow_add-at-2 : goal.overflow_add-at-2
overflow_add-at-2 c = let h = rw c.if-leaf.false at c.requires in omega arith

pub overflow_add-at-3 : goal.overflow_add-at-3
overflow_add-at-3 c = let h = rw c.if-leaf.false at c.requires in omega arith

pub u64_at-requires-2 : goal.u64_at-requires-2
u64_at-requires-2 c = let h = rw c.if-leaf.false at c.requires in omega arith
