-- `judge::range::check_range` meets its contract: the keys rise, so where the first is not below the lower end and the last is below the upper, all are in range.
-- Assumes nothing.
use Prim.Native.Nat.{◌-◌, ◌<◌}
use mathlib.Core.Path.{◌≡◌, sym, ap, ◌∙◌}
use mathlib.Core.Bool.{true, false}
use native.Mathlib.Nat.{pos_of_ne-zero}
use native.Mathlib.Omega.{arith}
use Rattle.field.specs.Order.{order_of}
use Rattle.std.specs.Ordering.{is_lt}
use Rattle.page.specs.Layout.{key_of}
use Rattle.page.specs.PageRules.{first_bad}
use Rattle.walk.specs.Tree.{Key, lower, under}
use Rattle.judge.specs.Walk.{upper_of}
use Rattle.judge.proofs.RangeLaws.{key_room, lower_is, ends_against_range}
use Rattle.judge.proofs.range.check_range.Goals as goal
use Rattle.judge.proofs.range.check_range.Goals.{Else-n-eq0, Else-is_below, Then-is_under}

pub returns-then-n-eq0 : goal.returns-then-n-eq0
unfolding first_bad
returns-then-n-eq0 c = rw c.if-n-eq0.true

-- there is a key
filled : (c : Else-n-eq0) → 0 < c.args.n
filled c = pos_of_ne-zero c.if-n-eq0.false

pub key-requires : goal.key-requires
key-requires c = let e = c.requires.0 in let f = filled c in key_room c.args.leaf true c.args.b.now _ c.requires.1 (omega arith)

pub overflow_sub-n : goal.overflow_sub-n
overflow_sub-n c = let f = filled (goal.at.overflow_sub-n c).Else-n-eq0 in omega arith

pub key-requires-2 : goal.key-requires-2
key-requires-2 c = let e = c.requires.0 in let f = filled (goal.at.key-requires-2 c).Else-n-eq0 in key_room c.args.leaf true c.args.b.now _ c.requires.1 (omega arith)

-- the first key is not below the lower end
first : (c : Else-is_below)
    → let a = c.args in lower (key_of a.leaf a.b.now 0) a.low.now ≡ false
first c =
    let a = c.args in
    lower_is (key_of a.leaf a.b.now 0) a.low.now false
    (sym c.if-is_below.false ∙ c.is_below.ensures ∙ ap (λ (k : Key). is_lt (order_of k a.low.now)) c.key.ensures)

-- and the last is below the upper
last : (c : Then-is_under)
    → let a = c.args in
    under (key_of a.leaf a.b.now (a.n - 1)) (upper_of a.high) ≡ true
last c =
    let a = c.args in
    sym (sym c.if-is_under.true ∙ c.is_under.ensures ∙ ap (λ (k : Key). under k (upper_of a.high)) c.key-2.ensures)

pub returns-then-is_under : goal.returns-then-is_under
returns-then-is_under c =
    let e = c.requires.0 in
    let z = filled (goal.at.returns-then-is_under c).Else-n-eq0 in
    let l = last c in
    rw e
    (sym
    (ends_against_range c.args.leaf _ c.args.b.now c.requires.1 c.args.low.now (upper_of c.args.high) (omega arith) (first (goal.at.returns-then-is_under c).Else-is_below) (rw e at l)))
