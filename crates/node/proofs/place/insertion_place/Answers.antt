-- `node::place::insertion_place` meets its contract: the search told the place before it, or 0, and the key there says which. Assumes nothing.
use mathlib.Core.Path.{◌≡◌, sym, ap, ◌∙◌}
use Rattle.std.specs.Ordering.{is_lt}
use Rattle.field.specs.Order.{order_of}
use Rattle.field.proofs.OrderLaws.{is_lt_lem}
use mathlib.Core.Bool.{true}
use native.Mathlib.Omega.{arith}
use Prim.Native.Nat.{◌<◌}
use Rattle.page.specs.Layout.{count_of, key_of}
use Rattle.page.proofs.LayoutLaws.{element_room}
use Rattle.page.proofs.SearchLaws.{Missing, missing_at}
use Rattle.node.proofs.InsertLaws.{after_lower, not_lower}
use Rattle.node.proofs.place.insertion_place.Goals as goal
use Rattle.node.proofs.place.insertion_place.Goals.{After-is_lt, Else-n-eq0, Start}

missing : (s : Start) → Missing s.args.leaf s.args.b.now s.args.key.now s.args.at
missing s = missing_at s.args.leaf true s.args.b.now s.requires.1 s.args.key.now s.args.at s.requires.2

-- where there are entries, the place told is one of theirs
told : (c : Else-n-eq0) → c.args.at < count_of c.args.b.now
told c =
    let m = missing (goal.at.Else-n-eq0 c).Start in
    let t = m.told in
    let u = m.upto in
    let n = c.requires.0 in
    let z = c.if-n-eq0.false in
    omega arith

pub key_order-requires : goal.key_order-requires
key_order-requires c =
    let a = c.args in
    let l = told c in
    let w = c.requires.1.within a.at l in
    (element_room a.leaf a.b.now a.at l c.requires.1.fits, omega arith)

pub overflow_add-result : goal.overflow_add-result
overflow_add-result c =
    let l = told (goal.at.overflow_add-result c).Else-n-eq0 in
    let n = c.requires.0 in
    omega arith

-- the order that was tested
tested : (c : After-is_lt) → c.is_lt.result ≡ is_lt (order_of (key_of c.args.leaf c.args.b.now c.args.at) c.args.key.now)
tested c = c.is_lt.ensures ∙ ap is_lt c.key_order.ensures

pub returns-then-is_lt : goal.returns-then-is_lt
returns-then-is_lt c =
    let a = c.args in
    after_lower a.leaf a.b.now a.key.now a.at (missing (goal.at.returns-then-is_lt c).Start) (told (goal.at.returns-then-is_lt c).Else-n-eq0)
    (is_lt_lem _ (sym (tested (goal.at.returns-then-is_lt c).After-is_lt) ∙ c.if-is_lt.true))

pub returns-else-is_lt : goal.returns-else-is_lt
returns-else-is_lt c =
    let a = c.args in
    not_lower a.leaf a.b.now a.key.now a.at (missing (goal.at.returns-else-is_lt c).Start) (told (goal.at.returns-else-is_lt c).Else-n-eq0)
    (sym (tested (goal.at.returns-else-is_lt c).After-is_lt) ∙ c.if-is_lt.false)
