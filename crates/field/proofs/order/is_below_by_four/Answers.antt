-- `field::order::is_below_by_four` meets its contract: of the words from the front, the first that differ decide, and where none does, the lengths. Assumes nothing.
use Prim.Native.Nat.{◌≤◌}
use mathlib.Core.Path.{◌≡◌, sym, ap, ap₂, ◌∙◌}
use mathlib.Core.Bool.{not, cond}
use native.Mathlib.Omega.{arith}
use lib.Dec.{ltb, eqb}
use Rattle.field.specs.Order.{order_of, common_of}
use Rattle.std.specs.Ordering.{is_lt}
use Rattle.field.proofs.FieldLaws.{Bytes}
use Rattle.field.proofs.CommonLaws.{least, by_length}
use Rattle.field.proofs.WordLaws.{parts_here, goes_on, picked_tell}
use Rattle.field.proofs.order.is_below_by_four.Goals as goal
use Rattle.field.proofs.order.is_below_by_four.Goals.{After-big_u64_at-y0, After-pick-y}

left-bytes : (c : After-big_u64_at-y0) → Bytes c.args.a.now
left-bytes c k = omega (arith, c.shared_slice_known-1.given k)

right-bytes : (c : After-big_u64_at-y0) → Bytes c.args.b.now
right-bytes c k = omega (arith, c.shared_slice_known-2-1.given k)

pub returns-then-x0-y0 : goal.returns-then-x0-y0
returns-then-x0-y0 c =
    let x = c.big_u64_at-x0.ensures in
    let y = c.big_u64_at-y0.ensures in
    ap₂ ltb x y
    ∙ sym (parts_here c.args.a.now c.args.b.now (left-bytes (goal.at.returns-then-x0-y0 c).After-big_u64_at-y0) (right-bytes (goal.at.returns-then-x0-y0 c).After-big_u64_at-y0) 0 (omega arith) (omega arith) (omega arith) (λ e. c.if-x0-y0.true (x ∙ e ∙ sym y)))

-- the two words that were picked
told : (c : After-pick-y)
    → let a = c.args in
    let x = c.pick-x.result in
    let y = c.pick-y.result in
    ((x ≡ y → ⊥) → ltb x y ≡ is_lt (order_of a.a.now a.b.now)) × (x ≡ y → a.n ≤ common_of a.a.now a.b.now)
told c =
    let left : Bytes c.args.a.now = λ k. omega (arith, c.shared_slice_known-1.given k) in
    let right : Bytes c.args.b.now = λ k. omega (arith, c.shared_slice_known-2-1.given k) in
    let x1 = c.big_u64_at-x1 in
    let y1 = c.big_u64_at-y1 in
    let x2 = c.big_u64_at-x2 in
    let y2 = c.big_u64_at-y2 in
    let alike =
    goes_on c.args.a.now c.args.b.now left right 0 (omega arith) (omega (arith, c.requires)) (omega (arith, c.requires))
    (sym c.big_u64_at-x0.ensures ∙ c.if-x0-y0.false ∙ c.big_u64_at-y0.ensures) in
    let t =
    picked_tell c.args.a.now c.args.b.now left right c.args.n c.min-third.result c.requires.1 c.requires.2 c.requires.3
    (least _ _ _ c.min-third.ensures) (omega arith) c.requires.0 _ _ _ _ _ _ x1.ensures y1.ensures x2.ensures y2.ensures c.big_u64_at-x3.ensures c.big_u64_at-y3.ensures in
    let ex = c.pick-x.ensures ∙ ap (cond (not (eqb x1.result y1.result)) x1.result) c.pick.ensures in
    let ey = c.pick-y.ensures ∙ ap (cond (not (eqb x1.result y1.result)) y1.result) c.pick-2.ensures in
    (λ ne. ap₂ ltb ex ey ∙ t.0 (λ z. ne (ex ∙ z ∙ sym ey)), λ z. t.1 (sym ex ∙ z ∙ ey))

pub returns-then-x-y : goal.returns-then-x-y
returns-then-x-y c = (told (goal.at.returns-then-x-y c).After-pick-y).0 c.if-x-y.true

pub returns : goal.returns
returns c =
    sym (by_length c.args.a.now c.args.b.now c.args.n ((told (goal.at.returns c).After-pick-y).1 c.if-x-y.false) c.requires.4)
