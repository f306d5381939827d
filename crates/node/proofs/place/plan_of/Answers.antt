-- `node::place::plan_of` meets its contract: the plan of a replacement where the key is found, else of an insertion at its place. Assumes nothing.
use mathlib.Core.Path.{◌≡◌, sym, ◌∙◌}
use mathlib.Core.Bool.{true}
use native.Mathlib.Omega.{arith}
use Prim.Native.Nat.{◌<◌}
use Rattle.page.specs.Layout.{count_of, key_of}
use Rattle.page.proofs.SearchLaws.{found_at}
use Rattle.pack.proofs.PlanLaws.{plan_insert, plan_replace}
use Rattle.node.proofs.InsertLaws.{place_is, insert_between, insert_equal}
use Rattle.node.proofs.place.plan_of.Goals as goal
use Rattle.node.proofs.place.plan_of.Goals.{Then-place}

there : (c : Then-place)
    → (c.find-place.result.at < count_of c.args.b.now)
    × (key_of c.args.leaf c.args.b.now c.find-place.result.at
    ≡ c.args.key.now)
there c =
    let a = c.args in
    let p = c.find-place.result in
    found_at a.leaf a.b.now a.key.now p.at (sym c.find-place.ensures ∙ place_is p true c.if-place.true)

pub overflow_add-result : goal.overflow_add-result
overflow_add-result c = let h = (there c).0 in let n = c.count-n.ensures in omega arith

pub returns-then-place : goal.returns-then-place
returns-then-place c =
    let a = c.args in
    let n = c.count-n in
    let e = n.ensures in
    let at = c.find-place.result.at in
    let h = there c in
    let l = h.0 in (
      record { front = omega arith; middle = omega arith; back = omega arith; end = omega arith },
      λ value.
          plan_replace a.leaf a.b.now at n.result a.key.now value e a.tag (omega arith)
          ∙ sym (insert_equal a.leaf a.b.now a.tag a.key.now value at c.requires l h.1),
    )

pub returns : goal.returns
returns c =
    let a = c.args in
    let n = c.count-n in
    let e = n.ensures in
    let i = c.insertion_place-i.result in
    let h = c.insertion_place-i.ensures in
    let u = h.upto in (
      record { front = omega arith; middle = omega arith; back = omega arith; end = omega arith },
      λ value.
          plan_insert a.leaf a.b.now i n.result a.key.now value e a.tag (omega arith)
          ∙ sym (insert_between a.leaf a.b.now a.tag a.key.now value i h),
    )
