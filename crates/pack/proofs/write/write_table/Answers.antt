-- `pack::write::write_table` meets its contract: three tables put, one after the other, are one. Assumes nothing.
use Prim.Native.Nat.{◌+◌, ◌-◌, ◌*◌, ◌≤◌}
use mathlib.Core.Path.{◌≡◌, ap, ◌∙◌}
use native.Mathlib.Nat.{mul-add}
use native.Mathlib.Omega.{arith}
use lib.ListN.{length}
use Rattle.page.specs.Layout.{element_size}
use Rattle.pack.specs.Pack.{bodies}
use Rattle.std.specs.Prelude.{is_some}
use Rattle.std.specs.Int.{from_bool}
use Rattle.pack.specs.Plan.{range, fresh}
use Rattle.pack.proofs.PackLaws.{count_below_lem}
use Rattle.pack.proofs.PlanLaws.{table_parts, planned_bodies, planned_table}
use Rattle.pack.proofs.write.write_table.Goals as goal
use Rattle.pack.proofs.write.write_table.Goals.{After-from, Start}

-- the tables of the three parts stand before d, and their bodies after it
record Room (s : Start) : Type 0 where
  tables : 32 + element_size s.args.leaf * (s.args.plan.stop - s.args.plan.first) + element_size s.args.leaf * from_bool (is_some s.args.plan.tag)
      + element_size s.args.leaf * (s.args.plan.last - s.args.plan.resume) ≤ s.args.d
  two : element_size s.args.leaf * (s.args.plan.stop - s.args.plan.first + from_bool (is_some s.args.plan.tag))
      ≡ element_size s.args.leaf * (s.args.plan.stop - s.args.plan.first) + element_size s.args.leaf * from_bool (is_some s.args.plan.tag)
  count : s.args.plan.stop - s.args.plan.first + from_bool (is_some s.args.plan.tag) ≤ s.args.d
  runs : s.args.d + length (bodies (range s.args.leaf s.args.block.now s.args.plan.first s.args.plan.stop))
      + length (bodies (fresh s.args.plan s.args.key.now s.args.value.now))
      + length (bodies (range s.args.leaf s.args.block.now s.args.plan.resume s.args.plan.last)) ≤ length s.args.out.now

room : (s : Start) → Room s
room s =
    let a = s.args in
    let t = table_parts a.leaf a.plan in
    let m = mul-add (element_size a.leaf) (a.plan.stop - a.plan.first) (from_bool (is_some a.plan.tag)) in
    let n = count_below_lem a.leaf (a.plan.stop - a.plan.first + from_bool (is_some a.plan.tag)) in
    let b = planned_bodies a.leaf a.block.now a.plan a.key.now a.value.now in
    record { tables = omega arith; two = m; count = omega arith; runs = omega arith }

-- one if there is a new entry
one : (t : After-from) → t.from.result ≡ from_bool (is_some t.args.plan.tag)
one t = t.from.ensures ∙ ap from_bool t.is_some.ensures

pub copy_table-e-requires : goal.copy_table-e-requires
copy_table-e-requires c =
    let r = room (goal.at.copy_table-e-requires c).Start in
    record { sound_block = c.requires.sound_block; from_le_to = (c.requires.within.front, c.requires.within.middle, omega arith, omega arith) }

pub put_new-f-requires : goal.put_new-f-requires
put_new-f-requires c =
    let r = room (goal.at.put_new-f-requires c).Start in
    let w = c.element_at-w.ensures in
    (omega arith, omega arith)

pub copy_table-requires : goal.copy_table-requires
copy_table-requires c =
    let r = room (goal.at.copy_table-requires c).Start in
    let x = rw (one (goal.at.copy_table-requires c).After-from) at c.element_at-x.ensures in
    record { sound_block = c.requires.sound_block; from_le_to = (c.requires.within.back, c.requires.within.end, omega arith, omega arith) }

pub returns : goal.returns
returns c =
    let a = c.args in
    let r = room (goal.at.returns c).Start in
    let w = c.element_at-w in
    let x = c.element_at-x in
    let b = planned_bodies a.leaf a.block.now a.plan a.key.now a.value.now in
    let hx = rw (one (goal.at.returns c).After-from) at x.ensures in (
      omega arith,
      planned_table a.leaf a.block.now a.plan a.key.now a.value.now a.out.now w.result x.result a.d c.copy_table-e.result c.put_new-f.result
          w.ensures hx (omega arith) (omega arith) c.copy_table-e.ensures.0 c.put_new-f.ensures.0
          c.copy_table-e.ensures.1 c.put_new-f.ensures.1 c.copy_table.ensures.1,
    )
