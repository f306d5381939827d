-- `pack::write::put_new` meets its contract, by cases. Assumes nothing.
use mathlib.Core.Path.{◌≡◌, sym, ap, ◌∙◌}
use Prim.Native.Nat.{◌*◌}
use native.Mathlib.Nat.{mul-one}
use native.Mathlib.Omega.{arith}
use lib.ListN.{length}
use Rattle.field.specs.Run.{put_at}
use Rattle.std.specs.Prelude.{is_some}
use Rattle.std.specs.Int.{from_bool}
use Rattle.field.proofs.RunLaws.{put_nil}
use Rattle.page.specs.Layout.{element_size}
use Rattle.pack.specs.Pack.{bodies}
use Rattle.pack.specs.Plan.{fresh}
use Rattle.pack.proofs.PlanLaws.{some_table, some_bodies, some_length, none_table, none_bodies}
use Rattle.pack.proofs.write.put_new.Goals as goal

pub put_element-requires : goal.put_element-requires
put_element-requires c =
    let a = c.args in
    let s : element_size a.leaf * from_bool (is_some a.plan.tag) ≡ element_size a.leaf = rw c.in-Some.is (mul-one (element_size a.leaf)) in
    let l = some_length a.plan a.key.now a.value.now c.in-Some.tag c.in-Some.is in
    omega arith

pub returns-in-Some : goal.returns-in-Some
returns-in-Some c =
    let a = c.args in
    let l = some_bodies a.plan a.key.now a.value.now c.in-Some.tag c.in-Some.is in
    let t = some_table a.plan a.key.now a.value.now c.in-Some.tag c.in-Some.is a.leaf a.at a.d in
    let n = some_length a.plan a.key.now a.value.now c.in-Some.tag c.in-Some.is in
    let o = c.put_element.ensures.1 in
    (omega arith, cc)

pub returns-in-None : goal.returns-in-None
returns-in-None c =
    let a = c.args in
    let l : length (bodies (fresh a.plan a.key.now a.value.now)) ≡ 0 = ap length (none_bodies a.plan a.key.now a.value.now c.in-None.is) in
    let t = none_table a.plan a.key.now a.value.now a.leaf a.at a.d c.in-None.is in
    (omega arith, sym (ap (put_at a.out.now a.at) t ∙ put_nil a.out.now a.at))
