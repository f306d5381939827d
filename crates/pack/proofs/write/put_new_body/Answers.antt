-- `pack::write::put_new_body` meets its contract, by cases. Assumes nothing.
use mathlib.Core.Path.{◌≡◌, sym, ap, ◌∙◌}
use native.Mathlib.Omega.{arith}
use lib.ListN.{length}
use Rattle.field.specs.Run.{put_at}
use Rattle.field.proofs.RunLaws.{put_nil}
use Rattle.pack.specs.Pack.{bodies}
use Rattle.pack.specs.Plan.{fresh}
use Rattle.pack.proofs.PlanLaws.{some_bodies, some_length, none_bodies}
use Rattle.pack.proofs.write.put_new_body.Goals as goal

pub put_body-requires : goal.put_body-requires
put_body-requires c =
    let a = c.args in
    let l = some_length a.plan a.key.now a.value.now c.in-Some.field-0 c.in-Some.is in
    omega arith

pub returns-in-Some : goal.returns-in-Some
returns-in-Some c =
    let a = c.args in
    let l = some_bodies a.plan a.key.now a.value.now c.in-Some.field-0 c.in-Some.is in
    let n = some_length a.plan a.key.now a.value.now c.in-Some.field-0 c.in-Some.is in
    let o = c.put_body.ensures.1 in
    (omega arith, cc)

pub returns-in-None : goal.returns-in-None
returns-in-None c =
    let a = c.args in
    let t = none_bodies a.plan a.key.now a.value.now c.in-None.is in
    let l : length (bodies (fresh a.plan a.key.now a.value.now)) ≡ 0 = ap length t in
    (omega arith, sym (ap (put_at a.out.now a.at) t ∙ put_nil a.out.now a.at))
