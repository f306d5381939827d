-- `shard::tyvarmos_judge` meets its contract: it gives the answer's number and fields. Assumes nothing.
use mathlib.Core.Path.{sym, ◌∙◌}
use Rattle.shard.proofs.tyvarmos_judge.Goals as goal

pub returns-in-Ok : goal.returns-in-Ok
returns-in-Ok c =
    let e = sym c.judge.ensures ∙ c.in-Ok.is in
    rw e c.give.ensures

pub returns-in-Err : goal.returns-in-Err
returns-in-Err c =
    let e = sym c.judge.ensures ∙ c.in-Err.is in
    rw (e, sym c.from.ensures) c.give-in-Err.ensures
