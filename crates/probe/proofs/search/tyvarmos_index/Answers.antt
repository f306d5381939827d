-- `probe::search::tyvarmos_index` meets its contract: it gives the answer's number and fields. Assumes nothing.
use mathlib.Core.Path.{sym, ◌∙◌}
use Rattle.probe.proofs.search.tyvarmos_index.Goals as goal

pub returns-in-Ok : goal.returns-in-Ok
returns-in-Ok c =
    let e = sym c.index.ensures ∙ c.in-Ok.is in
    rw (e, sym c.from.ensures) c.give.ensures

pub returns-in-Err : goal.returns-in-Err
returns-in-Err c =
    let e = sym c.index.ensures ∙ c.in-Err.is in
    rw (e, sym c.from-in-Err.ensures) c.give-in-Err.ensures
