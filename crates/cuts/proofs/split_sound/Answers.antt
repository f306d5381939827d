-- `cuts::split_sound` meets its contract: the size decides first, then the room for as many cuts as were counted. Assumes nothing.
use mathlib.Core.Path.{◌≡◌, refl, ap, ◌∙◌}
use native.Mathlib.Omega.{arith}
use lib.ListN.{length}
use Rattle.std.specs.Prelude.{Ok, Err}
use Rattle.page.specs.Layout.{entries_of}
use Rattle.pack.specs.Pack.{node_size}
use Rattle.cuts.specs.Split.{cuts_of}
use Rattle.cuts.specs.Run.{cuts_after}
use Rattle.cuts.proofs.PartedLaws.{parted_short, parted_made, cuts_code, put_made}
use Rattle.cuts.proofs.split_sound.Goals as goal
use Rattle.cuts.proofs.split_sound.Goals.{After-run_end-end}

-- the run's cuts are the node's
same : (c : After-run_end-end) →
    let a = c.args in
    cuts_after a.leaf c.half-t.result a.b.now c.run_end-end.result 0 ≡ cuts_of a.leaf a.p (entries_of a.leaf a.b.now)
same c =
    let a = c.args in
    cuts_code a.leaf a.p a.b.now c.half-t.result c.run_end-end.result c.half-t.ensures c.run_end-end.ensures

pub returns-then-cuts-made : goal.returns-then-cuts-made
returns-then-cuts-made c =
    let a = c.args in
    let es = entries_of a.leaf a.b.now in
    let n = ap length (same (goal.at.returns-then-cuts-made c).After-run_end-end) in
    let m = c.count_cuts-made.ensures.0 in
    let k = c.node_size-size.ensures in
    (ap Err c.from-then-cuts-made.ensures ∙ parted_short (node_size a.leaf es) (cuts_of a.leaf a.p es) (length a.cuts.now) (omega arith) (omega arith), refl)

pub returns : goal.returns
returns c =
    let a = c.args in
    let es = entries_of a.leaf a.b.now in
    let n = ap length (same (goal.at.returns c).After-run_end-end) in
    let m = c.count_cuts-made.ensures.0 in
    let k = c.node_size-size.ensures in (
      ap Ok (m ∙ n) ∙ parted_made (node_size a.leaf es) (cuts_of a.leaf a.p es) (length a.cuts.now) (omega arith) (omega arith),
      put_made _ (cuts_of a.leaf a.p es) a.cuts.now (same (goal.at.returns c).After-run_end-end) (m ∙ n) c.write_cuts.ensures,
    )
