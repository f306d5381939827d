-- `freelist::table::put_state` meets its contract: two bits are put, and then the number of a pending page.
-- Assumes nothing.
use mathlib.Core.Path.{◌≡◌, sym, ap, ◌∙◌}
use Rattle.freelist.specs.Table.{with_number, put}
use Rattle.freelist.proofs.States.{put_from, number_kept}
use Rattle.freelist.proofs.table.put_state.Goals as goal
use Rattle.freelist.proofs.table.put_state.Goals.{After-put_bit-2}

numbered : (c : After-put_bit-2) → with_number c.put_bit-2.new.t c.args.p c.args.s ≡ put c.args.t.now c.args.p c.args.s
numbered c = put_from _ _ _ _ _ _ _ c.free_bit.ensures c.put_bit.ensures c.pending_bit.ensures c.put_bit-2.ensures

pub returns-in-Pending : goal.returns-in-Pending
returns-in-Pending c =
    ap (with_number c.put_bit-2.new.t c.args.p) (sym c.in-Pending.is) ∙ numbered (goal.at.returns-in-Pending c).After-put_bit-2

pub returns-in_default : goal.returns-in_default
returns-in_default c =
    number_kept _ c.args.p c.args.s c.in_default.not-Pending ∙ numbered (goal.at.returns-in_default c).After-put_bit-2
