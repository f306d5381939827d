-- `freelist::row::release_page` meets its contract: a page that stays is put in its own state, which changes nothing.
-- Assumes nothing.
use mathlib.Core.Path.{sym, ◌∙◌}
use Rattle.freelist.proofs.States.{ripe_kept, ripe_other, ripe_own}
use Rattle.freelist.proofs.row.release_page.Goals as goal

pub returns-else-x-tx : goal.returns-else-x-tx
returns-else-x-tx c =
    let a = c.args in
    ripe_own a.tx a.t.now a.p (ripe_kept a.tx _ _ (sym c.state_of.ensures ∙ c.in-Pending.is) c.if-x-tx.false)

pub returns-in_default : goal.returns-in_default
returns-in_default c =
    let a = c.args in
    ripe_own a.tx a.t.now a.p (ripe_other a.tx _ (λ y e. c.in_default.not-Pending y (c.state_of.ensures ∙ e)))
