use mathlib.Core.Path.{sym, ap, ◌∙◌}
use Prim.Native.Nat.{ℕ, ◌+◌, ◌-◌}
use native.Mathlib.Nat.{add-sub_cancel_left}
use Rattle.freelist.specs.Pages.{pages_from, each}
use Rattle.freelist.proofs.EachLaws.{each_next, each_none}
use Rattle.freelist.proofs.row.put_all.Goals as goal

pub loop-i-init : goal.loop-i-init
loop-i-init c =
    let a = c.args in
    ap (λ (x : ℕ). each (λ old. a.s) (pages_from a.p x) a.t.now) (add-sub_cancel_left a.p a.count)

pub loop-i-preserved : goal.loop-i-preserved
loop-i-preserved c =
    let a = c.args in
    let l = c.loop-i in
    let e = a.p + a.count in
    ap (each (λ old. a.s) (pages_from (l.i + 1) (e - (l.i + 1)))) c.put_state.ensures
    ∙ sym (each_next (λ old. a.s) l.i e l.t c.loop-i-test.true) ∙ l.invariant

pub returns : goal.returns
returns c =
    let a = c.args in
    let l = c.loop-i in
    sym (each_none (λ old. a.s) l.i (a.p + a.count) l.t c.loop-i-test.false) ∙ l.invariant
