use mathlib.Core.Path.{sym, ◌∙◌}
use Prim.Native.Nat.{◌+◌, ◌-◌}
use native.Mathlib.Omega.{arith}
use Rattle.split.proofs.WriteLaws.{fits_turn, fits_past, fits_done}
use Rattle.split.proofs.fits.Goals as goal

pub returns-then-rest-size : goal.returns-then-rest-size
returns-then-rest-size c =
    let a = c.args in
    let l = c.loop in
    let h = fits_past a.leaf a.t a.b.now a.end a.p (a.pieces - l.counter) (a.pieces - (l.counter + 1)) l.c c.piece_end-e.result c.span.result l.rest
    (omega arith) c.piece_end-e.ensures.0 c.span.ensures (omega arith) in
    sym h ∙ l.invariant.1

pub loop-preserved : goal.loop-preserved
loop-preserved c =
    let a = c.args in
    let l = c.loop in
    let h = fits_turn a.leaf a.t a.b.now a.end a.p (a.pieces - l.counter) (a.pieces - (l.counter + 1)) l.c c.piece_end-e.result c.span.result l.rest
    (omega arith) c.piece_end-e.ensures.0 c.span.ensures (omega arith) in
    (c.piece_end-e.ensures.2, sym h ∙ l.invariant.1)

pub returns : goal.returns
returns c =
    let a = c.args in
    let l = c.loop in
    sym (fits_done a.leaf a.t a.b.now a.end a.p (a.pieces - l.counter) l.c l.rest (omega arith)) ∙ l.invariant.1
