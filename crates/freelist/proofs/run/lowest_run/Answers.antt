use mathlib.Core.Path.{◌≡◌, sym, ◌∙◌}
use mathlib.Core.Bool.{cond}
use Prim.Native.Nat.{◌+◌}
use native.Mathlib.Omega.{arith}
use Rattle.freelist.specs.Table.{state_of, is_free}
use Rattle.freelist.proofs.RunLaws.{free_bit_lem, scan_start, scan_found, scan_next, scan-end}
use Rattle.freelist.proofs.run.lowest_run.Goals as goal
use Rattle.freelist.proofs.run.lowest_run.Goals.{After-bit_of, Joined-not-bit_of, then-not-bit_of, else-not-bit_of}

pub loop-i-init : goal.loop-i-init
loop-i-init c = let a = c.args in scan_start a.t.now a.n a.pages (omega arith)

-- page i is free where its bit is on
free : (c : After-bit_of) → is_free (state_of c.args.t.now c.loop-i.i) ≡ c.bit_of.result
free c =
    let l = c.loop-i in
    free_bit_lem c.args.t.now l.i (c.requires.4 l.i l.auto.i c.loop-i-test.true) ∙ sym c.bit_of.ensures

-- and where it is not free, the free pages start after it
after : (c : Joined-not-bit_of) → c.if-not-bit_of.start ≡ cond c.bit_of.result c.loop-i.start (c.loop-i.i + 1)
after c = elim c.if-not-bit_of.branch [ then-not-bit_of w ↦ (rw (w.start-is, w.if-not-bit_of.true)) | else-not-bit_of w ↦ (rw (w.start-is, w.if-not-bit_of.false)) ]

pub returns-then-i-start : goal.returns-then-i-start
returns-then-i-start c =
    let a = c.args in
    let l = c.loop-i in
    let p = goal.at.returns-then-i-start c in
    scan_found a.t.now a.n a.pages l.i l.start _ _ l.invariant c.loop-i-test.true (free p.After-bit_of) (after p.Joined-not-bit_of) c.if-i-start.true

pub loop-i-preserved : goal.loop-i-preserved
loop-i-preserved c =
    let a = c.args in
    let l = c.loop-i in
    let p = goal.at.loop-i-preserved c in
    scan_next a.t.now a.n a.pages l.i l.start _ _ l.invariant c.loop-i-test.true (free p.After-bit_of) (after p.Joined-not-bit_of) c.if-i-start.false

pub returns : goal.returns
returns c =
    let a = c.args in
    let l = c.loop-i in
    scan-end a.t.now a.n a.pages l.i l.start l.invariant c.loop-i-test.false (l.auto.i-end c.requires.0)
