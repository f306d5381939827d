-- `page::search::leaf_at` meets its contract. Assumes nothing.
use mathlib.Core.Bool.{true}
use native.Mathlib.Omega.{arith}
use Prim.Native.Nat.{◌≤◌}
use lib.ListN.{length}
use Rattle.page.specs.Layout.{value_end}
use Rattle.page.proofs.LayoutLaws.{element_room}
use Rattle.page.proofs.search.leaf_at.Goals as goal
use Rattle.page.proofs.search.leaf_at.Goals.{Start}

ends : (s : Start) → value_end true s.args.b.now s.args.i ≤ length s.args.b.now
ends s = s.requires.1.within s.args.i s.requires.0

pub key_at-start-requires : goal.key_at-start-requires
key_at-start-requires c =
    let e = ends (goal.at.key_at-start-requires c).Start in
    (element_room true c.args.b.now c.args.i c.requires.0 c.requires.1.fits, omega arith)

pub overflow_add-middle : goal.overflow_add-middle
overflow_add-middle c = let e = ends (goal.at.overflow_add-middle c).Start in omega arith

pub overflow_add-result : goal.overflow_add-result
overflow_add-result c = let e = ends (goal.at.overflow_add-result c).Start in omega arith

pub returns : goal.returns
returns c = rw (c.kind.ensures, c.key_at-start.ensures, c.key_size.ensures, c.value_size.ensures)
