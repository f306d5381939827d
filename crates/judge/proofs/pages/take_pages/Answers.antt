-- `judge::pages::take_pages` meets its contract: none is marked, or all are. Assumes nothing.
use mathlib.Core.Path.{refl, ap}
use borrow.Author.Tests.{lt-ltb, le-ltb}
use Rattle.std.specs.Prelude.{Err}
use Rattle.judge.proofs.pages.take_pages.Goals as goal

pub returns-then-twice-end : goal.returns-then-twice-end
returns-then-twice-end c = rw (← c.lowest_marked-twice.ensures, lt-ltb _ _ c.if-twice-end.true) (ap Err c.page_fault.ensures, refl)

pub returns : goal.returns
returns c = rw (← c.lowest_marked-twice.ensures, le-ltb _ _ c.if-twice-end.false) (refl, c.mark_pages.ensures)
