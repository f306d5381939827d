-- `view::image::inside` meets its contract. Assumes nothing.
use borrow.Author.Tests.{le-leb, lt-leb}
use Rattle.view.proofs.image.inside.Goals as goal

pub returns-then-q-lt2 : goal.returns-then-q-lt2
returns-then-q-lt2 c = simp (lt-leb 2 c.args.q c.if-q-lt2.true)

pub returns : goal.returns
returns c = simp (le-leb 2 c.args.q c.if-q-lt2.false)
