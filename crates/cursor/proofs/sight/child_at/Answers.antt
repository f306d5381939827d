-- `cursor::sight::child_at` meets its contract. Assumes nothing.
use Rattle.cursor.proofs.SightLaws.{page_ends}
use Rattle.cursor.proofs.sight.child_at.Goals as goal

pub block-requires : goal.block-requires
block-requires c =
    (c.requires.0.sizes, c.requires.0.below_n, page_ends c.args.image.now c.args.p c.args.n c.args.q c.requires.0)
