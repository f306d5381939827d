-- `cursor::sight::count_at` meets its contract. Assumes nothing.
use Rattle.cursor.proofs.SightLaws.{page_ends}
use Rattle.cursor.proofs.sight.count_at.Goals as goal

pub block-requires : goal.block-requires
block-requires c =
    (c.requires.sizes, c.requires.below_n, page_ends c.args.image.now c.args.p c.args.n c.args.q c.requires)
