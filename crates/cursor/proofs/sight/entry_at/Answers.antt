-- `cursor::sight::entry_at` meets its contract: the places in the block, counted from the image's start. Assumes nothing.
use mathlib.Core.Path.{sym, ap, ◌∙◌}
use mathlib.Core.Bool.{true}
use mathlib.Core.List.{List}
use Prim.Native.Nat.{ℕ, ◌*◌}
use Rattle.view.specs.View.{value_item}
use Rattle.cursor.specs.Cursor.{entry_of}
use Rattle.cursor.proofs.SightLaws.{page_ends, entry_told}
use Rattle.cursor.proofs.sight.entry_at.Goals as goal
use Rattle.cursor.proofs.sight.entry_at.Goals.{After-leaf_at-e}

pub block-requires : goal.block-requires
block-requires c =
    (c.requires.0.sizes, c.requires.0.below_n, page_ends c.args.image.now c.args.p c.args.n c.args.q c.requires.0)

pub returns : goal.returns
returns c =
    let b = c.block.ensures.0 in
    entry_told true (c.args.q * c.args.p) c.block.result.now c.args.i c.leaf_at-e.result (rw (sym b) at c.requires.1) (rw (sym b) at c.requires.2) c.leaf_at-e.ensures
    ∙ ap (λ (x : List ℕ). entry_of (value_item (c.args.q * c.args.p) x c.args.i)) b
