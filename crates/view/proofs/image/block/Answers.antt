-- `view::image::block` meets its contract: the block ends within the image. Assumes nothing.
use mathlib.Core.Path.{◌≡◌, ap, ◌∙◌}
use Prim.Native.Nat.{◌+◌, ◌*◌, ◌≤◌}
use native.Mathlib.Omega.{arith}
use lib.ListN.{length, drop}
use Rattle.page.specs.Layout.{overflow_of}
use Rattle.view.proofs.ImageLaws.{page_room, block_room, block_part, block_least}
use Rattle.view.proofs.image.block.Goals as goal
use Rattle.view.proofs.image.block.Goals.{After-overflow-more}

pub overflow_mul-at : goal.overflow_mul-at
overflow_mul-at c = omega (arith, page_room _ _ _ c.args.q c.requires.0 c.requires.1)

pub overflow-more-requires : goal.overflow-more-requires
overflow-more-requires c = let s = c.requires.0 in let h = c.from_page.ensures.1 in omega (arith, s.least_size)

-- the overflow that was read is the page's, so the block has room
more : (c : After-overflow-more) → let a = c.args in c.overflow-more.result ≡ overflow_of (drop (a.q * a.p) a.image.now)
more c = c.overflow-more.ensures ∙ ap overflow_of c.from_page.ensures.0

room : (c : After-overflow-more) → let a = c.args in a.q * a.p + (c.overflow-more.result + 1) * a.p ≤ length a.image.now
room c = rw (more c) (block_room _ _ _ c.args.q c.requires.0 c.requires.2)

pub overflow_add-end : goal.overflow_add-end
overflow_add-end c = let s = c.requires in let e = more c in omega (arith, s.2, s.0.most_count)

pub overflow_mul-end : goal.overflow_mul-end
overflow_mul-end c = omega (arith, room c)

pub overflow_add-end-2 : goal.overflow_add-end-2
overflow_add-end-2 c = omega (arith, room c)

pub slice_bounds-result-end : goal.slice_bounds-result-end
slice_bounds-result-end c = omega (arith, room c)

pub returns : goal.returns
returns c =
    let e = block_part _ _ _ c.args.q c.requires.0 c.requires.2 c.overflow-more.result (more (goal.at.returns c).After-overflow-more) in
    (e, rw e (block_least _ _ _ c.args.q c.requires.0 c.requires.2))
