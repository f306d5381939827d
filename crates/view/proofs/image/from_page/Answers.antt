-- `view::image::from_page` meets its contract: page q of N lies within the image. Assumes nothing.
use native.Mathlib.Omega.{arith}
use lib.ListN.{length, drop, length-drop}
use lib.Seq.{take_all}
use Prim.Native.Nat.{◌-◌, ◌*◌}
use Rattle.view.proofs.ImageLaws.{page_room, rest_room}
use Rattle.view.proofs.image.from_page.Goals as goal

pub overflow_mul-at : goal.overflow_mul-at
overflow_mul-at c = omega (arith, page_room _ _ _ c.args.q c.requires.0 c.requires.1)

pub slice_bounds-result-count : goal.slice_bounds-result-count
slice_bounds-result-count c = omega (arith, page_room _ _ _ c.args.q c.requires.0 c.requires.1)

pub slice_bounds-result-start : goal.slice_bounds-result-start
slice_bounds-result-start c = omega (arith, page_room _ _ _ c.args.q c.requires.0 c.requires.1)

pub returns : goal.returns
returns c =
    let a = c.args in
    let s = drop (a.q * a.p) a.image.now in
    let e = take_all (length a.image.now - a.q * a.p) s (omega (arith, length-drop (a.q * a.p) a.image.now)) in
    (e, rw e (rest_room _ _ _ a.q c.requires.0 c.requires.1))
