-- `lookup::descent::child_for` meets its contract: the place that the search finds is the child's. Assumes nothing.
use mathlib.Core.Path.{◌≡◌, sym, ap, ◌∙◌}
use native.Mathlib.Omega.{arith}
use Rattle.page.specs.declared.search.Place.{Place}
use Rattle.page.specs.Layout.{page_of}
use Rattle.page.specs.Search.{place_of}
use Rattle.lookup.proofs.FindLaws.{child_found}
use Rattle.lookup.proofs.descent.child_for.Goals as goal

pub child-requires : goal.child-requires
child-requires c =
    let e : c.find-at.result.at ≡ (place_of _ c.args.b.now c.args.key.now).at = ap (λ (x : Place). x.at) c.find-at.ensures in
    let f = c.requires.fits in
    omega (arith, (child_found c.args.b.now c.args.key.now c.requires).0)

pub returns : goal.returns
returns c =
    let e = ap (λ (x : Place). x.at) c.find-at.ensures in
    c.child.ensures ∙ ap (page_of c.args.b.now) e ∙ sym (child_found c.args.b.now c.args.key.now c.requires).1
