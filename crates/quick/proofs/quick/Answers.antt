use mathlib.Core.Path.{◌≡◌, sym, ap, ◌∙◌}
use mathlib.Core.Bool.{true}
use Prim.Native.Nat.{◌+◌, ◌-◌}
use native.Mathlib.Omega.{arith}
use lib.Dec.{eqb}
use Rattle.std.specs.Prelude.{Ok, Err}
use Rattle.walk.specs.Tree.{inside}
use Rattle.view.proofs.GeometryLaws.{inside_parts, geometry_sizes}
use Rattle.lookup.specs.Descent.{Stepped, onward, descend}
use Rattle.lookup.proofs.LookupLaws.{deep, outside, turn}
use Rattle.quick.specs.Quick.{page_says, quick_of}
use Rattle.quick.proofs.PageLaws.{quick_geometry, quick_descends}
use Rattle.quick.proofs.quick.Goals as goal
use Rattle.quick.proofs.quick.Goals.{After-page_says, At-loop-depth, Else-not-inside}

pub returns-then-geometry_bad : goal.returns-then-geometry_bad
returns-then-geometry_bad c =
    let a = c.args in
    ap Err c.fault.ensures
    ∙ sym (quick_geometry a.image.now a.p a.n a.root a.key.now (sym c.geometry_bad.ensures ∙ c.if-geometry_bad.true))

-- the answer, from the loop's start on
whole : (c : At-loop-depth)
    → let a = c.args in
    let l = c.loop-depth in
    quick_of a.image.now a.p a.n a.root a.key.now ≡ descend a.n (page_says a.image.now a.p a.n a.key.now) (16 - l.depth) (eqb l.depth 0) l.q
whole c =
    let a = c.args in
    quick_descends a.image.now a.p a.n a.root a.key.now (sym c.geometry_bad.ensures ∙ c.if-geometry_bad.false) ∙ c.loop-depth.invariant

pub returns-then-not-inside : goal.returns-then-not-inside
returns-then-not-inside c =
    let a = c.args in
    let l = c.loop-depth in
    ap Err c.fault-then-not-inside.ensures
    ∙ sym (whole (goal.at.returns-then-not-inside c).At-loop-depth ∙ outside a.n (page_says a.image.now a.p a.n a.key.now) l.q (eqb l.depth 0) (16 - l.depth) (omega arith) (sym c.inside.ensures ∙ c.if-not-inside.true))

within : (c : Else-not-inside) → inside c.args.n c.loop-depth.q ≡ true
within c = sym c.inside.ensures ∙ c.if-not-inside.false

pub page_says-requires : goal.page_says-requires
page_says-requires c =
    let a = c.args in
    (geometry_sizes a.image.now a.p a.n (sym c.geometry_bad.ensures ∙ c.if-geometry_bad.false), (inside_parts a.n c.loop-depth.q (within c)).1)

-- by what the page said
said : (c : After-page_says) (s : Stepped) → c.page_says.result ≡ s
    → let a = c.args in
    let l = c.loop-depth in
    let d = descend a.n (page_says a.image.now a.p a.n a.key.now) in
    d (16 - l.depth) (eqb l.depth 0) l.q ≡ onward (d (16 - (l.depth + 1)) (eqb (l.depth + 1) 0)) l.q s
said c s e =
    let a = c.args in
    turn a.n (page_says a.image.now a.p a.n a.key.now) c.loop-depth.q (eqb c.loop-depth.depth 0) c.loop-depth.depth (omega arith) (within (goal.at.After-page_says c).Else-not-inside) s (sym c.page_says.ensures ∙ e)

pub loop-depth-preserved : goal.loop-depth-preserved
loop-depth-preserved c = c.loop-depth.invariant ∙ said (goal.at.loop-depth-preserved c).After-page_says _ (c.in-Ok-Down.is ∙ ap Ok c.in-Ok-Down.field-0-is)

pub returns-in-Ok-Found : goal.returns-in-Ok-Found
returns-in-Ok-Found c = sym (whole (goal.at.returns-in-Ok-Found c).At-loop-depth ∙ said (goal.at.returns-in-Ok-Found c).After-page_says _ (c.in-Ok-Found.is ∙ ap Ok c.in-Ok-Found.field-0-is))

pub returns-in-Ok-Absent : goal.returns-in-Ok-Absent
returns-in-Ok-Absent c = sym (whole (goal.at.returns-in-Ok-Absent c).At-loop-depth ∙ said (goal.at.returns-in-Ok-Absent c).After-page_says _ (c.in-Ok-Absent.is ∙ ap Ok c.in-Ok-Absent.field-0-is))

pub returns-in-Err : goal.returns-in-Err
returns-in-Err c =
    ap Err c.on_page.ensures ∙ sym (whole (goal.at.returns-in-Err c).At-loop-depth ∙ said (goal.at.returns-in-Err c).After-page_says _ c.in-Err.is)

pub returns : goal.returns
returns c =
    let a = c.args in
    let l = c.loop-depth in
    ap Err c.fault-2.ensures ∙ sym (whole (goal.at.returns c).At-loop-depth ∙ deep a.n (page_says a.image.now a.p a.n a.key.now) l.q (eqb l.depth 0) (16 - l.depth) (omega arith))
