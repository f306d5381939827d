-- `page::rules::leaf_bad` meets its contract. Assumes nothing.
use mathlib.Core.Path.{refl, sym, ◌∙◌, ap}
use mathlib.Core.Bool.{true, false}
use Rattle.page.specs.Layout.{kind_of}
use Rattle.page.specs.PageRules.{kind_bad_at, kind_bad}
use Rattle.page.proofs.RuleLaws.{element_test}
use Rattle.page.proofs.rules.leaf_bad.Goals as goal

pub returns-then-outside : goal.returns-then-outside
returns-then-outside c =
    let b = c.args.b.now in
    sym
    (element_test true b c.args.i c.args.end _ _ _ true (kind_bad_at true b c.args.i) c.requires.0
    c.u64_at-pos.ensures c.u64_at-key.ensures c.u64_at-value.ensures
    (sym c.if-outside.true ∙ c.outside.ensures) refl)

pub returns : goal.returns
returns c =
    let b = c.args.b.now in
    sym
    (element_test true b c.args.i c.args.end _ _ _ false c.kind_bad.result c.requires.0
    c.u64_at-pos.ensures
    c.u64_at-key.ensures
    c.u64_at-value.ensures
    (sym c.if-outside.false ∙ c.outside.ensures)
    (c.kind_bad.ensures ∙ ap (kind_bad (kind_of b c.args.i)) c.u64_at-value.ensures))
