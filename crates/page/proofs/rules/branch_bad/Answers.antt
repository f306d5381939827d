-- `page::rules::branch_bad` meets its contract. Assumes nothing.
use mathlib.Core.Path.{sym, ◌∙◌, refl}
use mathlib.Core.Bool.{false, or-false}
use Rattle.page.proofs.RuleLaws.{element_test}
use Rattle.page.proofs.rules.branch_bad.Goals as goal

pub returns : goal.returns
returns c =
    sym
    (element_test false c.args.b.now c.args.i c.args.end _ _ 0 c.outside.result false c.requires.0
    c.u64_at-pos.ensures c.u64_at-key.ensures refl c.outside.ensures refl
    ∙ or-false c.outside.result)
