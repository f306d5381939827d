-- `judge::range::judge_block` meets its contract: the range only where the check found nothing. Assumes nothing.
use Prim.Native.Nat.{ℕ}
use mathlib.Core.Path.{sym, ap, ◌∙◌}
use Rattle.std.proofs.Common.{rules}
use Rattle.field.specs.declared.refusal.Refusal.TheVariants.{KeyRange}
use Rattle.page.specs.PageRules.{first_bad}
use Rattle.page.proofs.RuleLaws.{check_sound, sound_weaker}
use Rattle.judge.specs.Walk.{upper_of, key_out, common_out}
use Rattle.judge.proofs.range.judge_block.Goals as goal

pub check_range-requires : goal.check_range-requires
check_range-requires c =
    let b = c.args.b.now in (
      c.count.ensures,
      sound_weaker c.args.leaf c.args.empty b (check_sound c.args.leaf c.args.empty b (sym c.check.ensures ∙ c.in_ok-check.was)),
    )

pub returns-in_err-check : goal.returns-in_err-check
returns-in_err-check c = rw (sym c.check.ensures ∙ c.in_err-check.was) (search rules)

pub returns : goal.returns
returns c =
    let a = c.args in
    let high = upper_of a.high in
    rw (sym c.check.ensures ∙ c.in_ok-check.was)
    (c.check_range.ensures
    ∙ ap (λ (n : ℕ). first_bad (key_out a.leaf a.b.now a.low.now high) (common_out a.leaf a.b.now a.low.now high) KeyRange n 0) c.count.ensures)
