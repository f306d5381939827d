-- `page::rules::check_each` meets its contract: rule 7 only where rule 6 found nothing. Assumes nothing.
use mathlib.Core.Path.{◌≡◌, sym, ap, ◌∙◌}
use Prim.Native.Nat.{ℕ, ◌-◌}
use native.Mathlib.Omega.{arith}
use Rattle.page.specs.Layout.{count_of}
use Rattle.page.specs.PageRules.{and_then, no_common, first_bad, element_bad, key_bad, common_before, Verdict}
use Rattle.page.proofs.RuleLaws.{within_all}
use Rattle.page.proofs.rules.check_each.Goals as goal
use Rattle.page.proofs.rules.check_each.Goals.{After-check_elements}
use Rattle.field.specs.declared.refusal.Refusal.TheVariants.{Element, KeyOrder}

-- rule 6 was tried over all elements
tried : (c : After-check_elements)
    → let a = c.args in c.check_elements.result ≡ first_bad (element_bad a.leaf a.b.now) no_common Element (count_of a.b.now) 0
tried c =
    c.check_elements.ensures ∙ ap (λ (n : ℕ). first_bad (element_bad c.args.leaf c.args.b.now) no_common Element n 0) c.requires.0

pub check_keys-requires : goal.check_keys-requires
check_keys-requires c =
    let e = c.requires.0 in
    (e, c.requires.1, λ i l. within_all c.args.leaf c.args.b.now (sym (tried (goal.at.check_keys-requires c).After-check_elements) ∙ c.in_ok-check_elements.was) i (omega arith))

pub returns : goal.returns
returns c =
    let rest : ℕ → Verdict = λ n. first_bad (key_bad c.args.leaf c.args.b.now) (common_before c.args.leaf c.args.b.now) KeyOrder (n - 1) 1 in
    c.check_keys.ensures ∙ ap rest c.requires.0
    ∙ ap (λ (v : Verdict). and_then v (rest (count_of c.args.b.now))) (sym c.in_ok-check_elements.was ∙ tried (goal.at.returns c).After-check_elements)
