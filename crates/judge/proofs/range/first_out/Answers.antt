use mathlib.Core.Path.{◌≡◌, sym, ap, ◌∙◌}
use mathlib.Core.Bool.{true}
use native.Mathlib.Nat.{sub-zero}
use native.Mathlib.Omega.{arith}
use Rattle.std.specs.Prelude.{Err}
use Rattle.field.specs.declared.refusal.Refusal.TheVariants.{KeyRange}
use Rattle.page.specs.Layout.{key_of}
use Rattle.page.specs.PageRules.{breach}
use Rattle.page.proofs.RuleLaws.{bad_skip, bad_here, bad_none}
use Rattle.judge.specs.Walk.{upper_of, ranged_of, key_out, common_out}
use Rattle.judge.proofs.RangeLaws.{key_room, is_in, is_out}
use Rattle.judge.proofs.range.first_out.Goals as goal
use Rattle.judge.proofs.range.first_out.Goals.{After-against_range}

pub loop-i-init : goal.loop-i-init
loop-i-init c = rw sub-zero

pub key-requires : goal.key-requires
key-requires c = let e = c.requires.0 in key_room c.args.leaf true c.args.b.now _ c.requires.1 (omega arith)

-- what `against_range` found of the key of element i
ranged : (c : After-against_range)
    → let a = c.args in
    c.against_range.result ≡ ranged_of a.low.now (upper_of a.high) (key_of a.leaf a.b.now c.loop-i.i)
ranged c =
    let a = c.args in
    c.against_range.ensures ∙ ap (ranged_of a.low.now (upper_of a.high)) c.key.ensures

pub returns-in-Some : goal.returns-in-Some
returns-in-Some c =
    let a = c.args in
    let high = upper_of a.high in
    let o = is_out a.low.now high (key_of a.leaf a.b.now c.loop-i.i) c.in-Some.common (sym (ranged (goal.at.returns-in-Some c).After-against_range) ∙ c.in-Some.is) in
    ap (λ m. Err (breach KeyRange c.loop-i.i m)) o.1
    ∙ sym
    (c.loop-i.invariant
    ∙ bad_here (key_out a.leaf a.b.now a.low.now high) (common_out a.leaf a.b.now a.low.now high) KeyRange a.n c.loop-i.i (omega arith) o.0)

pub loop-i-preserved : goal.loop-i-preserved
loop-i-preserved c =
    let a = c.args in
    let high = upper_of a.high in
    c.loop-i.invariant
    ∙ bad_skip (key_out a.leaf a.b.now a.low.now high) (common_out a.leaf a.b.now a.low.now high) KeyRange a.n c.loop-i.i (omega arith)
    (is_in a.low.now high (key_of a.leaf a.b.now c.loop-i.i) (sym (ranged (goal.at.loop-i-preserved c).After-against_range) ∙ c.in_default.is))

pub returns : goal.returns
returns c =
    let a = c.args in
    let high = upper_of a.high in
    sym
    (c.loop-i.invariant
    ∙ bad_none (key_out a.leaf a.b.now a.low.now high) (common_out a.leaf a.b.now a.low.now high) KeyRange a.n c.loop-i.i (omega arith))
