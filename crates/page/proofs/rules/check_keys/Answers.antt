use Prim.Native.Nat.{◌-◌}
use mathlib.Core.Bool.{not}
use mathlib.Core.Path.{◌≡◌, refl, sym, ap, ap₂, ◌∙◌}
use native.Mathlib.Omega.{arith}
use Rattle.field.specs.Order.{parting_of}
use Rattle.page.specs.Layout.{key_of}
use Rattle.page.specs.PageRules.{key_bad, common_before, breach}
use Rattle.page.proofs.LayoutLaws.{element_room}
use Rattle.page.proofs.RuleLaws.{bad_skip, bad_here, bad_none, key_test, key_common}
use Rattle.page.proofs.rules.check_keys.Goals as goal
use Rattle.page.proofs.rules.check_keys.Goals.{After-compare-parting}
use Rattle.std.specs.Prelude.{Err}
use Rattle.field.specs.declared.refusal.Refusal.TheVariants.{KeyOrder}

pub key-requires : goal.key-requires
key-requires c =
    let i = c.loop-i.i - 1 in
    let e = c.requires.0 in
    (element_room c.args.leaf c.args.b.now i (omega arith) c.requires.1, c.requires.2 i (omega arith))

pub key-requires-in-loop-i : goal.key-requires-in-loop-i
key-requires-in-loop-i c =
    let i = c.loop-i.i in
    let e = c.requires.0 in
    (element_room c.args.leaf c.args.b.now i (omega arith) c.requires.1, c.requires.2 i (omega arith))

-- what was compared
told : (c : After-compare-parting)
    → let a = c.args in
    let i = c.loop-i.i in
    c.compare-parting.result ≡ parting_of (key_of a.leaf a.b.now (i - 1)) (key_of a.leaf a.b.now i)
told c = c.compare-parting.ensures ∙ ap₂ parting_of c.key.ensures c.key-in-loop-i.ensures

pub returns-then-not-is_lt : goal.returns-then-not-is_lt
returns-then-not-is_lt c =
    let a = c.args in
    let l = c.loop-i in
    let bad = key_test a.leaf a.b.now l.i c.compare-parting.result (told (goal.at.returns-then-not-is_lt c).After-compare-parting) c.is_lt.result c.is_lt.ensures ∙ ap not c.if-not-is_lt.true in
    ap (λ n. Err (breach KeyOrder l.i n)) (key_common a.leaf a.b.now l.i c.compare-parting.result (told (goal.at.returns-then-not-is_lt c).After-compare-parting))
    ∙ sym (l.invariant ∙ bad_here (key_bad a.leaf a.b.now) (common_before a.leaf a.b.now) KeyOrder a.n l.i (omega arith) bad)

pub loop-i-preserved : goal.loop-i-preserved
loop-i-preserved c =
    let a = c.args in
    let l = c.loop-i in
    let good = key_test a.leaf a.b.now l.i c.compare-parting.result (told (goal.at.loop-i-preserved c).After-compare-parting) c.is_lt.result c.is_lt.ensures ∙ ap not c.if-not-is_lt.false in
    (l.invariant ∙ bad_skip (key_bad a.leaf a.b.now) (common_before a.leaf a.b.now) KeyOrder a.n l.i (omega arith) good)

pub returns : goal.returns
returns c =
    let a = c.args in
    let l = c.loop-i in
    sym (l.invariant ∙ bad_none (key_bad a.leaf a.b.now) (common_before a.leaf a.b.now) KeyOrder a.n l.i (omega arith))

pub loop-i-init : goal.loop-i-init
loop-i-init c = refl
