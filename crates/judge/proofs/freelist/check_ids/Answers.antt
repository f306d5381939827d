-- `judge::freelist::check_ids` meets its contract: the table, then the ids, each rule over all before the next. Assumes nothing.
use Prim.Native.Nat.{ℕ, ◌+◌, ◌-◌, ◌*◌, ◌≤◌}
use mathlib.Core.Path.{◌≡◌, sym, ap, ◌∙◌}
use native.Mathlib.Omega.{arith}
use lib.ListN.{length}
use Rattle.std.proofs.Common.{rules}
use Rattle.std.specs.Prelude.{Err}
use Rattle.field.specs.declared.refusal.Refusal.TheVariants.{Element, KeyOrder, UsedTwice}
use Rattle.page.specs.Layout.{count_of}
use Rattle.page.specs.PageRules.{no_common, first_bad}
use Rattle.judge.specs.Judge.{id_outside, id_not_above, id_marked}
use Rattle.judge.proofs.PageLaws.{ids_short, ids_long, ids_inside}
use Rattle.judge.proofs.freelist.check_ids.Goals as goal
use Rattle.judge.proofs.freelist.check_ids.Goals.{After-first_not_above, After-first_outside, Else-b-c}

pub returns-then-b-c : goal.returns-then-b-c
returns-then-b-c c vs m =
    let e = c.count-c.ensures in
    let t = c.if-b-c.true in
    ap Err c.from.ensures ∙ sym (ids_short c.args.n c.args.b.now vs (omega arith))

-- the table fits
fits : (c : Else-b-c) → 32 + 8 * count_of c.args.b.now ≤ length c.args.b.now
fits c = let e = c.count-c.ensures in let t = c.if-b-c.false in let p = c.requires.0 in omega arith

outside-told : (c : After-first_outside)
    → let a = c.args in c.first_outside.result ≡ first_bad (id_outside a.n a.b.now) no_common Element (count_of a.b.now) 0
outside-told c =
    let a = c.args in
    c.first_outside.ensures ∙ ap (λ (k : ℕ). first_bad (id_outside a.n a.b.now) no_common Element k 0) c.count-c.ensures

above-told : (c : After-first_not_above)
    → let a = c.args in c.first_not_above.result ≡ first_bad (id_not_above a.b.now) no_common KeyOrder (count_of a.b.now - 1) 1
above-told c =
    let a = c.args in
    c.first_not_above.ensures ∙ ap (λ (k : ℕ). first_bad (id_not_above a.b.now) no_common KeyOrder (k - 1) 1) c.count-c.ensures

pub first_marked-requires : goal.first_marked-requires
first_marked-requires c =
    let e = c.count-c.ensures in
    let f = fits (goal.at.first_marked-requires c).Else-b-c in
    let n = c.requires.1 in
    (omega arith, λ i l. omega (arith, ids_inside c.args.n c.args.b.now (sym (outside-told (goal.at.first_marked-requires c).After-first_outside) ∙ c.in_ok-first_outside.was) i (omega arith)))

pub returns-in_err-first_outside : goal.returns-in_err-first_outside
returns-in_err-first_outside c vs m =
    rw (
      ids_long c.args.n c.args.b.now vs (fits (goal.at.returns-in_err-first_outside c).Else-b-c),
      sym (outside-told (goal.at.returns-in_err-first_outside c).After-first_outside) ∙ c.in_err-first_outside.was,
    )
    (search rules)

pub returns-in_err-first_not_above : goal.returns-in_err-first_not_above
returns-in_err-first_not_above c vs m =
    rw (
      ids_long c.args.n c.args.b.now vs (fits (goal.at.returns-in_err-first_not_above c).Else-b-c),
      sym (outside-told (goal.at.returns-in_err-first_not_above c).After-first_outside) ∙ c.in_ok-first_outside.was,
      sym (above-told (goal.at.returns-in_err-first_not_above c).After-first_not_above) ∙ c.in_err-first_not_above.was,
    )
    (search rules)

pub returns : goal.returns
returns c vs m =
    rw (
      ids_long c.args.n c.args.b.now vs (fits (goal.at.returns c).Else-b-c),
      sym (outside-told (goal.at.returns c).After-first_outside) ∙ c.in_ok-first_outside.was,
      sym (above-told (goal.at.returns c).After-first_not_above) ∙ c.in_ok-first_not_above.was,
    )
    (c.first_marked.ensures vs m ∙ ap (λ (k : ℕ). first_bad (id_marked vs c.args.b.now) no_common UsedTwice k 0) c.count-c.ensures)
