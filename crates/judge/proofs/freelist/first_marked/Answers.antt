use Prim.Native.Nat.{ℕ, ◌<◌}
use mathlib.Core.Path.{◌≡◌, refl, sym, ap, ◌∙◌}
use mathlib.Core.List.{List}
use native.Mathlib.Nat.{sub-zero}
use native.Mathlib.Omega.{arith}
use Rattle.field.specs.Marks.{is_marked}
use Rattle.field.proofs.MarkLaws.{word_told}
use Rattle.std.specs.Prelude.{Err}
use Rattle.field.specs.declared.refusal.Refusal.TheVariants.{UsedTwice}
use Rattle.page.specs.PageRules.{no_common}
use Rattle.page.proofs.RuleLaws.{bad_skip, bad_here, bad_none}
use Rattle.judge.specs.Judge.{id_at, id_marked}
use Rattle.judge.specs.Walk.{Marks}
use Rattle.judge.proofs.freelist.first_marked.Goals as goal
use Rattle.judge.proofs.freelist.first_marked.Goals.{After-id_at-page, After-is_marked}

pub loop-i-init : goal.loop-i-init
loop-i-init c = λ vs m. rw sub-zero

-- an id is a page's number
small : (c : After-id_at-page) → c.id_at-page.result < 32768
small c =
    let e = c.id_at-page.ensures in
    omega (arith, c.requires.1 c.loop-i.i (omega arith))

pub bounds-marks-page : goal.bounds-marks-page
bounds-marks-page c = let l = small (goal.at.bounds-marks-page c).After-id_at-page in omega arith

tested : (c : After-is_marked)
    → (vs : List ℕ) → Marks c.args.marks.now vs → c.is_marked.result ≡ id_marked vs c.args.b.now c.loop-i.i
tested c vs m =
    let i = c.loop-i.i in
    c.is_marked.ensures ∙ word_told c.args.marks.now c.id_at-page.result _ refl
    ∙ ap (is_marked c.args.marks.now) c.id_at-page.ensures ∙ m.each (id_at c.args.b.now i) (c.requires.1 i (omega arith))

pub returns-then-is_marked : goal.returns-then-is_marked
returns-then-is_marked c vs m =
    let a = c.args in
    ap Err c.id_breach.ensures ∙ sym (c.loop-i.invariant vs m ∙ bad_here (id_marked vs a.b.now) no_common UsedTwice a.c c.loop-i.i (omega arith) (sym (tested (goal.at.returns-then-is_marked c).After-is_marked vs m) ∙ c.if-is_marked.true))

pub loop-i-preserved : goal.loop-i-preserved
loop-i-preserved c =
    let a = c.args in
    (λ vs m. c.loop-i.invariant vs m ∙ bad_skip (id_marked vs a.b.now) no_common UsedTwice a.c c.loop-i.i (omega arith) (sym (tested (goal.at.loop-i-preserved c).After-is_marked vs m) ∙ c.if-is_marked.false))

pub returns : goal.returns
returns c vs m =
    let a = c.args in
    sym (c.loop-i.invariant vs m ∙ bad_none (id_marked vs a.b.now) no_common UsedTwice a.c c.loop-i.i (omega arith))
