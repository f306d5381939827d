use Prim.Native.Nat.{ℕ, ◌+◌, ◌*◌, ◌≤◌, ◌<◌}
use mathlib.Core.Path.{◌≡◌, refl, sym, ap, ap₂, ◌∙◌, subst}
use mathlib.Core.Bool.{true, false, ◌||◌}
use native.Mathlib.Omega.{arith}
use lib.ListN.{length, get_or}
use Rattle.field.specs.Field.{field}
use Rattle.page.specs.Layout.{pos_of, key_size, value_size, key_at, value_at, table_end}
use Rattle.page.specs.PageRules.{element_bad, kind_bad, kind_bad_at}
use Rattle.page.proofs.PassLaws.{Pass, pass_first, pass_end, pass_room, pass_test, pass_out, pass_key, pass_falls, pass_next}
use Rattle.page.proofs.leaf_pass.leaf_keeps.Goals as goal
use Rattle.page.proofs.leaf_pass.leaf_keeps.Goals.{then-i-gt0+else-not-is_below_at_once, else-i-gt0, After-kind_bad, After-outside, After-u64_at-value, Else-kind_bad, In-loop-i, Then-i-gt0}

-- the element at `at` is one of the table
inside : (c : In-loop-i) → (32 + 32 * c.loop-i.i) < table_end true c.args.b.now
inside c = let e = c.requires.0 in omega arith

room : (c : In-loop-i) → (32 + 32 * c.loop-i.i) + 32 ≤ length c.args.b.now
room c = pass_room true _ _ _ _ c.loop-i.invariant (inside c) c.requires.1

-- what was read of it
read : (c : After-u64_at-value)
    → let b = c.args.b.now in
    let i = c.loop-i.invariant.index in
    (c.u64_at-pos.result ≡ pos_of true b i) × (c.u64_at-key.result ≡ key_size true b i) × (c.u64_at-value.result ≡ value_size true b i)
read c =
    let b = c.args.b.now in
    let h = c.loop-i.invariant.here in (
      c.u64_at-pos.ensures ∙ ap (λ (x : ℕ). field 8 b (x + 8)) h,
      c.u64_at-key.ensures ∙ ap (λ (x : ℕ). field 8 b (x + 16)) h,
      c.u64_at-value.ensures ∙ ap (λ (x : ℕ). field 8 b (x + 24)) h,
    )

pub outside-requires : goal.outside-requires
outside-requires c =
    let e = c.requires.0 in
    let h = c.requires.1 in
    (omega (arith, inside (goal.at.outside-requires c).In-loop-i), omega arith)

-- rule 6, by its first test or by both
tested : (c : After-outside)
    → let b = c.args.b.now in
    let i = c.loop-i.invariant.index in
    (kind : _) → kind ≡ kind_bad_at true b i → element_bad true b i ≡ (c.outside.result || kind)
tested c kind k =
    let r = read (goal.at.After-outside c).After-u64_at-value in
    let e = c.requires.0 in
    pass_test true c.args.b.now _ _ _ c.loop-i.invariant (inside (goal.at.After-outside c).In-loop-i) _ _ _ _ c.outside.result kind (omega arith) r.0 r.1 r.2 c.outside.ensures k

pub returns-then-outside : goal.returns-then-outside
returns-then-outside c =
    let b = c.args.b.now in
    pass_out true b _ _ _ c.loop-i.invariant (inside (goal.at.returns-then-outside c).In-loop-i)
    (tested (goal.at.returns-then-outside c).After-outside (kind_bad_at true b c.loop-i.invariant.index) refl ∙ (rw c.if-outside.true))

-- and by the kind
kind-told : (c : After-kind_bad)
    → c.kind_bad.result ≡ kind_bad_at true c.args.b.now c.loop-i.invariant.index
kind-told c =
    let b = c.args.b.now in
    c.kind_bad.ensures ∙ ap₂ kind_bad (ap (λ (x : ℕ). get_or b x 0) c.loop-i.invariant.here) (read (goal.at.After-kind_bad c).After-u64_at-value).2

pub returns-then-kind_bad : goal.returns-then-kind_bad
returns-then-kind_bad c =
    pass_out true c.args.b.now _ _ _ c.loop-i.invariant (inside (goal.at.returns-then-kind_bad c).In-loop-i)
    (tested (goal.at.returns-then-kind_bad c).After-outside c.kind_bad.result (kind-told (goal.at.returns-then-kind_bad c).After-kind_bad) ∙ (rw (c.if-outside.false, c.if-kind_bad.true)))

good : (c : Else-kind_bad)
    → element_bad true c.args.b.now c.loop-i.invariant.index ≡ false
good c =
    tested (goal.at.Else-kind_bad c).After-outside c.kind_bad.result (kind-told (goal.at.Else-kind_bad c).After-kind_bad) ∙ (rw (c.if-outside.false, c.if-kind_bad.false))

-- where its key starts and ends
spans : (c : Else-kind_bad)
    → let b = c.args.b.now in
    let i = c.loop-i.invariant.index in
    let from = (32 + 32 * c.loop-i.i) + c.u64_at-pos.result in
    (from ≡ key_at true b i) × (from + c.u64_at-key.result ≡ value_at true b i)
spans c =
    let r = read (goal.at.Else-kind_bad c).After-u64_at-value in
    let start = ap₂ (λ (x y : ℕ). x + y) c.loop-i.invariant.here r.0 in
    (start, ap₂ (λ (x y : ℕ). x + y) start r.1)

within : (c : Else-kind_bad)
    → let to = (32 + 32 * c.loop-i.i) + c.u64_at-pos.result + c.u64_at-key.result in
    to ≤ length c.args.b.now
within c =
    (pass_key true _ _ _ _ c.loop-i.invariant (inside (goal.at.Else-kind_bad c).In-loop-i) (good c) _ _ (spans c).0 (spans c).1).1

-- where the key before it does
before : (c : Then-i-gt0)
    → Pass true c.args.b.now (32 + 32 * c.loop-i.i) c.loop-i.start c.loop-i.stop
before c = c.loop-i.invariant

pub returns-then-not-is_below_at_once : goal.returns-then-not-is_below_at_once
returns-then-not-is_below_at_once c =
    pass_falls true c.args.b.now _ _ _ c.loop-i.invariant (inside (goal.at.returns-then-not-is_below_at_once c).In-loop-i) (good (goal.at.returns-then-not-is_below_at_once c).Else-kind_bad) _ _ (spans (goal.at.returns-then-not-is_below_at_once c).Else-kind_bad).0 (spans (goal.at.returns-then-not-is_below_at_once c).Else-kind_bad).1
    (let l = c.if-i-gt0.true in omega arith) (sym (c.if-not-is_below_at_once.true) ∙ c.is_below_at_once.ensures)

pub loop-i-preserved : goal.loop-i-preserved
loop-i-preserved c =
    let next : 32 + 32 * c.loop-i.i + 32 ≡ 32 + 32 * (c.loop-i.i + 1) = omega arith in
    let from = 32 + 32 * c.loop-i.i + c.u64_at-pos.result in
    subst (λ (x : ℕ). Pass true c.args.b.now x from (from + c.u64_at-key.result)) next
    (pass_next true c.args.b.now _ _ _ c.loop-i.invariant (inside (goal.at.loop-i-preserved c).In-loop-i) (good (goal.at.loop-i-preserved c).Else-kind_bad) _ _ (spans (goal.at.loop-i-preserved c).Else-kind_bad).0 (spans (goal.at.loop-i-preserved c).Else-kind_bad).1
    (λ h. elim c.if-i-gt0.branch [
      | then-i-gt0+else-not-is_below_at_once w ↦ sym w.if-not-is_below_at_once.false ∙ w.is_below_at_once.ensures
      | else-i-gt0 w ↦ absurd (omega arith)
    ]))

pub returns : goal.returns
returns c =
    let e = c.requires.0 in
    pass_end true c.args.b.now _ _ _ c.loop-i.invariant (omega arith)

pub overflow_mul-end : goal.overflow_mul-end
overflow_mul-end c = let h = c.requires in omega arith

pub overflow_add-end : goal.overflow_add-end
overflow_add-end c = let h = c.requires in omega arith

pub loop-i-init : goal.loop-i-init
loop-i-init c = pass_first true _

pub overflow_add-at : goal.overflow_add-at
overflow_add-at c = omega (arith, room c)

pub u64_at-pos-requires : goal.u64_at-pos-requires
u64_at-pos-requires c = omega (arith, room c)

pub overflow_add-at-in-loop-i : goal.overflow_add-at-in-loop-i
overflow_add-at-in-loop-i c = omega (arith, room (goal.at.overflow_add-at-in-loop-i c).In-loop-i)

pub u64_at-key-requires : goal.u64_at-key-requires
u64_at-key-requires c = omega (arith, room (goal.at.u64_at-key-requires c).In-loop-i)

pub overflow_add-at-in-loop-i-2 : goal.overflow_add-at-in-loop-i-2
overflow_add-at-in-loop-i-2 c = omega (arith, room (goal.at.overflow_add-at-in-loop-i-2 c).In-loop-i)

pub u64_at-value-requires : goal.u64_at-value-requires
u64_at-value-requires c = omega (arith, room (goal.at.u64_at-value-requires c).In-loop-i)

pub bounds-b-at : goal.bounds-b-at
bounds-b-at c = omega (arith, room (goal.at.bounds-b-at c).In-loop-i)

pub overflow_add-from : goal.overflow_add-from
overflow_add-from c = omega (arith, within c)

pub overflow_add-to : goal.overflow_add-to
overflow_add-to c = omega (arith, within c)

pub slice_bounds-is_below_at_once-count : goal.slice_bounds-is_below_at_once-count
slice_bounds-is_below_at_once-count c = (before c).ordered

pub slice_bounds-is_below_at_once-start : goal.slice_bounds-is_below_at_once-start
slice_bounds-is_below_at_once-start c = (before c).ordered

pub slice_bounds-is_below_at_once-end : goal.slice_bounds-is_below_at_once-end
slice_bounds-is_below_at_once-end c = (before c).within

pub slice_bounds-is_below_at_once-end-then-i-gt0 : goal.slice_bounds-is_below_at_once-end-then-i-gt0
slice_bounds-is_below_at_once-end-then-i-gt0 c = within (goal.at.slice_bounds-is_below_at_once-end-then-i-gt0 c).Else-kind_bad

pub overflow_add-at-in-loop-i-3 : goal.overflow_add-at-in-loop-i-3
overflow_add-at-in-loop-i-3 c = omega (arith, room (goal.at.overflow_add-at-in-loop-i-3 c).In-loop-i)
