use Prim.Native.Nat.{ℕ, ◌+◌, ◌≤◌, ◌<◌}
use mathlib.Core.Path.{◌≡◌, refl, sym, ap, ap₂, ◌∙◌}
use mathlib.Core.Bool.{false, or-false}
use native.Mathlib.Omega.{arith}
use lib.ListN.{length}
use Rattle.field.specs.Field.{field}
use Rattle.page.specs.Layout.{pos_of, key_size, key_at, value_at, table_end}
use Rattle.page.specs.PageRules.{element_bad}
use Rattle.page.proofs.PassLaws.{Pass, pass_first, pass_end, pass_room, pass_test, pass_out, pass_key, pass_falls, pass_next}
use Rattle.page.proofs.branch_pass.branch_keeps.Goals as goal
use Rattle.page.proofs.branch_pass.branch_keeps.Goals.{then-at-gt-HEADER_SIZE+else-not-is_below, else-at-gt-HEADER_SIZE, After-outside, After-u64_at-pos, Else-outside, In-loop-at, Then-at-gt-HEADER_SIZE}

-- the element at `at` is one of the table
inside : (c : In-loop-at) → c.loop-at.at < table_end false c.args.b.now
inside c = let e = c.requires.0 in omega arith

room : (c : In-loop-at) → c.loop-at.at + 24 ≤ length c.args.b.now
room c = pass_room false _ _ _ _ c.loop-at.invariant (inside c) c.requires.1

-- what was read of it
read : (c : After-u64_at-pos)
    → let b = c.args.b.now in
    let i = c.loop-at.invariant.index in
    (c.u64_at-key.result ≡ key_size false b i) × (c.u64_at-pos.result ≡ pos_of false b i)
read c =
    let b = c.args.b.now in
    let h = c.loop-at.invariant.here in
    (c.u64_at-key.ensures ∙ ap (λ (x : ℕ). field 8 b (x + 8)) h, c.u64_at-pos.ensures ∙ ap (λ (x : ℕ). field 8 b (x + 16)) h)

pub outside-requires : goal.outside-requires
outside-requires c =
    let e = c.requires.0 in
    let h = c.requires.1 in
    (omega (arith, inside (goal.at.outside-requires c).In-loop-at), omega arith)

-- rule 6
tested : (c : After-outside)
    → element_bad false c.args.b.now c.loop-at.invariant.index ≡ c.outside.result
tested c =
    let r = read (goal.at.After-outside c).After-u64_at-pos in
    let e = c.requires.0 in
    pass_test false c.args.b.now _ _ _ c.loop-at.invariant (inside (goal.at.After-outside c).In-loop-at) _ _ _ 0 c.outside.result false (omega arith) r.1 r.0 refl c.outside.ensures refl
    ∙ or-false c.outside.result

pub returns-then-outside : goal.returns-then-outside
returns-then-outside c =
    pass_out false c.args.b.now _ _ _ c.loop-at.invariant (inside (goal.at.returns-then-outside c).In-loop-at) (tested (goal.at.returns-then-outside c).After-outside ∙ c.if-outside.true)

good : (c : Else-outside)
    → element_bad false c.args.b.now c.loop-at.invariant.index ≡ false
good c = tested (goal.at.Else-outside c).After-outside ∙ c.if-outside.false

-- where its key starts and ends
spans : (c : Else-outside)
    → let b = c.args.b.now in
    let i = c.loop-at.invariant.index in
    let from = c.loop-at.at + c.u64_at-pos.result in
    (from ≡ key_at false b i) × (from + c.u64_at-key.result ≡ value_at false b i)
spans c =
    let r = read (goal.at.Else-outside c).After-u64_at-pos in
    let start = ap₂ (λ (x y : ℕ). x + y) c.loop-at.invariant.here r.1 in
    (start, ap₂ (λ (x y : ℕ). x + y) start r.0)

within : (c : Else-outside)
    → c.loop-at.at + c.u64_at-pos.result + c.u64_at-key.result ≤ length c.args.b.now
within c =
    (pass_key false _ _ _ _ c.loop-at.invariant (inside (goal.at.Else-outside c).In-loop-at) (good c) _ _ (spans c).0 (spans c).1).1

-- where the key before it does
before : (c : Then-at-gt-HEADER_SIZE)
    → Pass false c.args.b.now c.loop-at.at c.loop-at.start c.loop-at.stop
before c = c.loop-at.invariant

pub returns-then-not-is_below : goal.returns-then-not-is_below
returns-then-not-is_below c =
    pass_falls false c.args.b.now _ _ _ c.loop-at.invariant (inside (goal.at.returns-then-not-is_below c).In-loop-at) (good (goal.at.returns-then-not-is_below c).Else-outside) _ _ (spans (goal.at.returns-then-not-is_below c).Else-outside).0 (spans (goal.at.returns-then-not-is_below c).Else-outside).1
    c.if-at-gt-HEADER_SIZE.true (sym (c.if-not-is_below.true) ∙ c.is_below.ensures)

pub loop-at-preserved : goal.loop-at-preserved
loop-at-preserved c =
    pass_next false c.args.b.now _ _ _ c.loop-at.invariant (inside (goal.at.loop-at-preserved c).In-loop-at) (good (goal.at.loop-at-preserved c).Else-outside) _ _ (spans (goal.at.loop-at-preserved c).Else-outside).0 (spans (goal.at.loop-at-preserved c).Else-outside).1
    (λ h. elim c.if-at-gt-HEADER_SIZE.branch [
      | then-at-gt-HEADER_SIZE+else-not-is_below w ↦ sym w.if-not-is_below.false ∙ w.is_below.ensures
      | else-at-gt-HEADER_SIZE w ↦ absurd (omega arith)
    ])

pub returns : goal.returns
returns c =
    let e = c.requires.0 in
    pass_end false c.args.b.now _ _ _ c.loop-at.invariant (omega arith)

pub overflow_mul-end : goal.overflow_mul-end
overflow_mul-end c = let h = c.requires in omega arith

pub overflow_add-end : goal.overflow_add-end
overflow_add-end c = let h = c.requires in omega arith

pub loop-at-init : goal.loop-at-init
loop-at-init c = pass_first false _

pub overflow_add-at : goal.overflow_add-at
overflow_add-at c = omega (arith, room c)

pub u64_at-key-requires : goal.u64_at-key-requires
u64_at-key-requires c = omega (arith, room c)

pub overflow_add-at-in-loop-at : goal.overflow_add-at-in-loop-at
overflow_add-at-in-loop-at c = omega (arith, room (goal.at.overflow_add-at-in-loop-at c).In-loop-at)

pub u64_at-pos-requires : goal.u64_at-pos-requires
u64_at-pos-requires c = omega (arith, room (goal.at.u64_at-pos-requires c).In-loop-at)

pub overflow_add-from : goal.overflow_add-from
overflow_add-from c = omega (arith, within c)

pub overflow_add-to : goal.overflow_add-to
overflow_add-to c = omega (arith, within c)

pub slice_bounds-is_below-count : goal.slice_bounds-is_below-count
slice_bounds-is_below-count c = (before c).ordered

pub slice_bounds-is_below-start : goal.slice_bounds-is_below-start
slice_bounds-is_below-start c = (before c).ordered

pub slice_bounds-is_below-end : goal.slice_bounds-is_below-end
slice_bounds-is_below-end c = (before c).within

pub slice_bounds-is_below-end-then-at-gt-HEADER_SIZE : goal.slice_bounds-is_below-end-then-at-gt-HEADER_SIZE
slice_bounds-is_below-end-then-at-gt-HEADER_SIZE c = within (goal.at.slice_bounds-is_below-end-then-at-gt-HEADER_SIZE c).Else-outside

pub overflow_add-at-in-loop-at-2 : goal.overflow_add-at-in-loop-at-2
overflow_add-at-in-loop-at-2 c = omega (arith, room (goal.at.overflow_add-at-in-loop-at-2 c).In-loop-at)
