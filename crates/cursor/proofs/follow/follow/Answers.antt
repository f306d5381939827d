use Rattle.std.specs.Prelude.{Ok, Err}
use borrow.Author.Rules.{rules}
use mathlib.Core.Path.{◌≡◌, sym, ap, ◌∙◌}
use mathlib.Core.Bool.{true}
use mathlib.Core.List.{List, ◌∷◌}
use mathlib.Core.Option.{none}
use Prim.Native.Nat.{◌+◌, ◌-◌, ◌<◌}
use borrow.Author.Tests.{eq-eqb, ne_eqb}
use native.Mathlib.Omega.{arith}
use lib.Dec.{eqb}
use lib.ListN.{length, drop, get_or}
use Rattle.path.specs.declared.Step.{Step}
use Rattle.path.specs.Path.{step, nth, follow}
use Rattle.view.specs.View.{view_of}
use Rattle.cursor.specs.Cursor.{path_of}
use Rattle.cursor.specs.Working.{followed_of}
use Rattle.cursor.proofs.FollowLaws.{followed_below, follow_astray, follow_bad, follow_branch, follow_no_child, follow_no_entry, follow_long, follow_leaf_lem, follow_none}
use Rattle.cursor.proofs.MetLaws.{BranchMet, LeafMet, nth_none, bad_met, branch_met, leaf_met}
use Rattle.cursor.proofs.StepsLaws.{path_at, path_over}
use Rattle.cursor.proofs.follow.follow.Goals as goal
use Rattle.cursor.proofs.follow.follow.Goals.{Else-s-q, In-Ok-Branch, In-Ok-Leaf, In-loop-k, Start}

sixteen : (c : Start) → length c.args.c.steps ≡ 16
sixteen c = search rules

-- the step that is followed
abbrev here : (c : In-loop-k) → Step
here c = get_or c.args.c.steps c.loop-k.k (step 0 0)

-- what is left of the path
abbrev rest : (c : In-loop-k) → List Step
rest c = drop (c.loop-k.k + 1) (path_of c.args.c)

whole : (c : In-loop-k)
    → let a = c.args in
    followed_of (follow a.n (view_of a.image.now a.p a.n) 16 true a.root (path_of a.c))
    ≡ followed_of (follow a.n (view_of a.image.now a.p a.n) (16 - c.loop-k.k) (eqb c.loop-k.k 0) c.loop-k.q (here c ∷ rest c))
whole c =
    let a = c.args in
    let i = c.loop-k.invariant.0 in
    c.loop-k.invariant.1
    ∙ ap (λ (path : List Step). followed_of (follow a.n (view_of a.image.now a.p a.n) (16 - c.loop-k.k) (eqb c.loop-k.k 0) c.loop-k.q path))
    (path_at a.c.steps a.c.length c.loop-k.k (let e = sixteen (goal.at.In-loop-k c).Start in omega arith) (omega arith))

within : (c : In-loop-k) → c.loop-k.k < 16
within c = let i = c.loop-k.invariant.0 in omega arith

pub returns-then-s-q : goal.returns-then-s-q
returns-then-s-q c =
    let a = c.args in
    ap Err c.fault.ensures
    ∙ sym (whole (goal.at.returns-then-s-q c).In-loop-k ∙ ap followed_of (follow_astray a.n (view_of a.image.now a.p a.n) c.loop-k.k c.loop-k.q (within (goal.at.returns-then-s-q c).In-loop-k) (here (goal.at.returns-then-s-q c).In-loop-k) (rest (goal.at.returns-then-s-q c).In-loop-k) (ne_eqb _ _ c.if-s-q.true)))

-- the page that the step names is the one met
named : (c : Else-s-q) → eqb (here (goal.at.Else-s-q c).In-loop-k).page c.loop-k.q ≡ true
named c = eq-eqb _ _ c.if-s-q.false

branch-here : (c : In-Ok-Branch)
    → let a = c.args in
    BranchMet a.image.now a.p a.n c.loop-k.q (eqb c.loop-k.k 0) c.in-Ok-Branch.count
branch-here c =
    branch_met c.args.image.now c.args.p c.args.n c.loop-k.q (eqb c.loop-k.k 0) c.requires.0 _ (sym c.meet.ensures ∙ c.in-Ok-Branch.is ∙ ap Ok c.in-Ok-Branch.field-0-is)

pub returns-then-count-s : goal.returns-then-count-s
returns-then-count-s c =
    let a = c.args in
    let b = branch-here (goal.at.returns-then-count-s c).In-Ok-Branch in
    let e = b.size in
    let n : nth b.children (here (goal.at.returns-then-count-s c).In-loop-k).index ≡ none = nth_none b.children (here (goal.at.returns-then-count-s c).In-loop-k).index (let f = c.if-count-s.true in omega arith) in
    ap Err c.fault-then-count-s.ensures
    ∙ sym (whole (goal.at.returns-then-count-s c).In-loop-k ∙ ap followed_of (follow_no_child a.n (view_of a.image.now a.p a.n) c.loop-k.k c.loop-k.q (within (goal.at.returns-then-count-s c).In-loop-k) (here (goal.at.returns-then-count-s c).In-loop-k) (rest (goal.at.returns-then-count-s c).In-loop-k) (named (goal.at.returns-then-count-s c).Else-s-q) b.children b.seen n))

pub child_at-q-requires : goal.child_at-q-requires
child_at-q-requires c =
    let b = branch-here (goal.at.child_at-q-requires c).In-Ok-Branch in
    let e = b.counted in
    (b.page, b.sound, omega arith)

pub loop-k-preserved : goal.loop-k-preserved
loop-k-preserved c =
    let a = c.args in
    let b = branch-here (goal.at.loop-k-preserved c).In-Ok-Branch in
    let f = follow_branch a.n (view_of a.image.now a.p a.n) c.loop-k.k c.loop-k.q (within (goal.at.loop-k-preserved c).In-loop-k) (here (goal.at.loop-k-preserved c).In-loop-k) (rest (goal.at.loop-k-preserved c).In-loop-k) (named (goal.at.loop-k-preserved c).Else-s-q) b.children _ c.child_at-q.result
    b.seen (b.child (here (goal.at.loop-k-preserved c).In-loop-k).index (omega arith)) c.child_at-q.ensures in
    (c.loop-k.invariant.0, whole (goal.at.loop-k-preserved c).In-loop-k ∙ ap followed_of f ∙ followed_below (step c.loop-k.q (here (goal.at.loop-k-preserved c).In-loop-k).index) (follow a.n (view_of a.image.now a.p a.n) (16 - (c.loop-k.k + 1)) (eqb (c.loop-k.k + 1) 0) c.child_at-q.result (rest (goal.at.loop-k-preserved c).In-loop-k)))

leaf-here : (c : In-Ok-Leaf)
    → let a = c.args in
    LeafMet a.image.now a.p a.n c.loop-k.q (eqb c.loop-k.k 0) c.in-Ok-Leaf.count
leaf-here c =
    leaf_met c.args.image.now c.args.p c.args.n c.loop-k.q (eqb c.loop-k.k 0) c.requires.0 _ (sym c.meet.ensures ∙ c.in-Ok-Leaf.is ∙ ap Ok c.in-Ok-Leaf.field-0-is)

pub returns-then-count-s-2 : goal.returns-then-count-s-2
returns-then-count-s-2 c =
    let a = c.args in
    let b = leaf-here (goal.at.returns-then-count-s-2 c).In-Ok-Leaf in
    let e = b.size in
    let n : nth b.entries (here (goal.at.returns-then-count-s-2 c).In-loop-k).index ≡ none = nth_none b.entries (here (goal.at.returns-then-count-s-2 c).In-loop-k).index (let f = c.if-count-s-2.true in omega arith) in
    ap Err c.fault-then-count-s-2.ensures
    ∙ sym (whole (goal.at.returns-then-count-s-2 c).In-loop-k ∙ ap followed_of (follow_no_entry a.n (view_of a.image.now a.p a.n) c.loop-k.k c.loop-k.q (within (goal.at.returns-then-count-s-2 c).In-loop-k) (here (goal.at.returns-then-count-s-2 c).In-loop-k) (rest (goal.at.returns-then-count-s-2 c).In-loop-k) (named (goal.at.returns-then-count-s-2 c).Else-s-q) b.entries b.seen n))

pub returns-then-k-length : goal.returns-then-k-length
returns-then-k-length c =
    let a = c.args in
    let b = leaf-here (goal.at.returns-then-k-length c).In-Ok-Leaf in
    let more = path_at a.c.steps a.c.length (c.loop-k.k + 1) (let e = sixteen (goal.at.returns-then-k-length c).Start in let i = c.loop-k.invariant.0 in omega arith) (let f = c.if-k-length.true in omega arith) in
    ap Err c.fault-then-k-length.ensures
    ∙ sym
    (whole (goal.at.returns-then-k-length c).In-loop-k
    ∙ ap followed_of
    (follow_long a.n (view_of a.image.now a.p a.n) c.loop-k.k c.loop-k.q (within (goal.at.returns-then-k-length c).In-loop-k) (here (goal.at.returns-then-k-length c).In-loop-k) (rest (goal.at.returns-then-k-length c).In-loop-k) (named (goal.at.returns-then-k-length c).Else-s-q) b.entries _ _ _ b.seen (b.entry (here (goal.at.returns-then-k-length c).In-loop-k).index (omega arith)) more))

pub returns-in-Ok-Leaf : goal.returns-in-Ok-Leaf
returns-in-Ok-Leaf c =
    let a = c.args in
    let b = leaf-here (goal.at.returns-in-Ok-Leaf c).In-Ok-Leaf in
    let over = path_over a.c.steps a.c.length (c.loop-k.k + 1) (let e = sixteen (goal.at.returns-in-Ok-Leaf c).Start in let i = c.loop-k.invariant.0 in omega arith) (let f = c.if-k-length.false in omega arith) in
    sym
    (whole (goal.at.returns-in-Ok-Leaf c).In-loop-k
    ∙ ap followed_of
    (follow_leaf_lem a.n (view_of a.image.now a.p a.n) c.loop-k.k c.loop-k.q (within (goal.at.returns-in-Ok-Leaf c).In-loop-k) (here (goal.at.returns-in-Ok-Leaf c).In-loop-k) (rest (goal.at.returns-in-Ok-Leaf c).In-loop-k) (named (goal.at.returns-in-Ok-Leaf c).Else-s-q) b.entries _ b.seen (b.entry (here (goal.at.returns-in-Ok-Leaf c).In-loop-k).index (omega arith)) over))

pub returns-in-Err : goal.returns-in-Err
returns-in-Err c =
    let a = c.args in
    let m = bad_met a.image.now a.p a.n c.loop-k.q (eqb c.loop-k.k 0) c.requires.0 _ (sym c.meet.ensures ∙ c.in-Err.is) in
    ap Err c.on_page.ensures
    ∙ sym (whole (goal.at.returns-in-Err c).In-loop-k ∙ ap followed_of (follow_bad a.n (view_of a.image.now a.p a.n) c.loop-k.k c.loop-k.q (within (goal.at.returns-in-Err c).In-loop-k) (here (goal.at.returns-in-Err c).In-loop-k) (rest (goal.at.returns-in-Err c).In-loop-k) (named (goal.at.returns-in-Err c).Else-s-q) _ _ _ m))

pub returns : goal.returns
returns c =
    let a = c.args in
    let over = path_over a.c.steps a.c.length c.loop-k.k (let e = sixteen (goal.at.returns c).Start in let i = c.loop-k.invariant.0 in omega arith) (omega arith) in
    ap Err c.fault-2.ensures
    ∙ sym
    (c.loop-k.invariant.1
    ∙ ap (λ (path : List Step). followed_of (follow a.n (view_of a.image.now a.p a.n) (16 - c.loop-k.k) (eqb c.loop-k.k 0) c.loop-k.q path)) over
    ∙ ap followed_of (follow_none a.n (view_of a.image.now a.p a.n) (16 - c.loop-k.k) (eqb c.loop-k.k 0) c.loop-k.q))
