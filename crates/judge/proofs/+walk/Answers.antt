use Prim.Native.Nat.{ℕ, ◌+◌, ◌-◌, ◌*◌, ◌≤◌, ◌<◌}
use mathlib.Core.Path.{◌≡◌, refl, sym, ap, subst, ◌∙◌}
use mathlib.Core.Bool.{false}
use mathlib.Core.List.{List, ◌++◌}
use Rattle.std.proofs.Common.{rules}
use native.Mathlib.Omega.{arith}
use Rattle.std.specs.Prelude.{Ok, Err}
use Rattle.field.specs.Marks.{count}
use Rattle.field.proofs.MarkLaws.{count_all}
use Rattle.page.specs.Layout.{count_of}
use Rattle.page.specs.PageRules.{SoundBlock, block_of}
use Rattle.walk.specs.Tree.{branch, next, walk as walk_of}
use Rattle.judge.specs.declared.range.Page.{Page}
use Rattle.judge.specs.declared.range.Page.TheVariants.{Branch, Leaf}
use Rattle.view.specs.View.{row, child_item, view_of, pages_of}
use Rattle.judge.specs.Walk.{upper_of, judge_page_of, met_of, NoBreach, Branching, children_of, Marks, Says}
use Rattle.view.proofs.GeometryLaws.{inside_parts}
use Rattle.judge.proofs.PageLaws.{told_branch, few_entries}
use Rattle.judge.proofs.MarksLaws.{marks_some}
use Rattle.judge.proofs.WalkLaws.{met_own, met_breach, met_leaf, met_branch, says_fault, says_pass, says_passed, says_broken, next_upper, turn_passed, turn_broken, turn_done}
use Rattle.judge.proofs.+walk.Invariants.{children}
use Rattle.judge.proofs.+walk.Goals as goal
use Rattle.judge.proofs.+walk.Goals.{walk-After-meet, walk-In-Branch, walk-In-Leaf, walk_all-After-block-b, walk_all-After-walk, walk_all-At-loop-i, walk_all-In_ok-entries}

-- ---- a page
-- what the walk meets, for any pages that the words mark
told : {t : ℕ} (c : walk-After-meet t) (us : List ℕ)
    → let a = c.args in
    Marks a.marks.now us
    → c.meet.result ≡ met_of a.n (pages_of a.image.now a.p a.n) (view_of a.image.now a.p a.n) a.left a.top a.q a.low.now (upper_of a.high) us
told c us m = (c.meet.ensures.says us m).0

-- a page met that is no breach: it is inside, and the verdict is its own
own : {t : ℕ} (c : walk-After-meet t) (x : Page)
    → let a = c.args in
    c.meet.result ≡ Ok x
    → (0 < a.left) × (a.q < a.n) × (judge_page_of (view_of a.image.now a.p a.n a.q a.top) a.q a.low.now (upper_of a.high) ≡ Ok x)
own c x e =
    let a = c.args in
    let v = marks_some a.marks.now in
    let o = met_own a.n (pages_of a.image.now a.p a.n) (view_of a.image.now a.p a.n) a.left a.top a.q a.low.now (upper_of a.high) v.0 x (sym (told c v.0 v.1) ∙ e) in
    (o.0, (inside_parts a.n a.q o.1).1, o.3)

-- the pages of its block are marked now, and there are more marks
marked : {t : ℕ} (c : walk-After-meet t) (x : Page)
    → let a = c.args in
    c.meet.result ≡ Ok x
    → ((us : List ℕ) → Marks a.marks.now us → Marks c.meet.new.marks (pages_of a.image.now a.p a.n a.q ++ us)) × (count a.marks.now < count c.meet.new.marks)
marked c x e =
    let y : NoBreach c.meet.result = subst NoBreach (sym e) tt in
    (λ us m. (c.meet.ensures.says us m).1 y, c.meet.ensures.more y)

pub walk-returns-in_err-entries-clause-says : goal.walk-returns-in_err-entries-clause-says
walk-returns-in_err-entries-clause-says t c vs m =
    let a = c.args in
    let same : c.from_residual.result ≡ Err c.in_err-entries.field-0.0 = search rules in
    let met = sym (told (goal.at.walk-returns-in_err-entries-clause-says _ c).After-meet vs m) ∙ c.in_err-entries.was in
    says_fault _ _ _ _
    (met_breach a.n (pages_of a.image.now a.p a.n) (view_of a.image.now a.p a.n) a.left a.top a.q a.low.now (upper_of a.high) vs _ met)
    same

-- a leaf has few entries, and a page at least
few : {t : ℕ} (c : walk-In-Leaf t) → c.in-Leaf.entries + 2147483648 * count c.args.marks.now ≤ 2147483648 * count c.meet.new.marks
few c =
    let a = c.args in
    let leaf = c.in_ok-entries.was ∙ ap Ok c.in-Leaf.is in
    let o = own (goal.at.walk-In-Leaf _ c).After-meet (Leaf c.in-Leaf.entries) leaf in
    let few = few_entries a.image.now a.p a.n a.q a.top a.low.now (upper_of a.high) c.in-Leaf.entries c.requires o.2 in
    let more = (marked (goal.at.walk-In-Leaf _ c).After-meet (Leaf c.in-Leaf.entries) leaf).1 in
    omega arith

pub walk-returns-in-Leaf-clause-says : goal.walk-returns-in-Leaf-clause-says
walk-returns-in-Leaf-clause-says t c vs m =
    let a = c.args in
    let leaf = c.in_ok-entries.was ∙ ap Ok c.in-Leaf.is in
    let met = sym (told (goal.at.walk-returns-in-Leaf-clause-says _ c).After-meet vs m) ∙ leaf in
    says_pass _ _ _ _ _
    (met_leaf a.n (pages_of a.image.now a.p a.n) (view_of a.image.now a.p a.n) a.left a.top a.q a.low.now (upper_of a.high) vs c.in-Leaf.entries met)
    refl
    ((marked (goal.at.walk-returns-in-Leaf-clause-says _ c).After-meet (Leaf c.in-Leaf.entries) leaf).0 vs m)

pub walk-returns-in-Leaf-clause-counted : goal.walk-returns-in-Leaf-clause-counted
walk-returns-in-Leaf-clause-counted t c k e = let same : c.in-Leaf.entries ≡ k = cc in let f = few c in omega arith

-- a branch met: it is no breach, and its block keeps the rules
branches : {t : ℕ} (c : walk-In-Branch t)
    → let a = c.args in
    (0 < a.left) × (a.q < a.n) × Branching a.image.now a.p a.n a.q c.in-Branch.c
    × (view_of a.image.now a.p a.n a.q a.top ≡ branch (row (child_item (block_of a.image.now a.p a.q)) c.in-Branch.c 0))
branches c =
    let a = c.args in
    let o = own (goal.at.walk-In-Branch _ c).After-meet (Branch c.in-Branch.c) (c.in_ok-entries.was ∙ ap Ok c.in-Branch.is) in
    let b = told_branch a.image.now a.p a.n a.q a.top a.low.now (upper_of a.high) c.in-Branch.c o.2 in
    (o.0, o.1, b.0, b.1)

pub walk-overflow_sub-left : goal.walk-overflow_sub-left
walk-overflow_sub-left t c = (branches c).0

pub walk-walk_all-requires : goal.walk-walk_all-requires
walk-walk_all-requires t c =
    let b = branches (goal.at.walk-walk_all-requires _ c).In-Branch in
    let l = b.0 in
    (omega arith, (c.requires, b.1, b.2))

pub walk-returns-in-Branch-clause-says : goal.walk-returns-in-Branch-clause-says
walk-returns-in-Branch-clause-says t c vs m =
    let a = c.args in
    let b = branches (goal.at.walk-returns-in-Branch-clause-says _ c).In-Branch in
    let is = c.in_ok-entries.was ∙ ap Ok c.in-Branch.is in
    let met = sym (told (goal.at.walk-returns-in-Branch-clause-says _ c).After-meet vs m) ∙ is in
    rw (met_branch a.n (pages_of a.image.now a.p a.n) (view_of a.image.now a.p a.n) a.left a.top a.q a.low.now (upper_of a.high) vs c.in-Branch.c _ b.3 met)
    (c.walk_all.ensures.says (pages_of a.image.now a.p a.n a.q ++ vs) ((marked (goal.at.walk-returns-in-Branch-clause-says _ c).After-meet (Branch c.in-Branch.c) is).0 vs m))

-- ---- its children
sound : {t : ℕ} (c : walk_all-After-block-b t) → SoundBlock false false c.block-b.result.now × (c.args.c ≡ count_of c.block-b.result.now)
sound c = let e = c.block-b.ensures.0 in let pre = c.requires in (rw e pre.2.sound, rw e pre.2.counted)

-- the walk of all children is that of those left
reached : {t : ℕ} (c : walk_all-At-loop-i t) (vs : List ℕ)
    → let a = c.args in
    Marks a.marks.now vs
    → (us : List ℕ) × Marks c.loop-i.marks us
    × (children_of a.image.now a.p a.n a.left a.q a.c (upper_of a.high) vs
    ≡ children a.image.now a.p a.n a.left c.block-b.result.now (upper_of a.high) (a.c - c.loop-i.i) c.loop-i.i c.loop-i.entries us)
reached c vs m =
    let a = c.args in
    let x = c.loop-i.invariant.walked vs m in
    (x.0, x.1, ap (λ (b : List ℕ). children a.image.now a.p a.n a.left b (upper_of a.high) a.c 0 0 vs) (sym c.block-b.ensures.0) ∙ x.2)

-- the walk of child i is the definition's
child_told : {t : ℕ} (c : walk_all-After-walk t) (us : List ℕ)
    → let a = c.args in
    let f = child_item c.block-b.result.now in
    Marks c.loop-i.marks us
    → Says c.walk.result c.walk.new.marks
    (walk_of a.n (pages_of a.image.now a.p a.n) (view_of a.image.now a.p a.n) a.left false (f c.loop-i.i).value (f c.loop-i.i).key (next (row f (a.c - (c.loop-i.i + 1)) (c.loop-i.i + 1)) (upper_of a.high)) us)
child_told c us m =
    let a = c.args in
    let f = child_item c.block-b.result.now in
    let u : next (row f (a.c - (c.loop-i.i + 1)) (c.loop-i.i + 1)) (upper_of a.high) ≡ upper_of c.upper-end.result = sym (c.upper-end.ensures ∙ next_upper f a.c c.loop-i.i (upper_of a.high) c.loop-i-test.true) in
    rw (u, ← c.child.ensures, ← c.key-low.ensures) (c.walk.ensures.says us m)

pub walk_all-returns-in_err-entries-clause-says : goal.walk_all-returns-in_err-entries-clause-says
walk_all-returns-in_err-entries-clause-says t c vs m =
    let a = c.args in
    let same : c.from_residual.result ≡ Err c.in_err-entries.field-0.0 = search rules in
    let r = reached (goal.at.walk_all-returns-in_err-entries-clause-says _ c).At-loop-i vs m in
    let e = says_broken c.walk.result _ _ c.in_err-entries.field-0.0 (child_told (goal.at.walk_all-returns-in_err-entries-clause-says _ c).After-walk r.0 r.1) c.in_err-entries.was in
    says_fault _ _ _ _
    (r.2 ∙ turn_broken (child_item c.block-b.result.now) a.c c.loop-i.i (walk_of a.n (pages_of a.image.now a.p a.n) (view_of a.image.now a.p a.n) a.left false) (upper_of a.high) c.loop-i.entries r.0 _ c.loop-i-test.true e)
    same

-- each entry counted has its page, and the pages are few
counted : {t : ℕ} (c : walk_all-In_ok-entries t)
    → c.loop-i.entries + c.in_ok-entries.field-0 + 2147483648 * count c.args.marks.now ≤ 2147483648 * count c.walk.new.marks
counted c =
    let x = c.loop-i.invariant.counted in
    let y = c.walk.ensures.counted _ c.in_ok-entries.was in
    omega arith

pub walk_all-overflow_add-entries : goal.walk_all-overflow_add-entries
walk_all-overflow_add-entries t c = omega (arith, counted c, count_all c.walk.new.marks)

pub walk_all-loop-i-preserved : goal.walk_all-loop-i-preserved
walk_all-loop-i-preserved t c =
    let a = c.args in record {
      walked = λ vs m.
          let x = c.loop-i.invariant.walked vs m in
          let y = says_passed c.walk.result _ _ c.in_ok-entries.field-0 (child_told (goal.at.walk_all-loop-i-preserved _ c).After-walk x.0 x.1) c.in_ok-entries.was in (
            y.0,
            y.2,
            x.2 ∙ turn_passed (child_item c.block-b.result.now) a.c c.loop-i.i (walk_of a.n (pages_of a.image.now a.p a.n) (view_of a.image.now a.p a.n) a.left false) (upper_of a.high) c.loop-i.entries x.0 _ _ c.loop-i-test.true y.1,
          );
      counted = counted c;
    }

pub walk_all-returns-clause-says : goal.walk_all-returns-clause-says
walk_all-returns-clause-says t c vs m =
    let a = c.args in
    let r = reached (goal.at.walk_all-returns-clause-says _ c).At-loop-i vs m in
    says_pass _ _ _ c.loop-i.entries r.0
    (r.2 ∙ turn_done (child_item c.block-b.result.now) a.c c.loop-i.i (walk_of a.n (pages_of a.image.now a.p a.n) (view_of a.image.now a.p a.n) a.left false) (upper_of a.high) c.loop-i.entries r.0 c.loop-i-test.false)
    refl r.1
