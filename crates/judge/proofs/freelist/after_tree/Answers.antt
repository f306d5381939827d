-- `judge::freelist::after_tree` meets its contract, rule by rule, for any pages that the words mark. Assumes nothing.
use Prim.Native.Nat.{ℕ, ◌+◌, ◌-◌, ◌*◌, ◌≤◌, ◌<◌}
use mathlib.Core.Path.{◌≡◌, sym, ap, ◌∙◌}
use mathlib.Core.Bool.{true, false}
use mathlib.Core.List.{List, ◌++◌}
use borrow.Author.Rules.{rules}
use native.Mathlib.Omega.{arith}
use lib.ListN.{length, drop}
use Rattle.std.specs.Prelude.{Ok, Err}
use Rattle.page.specs.PageRules.{Verdict}
use Rattle.page.specs.Layout.{overflow_of}
use Rattle.walk.specs.Tree.{inside}
use Rattle.view.specs.View.{pages_from, pages_at}
use Rattle.judge.specs.Judge.{counts, free_header_bad, ids_of, freelist_of, judged_of}
use Rattle.judge.specs.Walk.{Marks}
use Rattle.view.proofs.GeometryLaws.{inside_parts}
use Rattle.judge.proofs.MarksLaws.{taken_twice, taken_first, taken_marks}
use Rattle.judge.proofs.PageLaws.{free_ends, list_outside, list_twice, list_header, list_ids, judged_on_page}
use Rattle.judge.proofs.freelist.after_tree.Goals as goal
use Rattle.judge.proofs.freelist.after_tree.Goals.{After-check_ids, After-free_header_bad, After-from_page-s, After-overflow, After-take_pages, Else-free_header_bad, Else-not-inside, Start}

pub returns-then-not-inside : goal.returns-then-not-inside
returns-then-not-inside c vs m =
    let a = c.args in
    ap Err c.page_fault.ensures
    ∙ sym (list_outside a.image.now a.p a.n a.f a.entries vs (sym c.inside.ensures ∙ c.if-not-inside.true))

within : (c : Else-not-inside) → inside c.args.n c.args.f ≡ true
within c = sym c.inside.ensures ∙ c.if-not-inside.false

below : (c : Else-not-inside) → c.args.f < c.args.n
below c = let a = c.args in (inside_parts a.n a.f (within c)).1

pub from_page-s-requires : goal.from_page-s-requires
from_page-s-requires c = (c.requires, below c)

long : (c : After-from_page-s) → 32 ≤ length c.from_page-s.result.now
long c =
    let l = c.from_page-s.ensures.1 in
    omega (arith, c.requires.least_size)

header : (c : After-free_header_bad)
    → let a = c.args in c.free_header_bad.result ≡ free_header_bad a.n a.f (drop (a.f * a.p) a.image.now)
header c =
    let a = c.args in
    c.free_header_bad.ensures ∙ ap (free_header_bad a.n a.f) c.from_page-s.ensures.0

pub returns-then-free_header_bad : goal.returns-then-free_header_bad
returns-then-free_header_bad c vs m =
    let a = c.args in
    ap Err c.page_fault-then-free_header_bad.ensures
    ∙ sym (list_header a.image.now a.p a.n a.f a.entries vs (within (goal.at.returns-then-free_header_bad c).Else-not-inside) (sym (header (goal.at.returns-then-free_header_bad c).After-free_header_bad) ∙ c.if-free_header_bad.true))

good : (c : Else-free_header_bad)
    → let a = c.args in free_header_bad a.n a.f (drop (a.f * a.p) a.image.now) ≡ false
good c = sym (header (goal.at.Else-free_header_bad c).After-free_header_bad) ∙ c.if-free_header_bad.false

-- the block's overflow pages, and that it ends within the image
ends : (c : After-overflow)
    → let a = c.args in
    (c.overflow.result ≡ overflow_of (drop (a.f * a.p) a.image.now)) × (a.f + c.overflow.result < a.n) × (a.n ≤ 32768)
ends c =
    let a = c.args in
    let e = c.overflow.ensures ∙ ap overflow_of c.from_page-s.ensures.0 in
    let l = free_ends a.n a.f (drop (a.f * a.p) a.image.now) (good (goal.at.After-overflow c).Else-free_header_bad) in
    (e, omega arith, c.requires.most_count)

pub overflow_add-end : goal.overflow_add-end
overflow_add-end c = let e = ends c in omega arith

pub overflow_add-end-2 : goal.overflow_add-end-2
overflow_add-end-2 c = let e = ends c in omega arith

-- there are 512 words of marks
words : (c : Start) → length c.args.marks ≡ 512
words c = search rules

pub take_pages-requires : goal.take_pages-requires
take_pages-requires c =
    let e = ends (goal.at.take_pages-requires c).After-overflow in
    (omega arith, omega arith)

-- the pages that the code looks at are those of the block
block : (c : After-take_pages)
    → let a = c.args in
    let end = a.f + c.overflow.result + 1 in
    (pages_at a.image.now a.p a.f ≡ pages_from a.f (end - a.f)) × (a.f ≤ end) × (end ≤ 32768)
block c =
    let a = c.args in
    let e = ends (goal.at.After-take_pages c).After-overflow in
    let k : overflow_of (drop (a.f * a.p) a.image.now) + 1 ≡ a.f + c.overflow.result + 1 - a.f = omega arith in
    (ap (pages_from a.f) k, omega arith, omega arith)

pub returns-in_err-take_pages : goal.returns-in_err-take_pages
returns-in_err-take_pages c vs m =
    let a = c.args in
    let b = block (goal.at.returns-in_err-take_pages c).After-take_pages in
    let x = taken_twice a.marks _ a.f _ _ (words (goal.at.returns-in_err-take_pages c).Start) b.1 b.2 c.take_pages.ensures _ c.in_err-take_pages.was vs m in
    rw (list_twice a.image.now a.p a.n a.f a.entries vs (within (goal.at.returns-in_err-take_pages c).Else-not-inside) (good (goal.at.returns-in_err-take_pages c).Else-free_header_bad) x.0 (rw b.0 x.1), ← x.2)
    (search rules)

pub block-requires : goal.block-requires
block-requires c =
    (c.requires, below (goal.at.block-requires c).Else-not-inside, free_ends c.args.n c.args.f (drop (c.args.f * c.args.p) c.args.image.now) (good (goal.at.block-requires c).Else-free_header_bad))

pub check_ids-requires : goal.check_ids-requires
check_ids-requires c =
    let l = c.block.ensures.1 in
    (omega (arith, c.requires.least_size), c.requires.most_count)

-- the marks with the freelist's pages, and the answer by what was found of its ids
listed : (c : After-check_ids) (vs : List ℕ)
    → let a = c.args in
    Marks a.marks vs
    → Marks c.take_pages.new.marks (pages_at a.image.now a.p a.f ++ vs)
    × (freelist_of a.image.now a.p a.n a.f a.entries vs
    ≡ judged_of c.check_ids.result a.f a.entries (length (pages_at a.image.now a.p a.f ++ vs)))
listed c vs m =
    let a = c.args in
    let b = block (goal.at.After-check_ids c).After-take_pages in
    let all = c.in_ok-take_pages.was in
    let ps = pages_at a.image.now a.p a.f ++ vs in
    let ms : Marks c.take_pages.new.marks ps = rw b.0 (taken_marks a.marks _ a.f _ _ (words (goal.at.After-check_ids c).Start) b.1 b.2 c.take_pages.ensures all vs m) in (
      ms,
      list_ids a.image.now a.p a.n a.f a.entries vs (within (goal.at.After-check_ids c).Else-not-inside) (good (goal.at.After-check_ids c).Else-free_header_bad)
          (rw b.0 (taken_first a.marks _ a.f _ _ (words (goal.at.After-check_ids c).Start) b.1 b.2 c.take_pages.ensures all vs m))
          ∙ ap (λ (v : Verdict). judged_of v a.f a.entries (length ps))
          (ap (ids_of a.n ps) (sym c.block.ensures.0) ∙ sym (c.check_ids.ensures ps ms)),
    )

pub returns-in_err-on_page : goal.returns-in_err-on_page
returns-in_err-on_page c vs m =
    let a = c.args in
    let x = sym c.on_page.ensures ∙ c.in_err-on_page.was in
    rw (
      (listed (goal.at.returns-in_err-on_page c).After-check_ids vs m).1,
      (judged_on_page c.check_ids.result a.f a.entries (length (pages_at a.image.now a.p a.f ++ vs))).0 _ x,
    )
    (search rules)

pub returns : goal.returns
returns c vs m =
    let a = c.args in
    let x = sym c.on_page.ensures ∙ c.in_ok-on_page.was in
    let l = listed (goal.at.returns c).After-check_ids vs m in
    rw (l.1, (judged_on_page c.check_ids.result a.f a.entries (length (pages_at a.image.now a.p a.f ++ vs))).1 x)
    (ap (λ n. Ok (counts a.entries n)) (c.count_marks.ensures ∙ l.0.counted))

pub free_header_bad-requires : goal.free_header_bad-requires
free_header_bad-requires c = (long c, below (goal.at.free_header_bad-requires c).Else-not-inside)

pub overflow-requires : goal.overflow-requires
overflow-requires c = long (goal.at.overflow-requires c).After-from_page-s
