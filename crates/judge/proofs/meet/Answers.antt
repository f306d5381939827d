-- `judge::meet` meets its contract, for any pages that the words mark: rules 1, 2, 4 and 3, then the page's own verdict. Assumes nothing.
use Prim.Native.Nat.{◌+◌, ◌-◌, ◌*◌, ◌≤◌, ◌<◌}
use mathlib.Core.Path.{◌≡◌, sym, ap, subst, ◌∙◌}
use mathlib.Core.Bool.{true, false}
use native.Mathlib.Nat.{pos_of_ne-zero}
use native.Mathlib.Omega.{arith}
use lib.ListN.{length, drop}
use Rattle.std.proofs.Common.{rules}
use Rattle.std.specs.Prelude.{Err}
use Rattle.page.specs.Layout.{overflow_of}
use Rattle.page.specs.PageRules.{header_bad}
use Rattle.walk.specs.Tree.{inside}
use Rattle.view.specs.View.{view_of, pages_from, pages_of}
use Rattle.judge.specs.Walk.{upper_of, NoBreach}
use Rattle.view.proofs.GeometryLaws.{inside_parts}
use Rattle.view.proofs.ViewFrame.{header_ends}
use Rattle.view.proofs.PagesLaws.{pages_good}
use Rattle.judge.proofs.MarksLaws.{taken_twice, taken_first, taken_marks, taken_count}
use Rattle.judge.proofs.PageLaws.{meet_header}
use Rattle.judge.proofs.WalkLaws.{meet_deep, meet_out, meet_twice, meet_page}
use Rattle.judge.proofs.meet.Goals as goal
use Rattle.judge.proofs.meet.Goals.{Start, After-from_page-s, After-header_bad, After-overflow, After-take_pages, Else-header_bad, Else-left-eq0, Else-not-inside}

-- there are 512 words of marks
words : (c : Start) → length c.args.marks.now ≡ 512
words c = search rules

pub returns-then-left-eq0 : goal.returns-then-left-eq0
returns-then-left-eq0 c =
    let a = c.args in record {
      says = (λ vs m. (
        ap Err c.page_fault.ensures ∙ sym (meet_deep a.n (pages_of a.image.now a.p a.n) (view_of a.image.now a.p a.n) a.left a.top a.q a.low.now (upper_of a.high) vs c.if-left-eq0.true),
        λ n. absurd n,
      ));
      more = λ n. absurd n;
    }

spare : (c : Else-left-eq0) → 0 < c.args.left
spare c = pos_of_ne-zero c.if-left-eq0.false

pub returns-then-not-inside : goal.returns-then-not-inside
returns-then-not-inside c =
    let a = c.args in record {
      says = (λ vs m. (
        ap Err c.page_fault-then-not-inside.ensures ∙ sym (meet_out a.n (pages_of a.image.now a.p a.n) (view_of a.image.now a.p a.n) a.left a.top a.q a.low.now (upper_of a.high) vs (spare (goal.at.returns-then-not-inside c).Else-left-eq0) (sym c.inside.ensures ∙ c.if-not-inside.true)),
        λ n. absurd n,
      ));
      more = λ n. absurd n;
    }

within : (c : Else-not-inside) → let a = c.args in inside a.n a.q ≡ true
within c = sym c.inside.ensures ∙ c.if-not-inside.false

below : (c : Else-not-inside) → let a = c.args in a.q < a.n
below c = let a = c.args in (inside_parts a.n a.q (within c)).1

pub from_page-s-requires : goal.from_page-s-requires
from_page-s-requires c = (c.requires, below c)

long : (c : After-from_page-s) → 32 ≤ length c.from_page-s.result.now
long c =
    let l = c.from_page-s.ensures.1 in
    omega (arith, c.requires.least_size)

header : (c : After-header_bad)
    → let a = c.args in
    c.header_bad.result ≡ header_bad a.n a.q (drop (a.q * a.p) a.image.now)
header c =
    let a = c.args in
    c.header_bad.ensures ∙ ap (header_bad a.n a.q) c.from_page-s.ensures.0

pub returns-then-header_bad : goal.returns-then-header_bad
returns-then-header_bad c =
    let a = c.args in record {
      says = (λ vs m. (
        ap Err c.page_fault-then-header_bad.ensures ∙ sym (meet_header a.image.now a.p a.n a.q a.left a.top a.low.now (upper_of a.high) vs (spare (goal.at.returns-then-header_bad c).Else-left-eq0) (within (goal.at.returns-then-header_bad c).Else-not-inside) (sym (header (goal.at.returns-then-header_bad c).After-header_bad) ∙ c.if-header_bad.true)),
        λ n. absurd n,
      ));
      more = λ n. absurd n;
    }

good : (c : Else-header_bad)
    → let a = c.args in header_bad a.n a.q (drop (a.q * a.p) a.image.now) ≡ false
good c = sym (header (goal.at.Else-header_bad c).After-header_bad) ∙ c.if-header_bad.false

-- the block's overflow pages, and that it ends within the image
ends : (c : After-overflow)
    → let a = c.args in
    (c.overflow.result ≡ overflow_of (drop (a.q * a.p) a.image.now)) × (a.q + c.overflow.result < a.n) × (a.n ≤ 32768)
ends c =
    let a = c.args in
    let e = c.overflow.ensures ∙ ap overflow_of c.from_page-s.ensures.0 in
    let l = header_ends a.n a.q (drop (a.q * a.p) a.image.now) (good (goal.at.After-overflow c).Else-header_bad) in
    (e, omega arith, c.requires.most_count)

pub overflow_add-end : goal.overflow_add-end
overflow_add-end c = let e = ends c in omega arith

pub overflow_add-end-2 : goal.overflow_add-end-2
overflow_add-end-2 c = let e = ends c in omega arith

pub take_pages-requires : goal.take_pages-requires
take_pages-requires c =
    let e = ends (goal.at.take_pages-requires c).After-overflow in
    (omega arith, omega arith)

-- the pages that the code looks at are those of the block
block : (c : After-take_pages)
    → let a = c.args in
    let end = a.q + c.overflow.result + 1 in
    (pages_of a.image.now a.p a.n a.q ≡ pages_from a.q (end - a.q)) × (a.q ≤ end) × (end ≤ 32768)
block c =
    let a = c.args in
    let e = ends (goal.at.After-take_pages c).After-overflow in
    let k : overflow_of (drop (a.q * a.p) a.image.now) + 1 ≡ a.q + c.overflow.result + 1 - a.q = omega arith in
    (pages_good a.image.now a.p a.n a.q (good (goal.at.After-take_pages c).Else-header_bad) ∙ ap (pages_from a.q) k, omega arith, omega arith)

pub returns-in_err-take_pages : goal.returns-in_err-take_pages
returns-in_err-take_pages c =
    let a = c.args in
    let b = block (goal.at.returns-in_err-take_pages c).After-take_pages in
    let same : c.from_residual.result ≡ Err c.in_err-take_pages.field-0.0 = search rules in record {
      says = (λ vs m.
          let x = taken_twice a.marks.now _ a.q _ _ (words (goal.at.returns-in_err-take_pages c).Start) b.1 b.2 c.take_pages.ensures _ c.in_err-take_pages.was vs m in (
            same ∙ ap Err x.2 ∙ sym (meet_twice a.n (pages_of a.image.now a.p a.n) (view_of a.image.now a.p a.n) a.left a.top a.q a.low.now (upper_of a.high) vs (spare (goal.at.returns-in_err-take_pages c).Else-left-eq0) (within (goal.at.returns-in_err-take_pages c).Else-not-inside) x.0 (rw b.0 x.1)),
            λ n. absurd (subst NoBreach same n),
          ));
      more = λ n. absurd (subst NoBreach same n);
    }

pub judge_page-requires : goal.judge_page-requires
judge_page-requires c =
    (c.requires, below (goal.at.judge_page-requires c).Else-not-inside, good (goal.at.judge_page-requires c).Else-header_bad)

pub returns : goal.returns
returns c =
    let a = c.args in
    let b = block (goal.at.returns c).After-take_pages in
    let all = c.in_ok-take_pages.was in
    let more = taken_count a.marks.now _ a.q _ _ (words (goal.at.returns c).Start) b.1 b.2 c.take_pages.ensures all in record {
      says = (λ vs m. (
        c.judge_page.ensures
            ∙ sym
            (meet_page a.n (pages_of a.image.now a.p a.n) (view_of a.image.now a.p a.n) a.left a.top a.q a.low.now (upper_of a.high) vs (spare (goal.at.returns c).Else-left-eq0) (within (goal.at.returns c).Else-not-inside)
            (rw b.0 (taken_first a.marks.now _ a.q _ _ (words (goal.at.returns c).Start) b.1 b.2 c.take_pages.ensures all vs m))),
        λ n. rw b.0 (taken_marks a.marks.now _ a.q _ _ (words (goal.at.returns c).Start) b.1 b.2 c.take_pages.ensures all vs m),
      ));
      more = λ n. omega arith;
    }

pub header_bad-requires : goal.header_bad-requires
header_bad-requires c = (long c, below (goal.at.header_bad-requires c).Else-not-inside)

pub overflow-requires : goal.overflow-requires
overflow-requires c = long (goal.at.overflow-requires c).After-from_page-s
