-- `freelist::allocate` meets its contract. From the check, the scan and the loop.
-- Assumes nothing.
use mathlib.Core.Path.{◌≡◌, sym}
use native.Mathlib.Omega.{arith}
use Rattle.std.proofs.Common.{rules}
use Rattle.std.proofs.lemmas.Bool.Decides.{nat_tests}
use Rattle.freelist.specs.Freelist.{lowest, count_after, allocate_check, allocate_answer, allocate_table}
use Rattle.freelist.proofs.NumberLaws.{Requested, requested}
use Rattle.freelist.proofs.RunLaws.{lowest_free, needed_some}
use Rattle.freelist.proofs.allocate.Goals as goal
use Rattle.freelist.proofs.allocate.Goals.{In_ok-check_request, In_default}

pub returns-in_err-check_request-clause-answer : goal.returns-in_err-check_request-clause-answer
unfolding allocate_check allocate_answer
returns-in_err-check_request-clause-answer c = search rules

-- the request passed
passed : (c : In_ok-check_request) → Requested c.args.table.now c.args.n c.args.page_size c.args.bytes
passed c = let a = c.args in requested a.table.now a.n a.page_size a.bytes (sym c.in_ok-check_request.ensures)

pub pages_needed-pages-requires : goal.pages_needed-pages-requires
pages_needed-pages-requires c = omega (arith, (passed c).wide)

pub lowest_run-requires : goal.lowest_run-requires
lowest_run-requires c =
    let a = c.args in
    let r = passed (goal.at.lowest_run-requires c).In_ok-check_request in
    let s = r.table in
    let w = r.wide in
    let e = c.pages_needed-pages.ensures in
    (s.from, s.to, omega (arith, needed_some a.bytes a.page_size (omega arith) (omega (arith, r.some))), s.long, s.states)

pub put_all-requires : goal.put_all-requires
put_all-requires c =
    let a = c.args in
    let s = (passed (goal.at.put_all-requires c).In_ok-check_request).table in
    let e = c.in-Some.ensures.0 in
    let f = lowest_free a.table.now a.n c.pages_needed-pages.result s.from (omega (arith, c.in-Some.ensures.1)) in
    (omega (arith, s.to, f.1), s.long)

pub returns-in-Some-clause-answer : goal.returns-in-Some-clause-answer
unfolding count_after allocate_check allocate_answer
returns-in-Some-clause-answer c =
    let s = (passed (goal.at.returns-in-Some-clause-answer c).In_ok-check_request).table in
    let e = c.in-Some.ensures in
    grind (arith, nat_tests)

pub returns-in-Some-clause-lent : goal.returns-in-Some-clause-lent
unfolding allocate_table
returns-in-Some-clause-lent c = rw (← c.pages_needed-pages.ensures, ← c.in-Some.ensures.0) c.put_all.ensures

pub overflow_sub-n : goal.overflow_sub-n
overflow_sub-n c = (passed (goal.at.overflow_sub-n c).In_ok-check_request).table.to

-- there is no run
none : (c : In_default) → lowest c.args.table.now c.args.n c.pages_needed-pages.result ≡ c.args.n
none c = c.in_default.ensures

pub returns-then-n-pages-clause-answer : goal.returns-then-n-pages-clause-answer
unfolding count_after allocate_check allocate_answer
returns-then-n-pages-clause-answer c =
    let s = (passed (goal.at.returns-then-n-pages-clause-answer c).In_ok-check_request).table in
    let e = none (goal.at.returns-then-n-pages-clause-answer c).In_default in
    grind (arith, nat_tests)

pub put_all-requires-2 : goal.put_all-requires-2
put_all-requires-2 c = let s = (passed (goal.at.put_all-requires-2 c).In_ok-check_request).table in (omega (arith, s.to, c.if-n-pages.false), s.long)

pub returns-clause-answer : goal.returns-clause-answer
unfolding count_after allocate_check allocate_answer
returns-clause-answer c =
    let s = (passed (goal.at.returns-clause-answer c).In_ok-check_request).table in
    let e = none (goal.at.returns-clause-answer c).In_default in
    grind (arith, nat_tests)

pub returns-clause-lent : goal.returns-clause-lent
unfolding allocate_table
returns-clause-lent c =
    rw (← c.pages_needed-pages.ensures, none (goal.at.returns-clause-lent c).In_default) c.put_all-2.ensures
