-- `page::rules::outside` meets its contract: each difference is taken only where it is not below 0, so that no sum is. Assumes nothing.
use Prim.Native.Nat.{◌+◌, ◌-◌}
use borrow.Author.Tests.{lt-ltb, le-ltb}
use native.Mathlib.Omega.{arith}
use Rattle.page.proofs.TestLaws.{ltb_same}
use Rattle.page.proofs.rules.outside.Goals as goal

pub returns-then-pos-from : goal.returns-then-pos-from
returns-then-pos-from c =
    let a = c.args in
    rw (lt-ltb (a.at + a.pos) a.from (omega arith))

pub returns-then-to-at : goal.returns-then-to-at
returns-then-to-at c =
    let a = c.args in
    rw (le-ltb (a.at + a.pos) a.from (omega arith), lt-ltb a.to (a.at + a.pos + a.key + a.value) (omega arith))

pub returns-then-rest-key : goal.returns-then-rest-key
returns-then-rest-key c =
    let a = c.args in
    rw (le-ltb (a.at + a.pos) a.from (omega arith), lt-ltb a.to (a.at + a.pos + a.key + a.value) (omega arith))

pub returns : goal.returns
returns c =
    let a = c.args in
    rw (le-ltb (a.at + a.pos) a.from (omega arith))
    (ltb_same (a.to - a.at - a.pos - a.key) a.value a.to (a.at + a.pos + a.key + a.value) (λ h. omega arith) (λ h. omega arith))
