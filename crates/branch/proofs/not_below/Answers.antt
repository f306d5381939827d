-- `branch::not_below` meets its contract: the order of the later key and the new one, turned round. Assumes nothing.
use Prim.Native.Nat.{◌+◌}
use Rattle.std.proofs.Common.{rules}
use mathlib.Core.Path.{ap, ◌∙◌}
use mathlib.Core.Bool.{false}
use borrow.Author.Tests.{lt-ltb}
use native.Mathlib.Omega.{arith}
use Rattle.std.specs.Ordering.{is_le}
use Rattle.page.specs.Layout.{count_of, key_of}
use Rattle.branch.proofs.BranchLaws.{not_lower}
use Rattle.branch.proofs.not_below.Goals as goal

pub returns-then-i-n : goal.returns-then-i-n
returns-then-i-n c =
    let a = c.args in
    let n = c.requires.0 in
    rw (lt-ltb (a.i + 1) (count_of a.b.now) (omega arith))
    (search (rules, not_lower (key_of false a.b.now (a.i + 1)) a.key.now))
