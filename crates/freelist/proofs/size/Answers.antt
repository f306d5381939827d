-- `freelist::size` meets its contract. From the check and the count.
-- Assumes nothing.
use mathlib.Core.Path.{sym}
use native.Mathlib.Omega.{arith}
use Rattle.std.proofs.Common.{rules}
use Rattle.freelist.specs.Freelist.{listing_size}
use Rattle.freelist.proofs.FaultLaws.{Passes, passes}
use Rattle.freelist.proofs.size.Goals as goal
use Rattle.freelist.proofs.size.Goals.{In_ok-check_table}

passed : (c : In_ok-check_table) → Passes c.args.table.now c.args.n
passed c = passes c.args.table.now c.args.n (sym c.in_ok-check_table.ensures)

pub count_listed-requires : goal.count_listed-requires
count_listed-requires c = let s = passed c in (s.to, s.long)

pub overflow_mul-result : goal.overflow_mul-result
overflow_mul-result c = omega (arith, (passed (goal.at.overflow_mul-result c).In_ok-check_table).to, c.count_listed.ensures.1)

pub overflow_add-result : goal.overflow_add-result
overflow_add-result c = omega (arith, (passed (goal.at.overflow_add-result c).In_ok-check_table).to, c.count_listed.ensures.1)

pub returns : goal.returns
unfolding listing_size
returns c = record { answer = (let e = c.count_listed.ensures.0 in search rules) }
