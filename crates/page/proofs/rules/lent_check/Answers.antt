-- `page::rules::lent_check` meets its contract: the length, then the header, then rules 5 to 7. Assumes nothing.
use Prim.Native.Nat.{◌≤◌}
use mathlib.Core.Path.{◌≡◌, sym, ap, ◌∙◌}
use mathlib.Core.Bool.{false}
use native.Mathlib.Omega.{arith}
use lib.ListN.{length}
use Rattle.page.specs.PageRules.{length_bad}
use Rattle.page.proofs.LentLaws.{length_good, lent_length, lent_header, lent_rest}
use Rattle.page.proofs.rules.lent_check.Goals as goal
use Rattle.page.proofs.rules.lent_check.Goals.{Else-length_bad}
use Rattle.std.specs.Prelude.{Err}

whole : (c : Else-length_bad) → length_bad c.args.p c.args.b.now ≡ false
whole c = sym c.length_bad.ensures ∙ c.if-length_bad.false

long : (c : Else-length_bad) → 32 ≤ length c.args.b.now
long c =
    let g = length_good c.args.p c.args.b.now (whole c) in
    omega arith

pub returns-then-length_bad : goal.returns-then-length_bad
returns-then-length_bad c =
    ap Err c.from.ensures ∙ sym (lent_length c.args.p c.args.b.now (sym c.length_bad.ensures ∙ c.if-length_bad.true))

pub returns-then-lent_header_bad : goal.returns-then-lent_header_bad
returns-then-lent_header_bad c =
    ap Err c.from-then-lent_header_bad.ensures ∙ sym (lent_header c.args.p c.args.b.now (whole (goal.at.returns-then-lent_header_bad c).Else-length_bad) (sym c.lent_header_bad.ensures ∙ c.if-lent_header_bad.true))

pub returns : goal.returns
returns c =
    rw (lent_rest c.args.p c.args.b.now (whole (goal.at.returns c).Else-length_bad) (sym c.lent_header_bad.ensures ∙ c.if-lent_header_bad.false), ← c.is_leaf-leaf.ensures)
    c.check.ensures

pub lent_header_bad-requires : goal.lent_header_bad-requires
lent_header_bad-requires c = whole c

pub is_leaf-leaf-requires : goal.is_leaf-leaf-requires
is_leaf-leaf-requires c = long (goal.at.is_leaf-leaf-requires c).Else-length_bad

pub check-requires : goal.check-requires
check-requires c = long (goal.at.check-requires c).Else-length_bad
