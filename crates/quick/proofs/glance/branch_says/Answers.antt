-- `quick::glance::branch_says` meets its contract: what halving comes to is an element, whose child is the one to go to. Assumes nothing.
use mathlib.Core.Path.{◌≡◌, refl, sym, ◌∙◌}
use mathlib.Core.Bool.{true, false}
use mathlib.Core.List.{List}
use Prim.Native.Nat.{ℕ, zero, suc, ◌<◌}
use native.Mathlib.Omega.{arith}
use Rattle.std.proofs.Common.{rules}
use Rattle.std.specs.Prelude.{Ok}
use Rattle.page.specs.Layout.{count_of}
use Rattle.page.specs.PageRules.{table_bad}
use Rattle.page.proofs.LayoutLaws.{element_room}
use Rattle.page.proofs.RuleLaws.{table_good}
use Rattle.quick.proofs.PlaceLaws.{place_below}
use Rattle.quick.proofs.glance.branch_says.Goals as goal
use Rattle.quick.proofs.glance.branch_says.Goals.{Else-table_bad}

-- the table keeps rule 5
kept : (c : Else-table_bad) → table_bad false false c.args.b.now ≡ false
kept c = sym c.table_bad.ensures ∙ c.if-table_bad.false

pub halve_branch-requires : goal.halve_branch-requires
halve_branch-requires c = (c.count.ensures, (table_good false false c.args.b.now (kept (goal.at.halve_branch-requires c).Else-table_bad)).1)

-- so it has an element
some_element : (b : List ℕ) → table_bad false false b ≡ false → 0 < count_of b
some_element b e = go (count_of b) (table_good false false b e).0
  where
    go : (n : ℕ) → (n ≡ 0 → false ≡ true) → 0 < n
    go zero f = absurd (let e = f refl in cc)
    go (suc n) f = omega arith

pub child-requires : goal.child-requires
child-requires c =
    let a = c.args in
    let k = kept (goal.at.child-requires c).Else-table_bad in
    let e : c.halve_branch.result ≡ Ok c.in_ok-place.place = search rules in
    element_room false a.b.now _ (place_below false a.b.now a.key.now _ (some_element a.b.now k) (sym c.halve_branch.ensures ∙ e)) (table_good false false a.b.now k).1
