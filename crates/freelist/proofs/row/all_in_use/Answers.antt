-- `freelist::row::all_in_use` meets its contract: `all` asks each number of the range.
-- Assumes nothing.
use mathlib.Core.Path.{◌≡◌, refl, ap, ◌∙◌}
use mathlib.Core.Bool.{Bool, ◌&&◌}
use Prim.Native.Nat.{ℕ, zero, suc, ◌+◌}
use native.Mathlib.Nat.{add-sub_cancel_left}
use Rattle.std.proofs.Common.{rules, tests}
use Rattle.std.specs.List.{list_all, range_with_len}
use Rattle.std.proofs.lemmas.Iterator.{YieldsList-from_range}
use Rattle.std.proofs.lemmas.Iterator.Search.{all_from_yields_List}
use Rattle.freelist.specs.Table.{is_in_use, state_of}
use Rattle.freelist.specs.Pages.{all, pages_from}
use Rattle.freelist.proofs.row.all_in_use.Goals as goal

all_range : (ok : ℕ → Bool) (p k : ℕ) → list_all ok (range_with_len p k) ≡ all ok (pages_from p k)
unfolding all pages_from
all_range ok p zero = refl
all_range ok p (suc k) = ap (λ (b : Bool). ok p && b) (all_range ok (p + 1) k)

pub returns : goal.returns
returns c =
    let a = c.args in
    let ok : ℕ → Bool = λ k. is_in_use (state_of a.t.now k) in
    all_from_yields_List ok _ _ _ c.all.ensures.ran (YieldsList-from_range a.p (a.p + a.count) a.count refl (add-sub_cancel_left a.p a.count)) (λ x b q k. search (rules, tests))
    ∙ all_range ok a.p a.count
