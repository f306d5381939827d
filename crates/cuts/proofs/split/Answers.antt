-- `cuts::split` meets its contract: a block that the check finds sound is cut. Assumes nothing.
use Rattle.std.proofs.Common.{rules}
use mathlib.Core.Path.{◌≡◌, sym, ◌∙◌}
use Rattle.std.specs.Prelude.{Ok}
use Rattle.page.specs.PageRules.{lent_check_of}
use Rattle.page.proofs.LentLaws.{lent_sound}
use Rattle.cuts.specs.Parted.{split_of}
use Rattle.cuts.proofs.PartedLaws.{lent_size}
use Rattle.cuts.proofs.split.Goals as goal
use Rattle.cuts.proofs.split.Goals.{In_ok-lent_check}

passed : (c : In_ok-lent_check) → lent_check_of c.args.p c.args.b.now ≡ Ok tt
passed c = sym c.lent_check.ensures ∙ c.in_ok-lent_check.was

pub is_leaf-requires : goal.is_leaf-requires
is_leaf-requires c = (lent_sound c.args.p c.args.b.now (passed c)).0

pub split_sound-requires : goal.split_sound-requires
split_sound-requires c =
    let a = c.args in
    let p = passed (goal.at.split_sound-requires c).In_ok-lent_check in
    record { sound_block = rw c.is_leaf.ensures (lent_sound a.p a.b.now p).1; p_value = lent_size a.p a.b.now p }

pub returns-in_err-lent_check : goal.returns-in_err-lent_check
unfolding split_of
returns-in_err-lent_check c = rw (sym c.lent_check.ensures ∙ c.in_err-lent_check.was) (search rules)

pub returns : goal.returns
unfolding split_of
returns c =
    rw (passed (goal.at.returns c).In_ok-lent_check, ← c.is_leaf.ensures) c.split_sound.ensures
