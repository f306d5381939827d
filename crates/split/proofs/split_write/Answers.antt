-- `split::split_write` meets its contract: a block that the check finds sound is split. Assumes nothing.
use Rattle.std.proofs.Common.{rules}
use mathlib.Core.Path.{◌≡◌, refl, sym, ap, ◌∙◌}
use mathlib.Core.Bool.{true}
use Rattle.std.specs.Prelude.{Ok, Err}
use Rattle.field.specs.Sizes.{count_allowed}
use Rattle.page.specs.PageRules.{lent_check_of}
use Rattle.page.proofs.LentLaws.{lent_sound}
use Rattle.split.specs.Write.{split_write_of}
use Rattle.cuts.proofs.PartedLaws.{lent_size}
use Rattle.split.proofs.split_write.Goals as goal
use Rattle.split.proofs.split_write.Goals.{Else-not-count_allowed, In_ok-lent_check}

pub returns-then-not-count_allowed : goal.returns-then-not-count_allowed
unfolding split_write_of
returns-then-not-count_allowed c = (rw (sym c.count_allowed.ensures ∙ c.if-not-count_allowed.true) (ap Err c.from.ensures), refl)

-- N is allowed
allowed : (c : Else-not-count_allowed) → count_allowed c.args.n ≡ true
allowed c = sym c.count_allowed.ensures ∙ c.if-not-count_allowed.false

passed : (c : In_ok-lent_check) → lent_check_of c.args.p c.args.b.now ≡ Ok tt
passed c = sym c.lent_check.ensures ∙ c.in_ok-lent_check.was

pub is_leaf-requires : goal.is_leaf-requires
is_leaf-requires c = (lent_sound c.args.p c.args.b.now (passed c)).0

pub write_sound-requires : goal.write_sound-requires
write_sound-requires c =
    let a = c.args in
    let p = passed (goal.at.write_sound-requires c).In_ok-lent_check in
    record {
      sound_block = rw c.is_leaf.ensures (lent_sound a.p a.b.now p).1;
      p_value = (lent_size a.p a.b.now p, allowed (goal.at.write_sound-requires c).Else-not-count_allowed);
    }

pub returns-in_err-lent_check : goal.returns-in_err-lent_check
unfolding split_write_of
returns-in_err-lent_check c =
    rw (allowed (goal.at.returns-in_err-lent_check c).Else-not-count_allowed, sym c.lent_check.ensures ∙ c.in_err-lent_check.was) (search rules)

pub returns : goal.returns
unfolding split_write_of
returns c =
    rw (allowed (goal.at.returns c).Else-not-count_allowed, passed (goal.at.returns c).In_ok-lent_check, ← c.is_leaf.ensures) c.write_sound.ensures
