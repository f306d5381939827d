-- `cursor::steps::turned` meets its contract: the steps before `k` are the cursor's, and those from there on are zero. Assumes nothing.
use borrow.Author.Rules.{rules}
use mathlib.Core.Path.{◌≡◌}
use lib.ListN.{length}
use Rattle.cursor.proofs.StepsLaws.{turned_cursor}
use Rattle.cursor.proofs.steps.turned.Goals as goal

pub returns : goal.returns
returns c =
    let e : length c.args.c.steps ≡ 16 = search rules in
    turned_cursor c.args.c.steps c.copy_from_slice.new.self c.args.k c.args.s e c.requires c.copy_from_slice.ensures.after
