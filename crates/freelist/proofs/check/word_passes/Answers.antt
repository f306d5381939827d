-- `freelist::check::word_passes` meets its contract: a digit that both words share is a page with both bits.
-- Assumes nothing.
use mathlib.Core.Path.{sym}
use native.Mathlib.Omega.{arith}
use Rattle.freelist.specs.Table.{is_state, state_of}
use Rattle.freelist.proofs.PageLaws.{all_row_of}
use Rattle.freelist.proofs.WordLaws.{word_test}
use Rattle.freelist.proofs.check.word_passes.Goals as goal

pub returns-then-k-lt1 : goal.returns-then-k-lt1
returns-then-k-lt1 c =
    let a = c.args in
    sym (all_row_of (λ p. is_state (state_of a.t.now p)) a.i a.k (λ q l m. absurd (omega arith)))

pub returns : goal.returns
returns c = let a = c.args in word_test a.t.now a.i a.k (omega arith) (omega arith)
