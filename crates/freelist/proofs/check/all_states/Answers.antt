-- `freelist::check::all_states` meets its contract: the pages are those of the first word, of the whole words, and of the last.
-- Assumes nothing.
use mathlib.Core.Path.{sym, ◌∙◌}
use mathlib.Core.Bool.{Bool}
use Prim.Native.Nat.{ℕ}
use Rattle.freelist.specs.Table.{is_state, state_of}
use Rattle.freelist.proofs.WordLaws.{all_words}
use Rattle.freelist.proofs.check.all_states.Goals as goal
use Rattle.freelist.proofs.check.all_states.Goals.{then-word_passes, else-word_passes}

pub returns-then-words_pass : goal.returns-then-words_pass
returns-then-words_pass c =
    let a = c.args in
    let ok : ℕ → Bool = λ p. is_state (state_of a.t.now p) in
    elim c.if-word_passes.branch [
      | then-word_passes w ↦ (let e = sym c.word_passes-2.ensures ∙ w.if-word_passes.true in
          let f = sym w.words_pass.ensures ∙ sym w.value-is ∙ c.if-words_pass.true in
          c.word_passes-then-words_pass.ensures ∙ sym (all_words ok a.n c.if-n-lt64.false ∙ rw (e, f)))
      | else-word_passes w ↦ cc
    ]

pub returns-else-words_pass : goal.returns-else-words_pass
returns-else-words_pass c =
    let a = c.args in
    let ok : ℕ → Bool = λ p. is_state (state_of a.t.now p) in
    elim c.if-word_passes.branch [
      | then-word_passes w ↦ (let e = sym c.word_passes-2.ensures ∙ w.if-word_passes.true in
          let f = sym w.words_pass.ensures ∙ sym w.value-is ∙ c.if-words_pass.false in
          c.if-words_pass.false ∙ sym (all_words ok a.n c.if-n-lt64.false ∙ rw (e, f)))
      | else-word_passes w ↦ (let e = sym c.word_passes-2.ensures ∙ w.if-word_passes.false in
          c.if-words_pass.false ∙ sym (all_words ok a.n c.if-n-lt64.false ∙ rw e))
    ]
