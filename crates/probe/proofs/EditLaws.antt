-- What an edit tells with a short answer buffer, and with one that has room; a kind above 1 is as bad as any other.
-- Assumes nothing.
use mathlib.Core.Path.{◌≡◌, refl}
use mathlib.Core.Bool.{Bool, true, false}
use mathlib.Core.List.{List}
use Prim.Native.Nat.{ℕ, ◌≤◌, ◌<◌, min}
use native.Mathlib.Omega.{arith}
use borrow.Author.Tests.{ltb-true, ltb-false, ne_eqb}
use lib.Dec.{ltb}
use lib.ListN.{length}
use Rattle.page.specs.PageRules.{kind_bad}
use Rattle.answer.specs.Answer.{told_number, told_answer, lent_with}
use Rattle.std.specs.Prelude.{Ok, Err}
use Rattle.std.specs.declared.result.Result.{Result}
use Rattle.page.specs.declared.breach.Breach.{Breach}
use Rattle.node.specs.declared.edit.Removed.{Removed}
use Rattle.node.specs.Edit.{Outcome, answer, output, Edits, insert_of}
use Rattle.node.specs.Numbers.{edited_fields, deleted_fields}
use Rattle.probe.proofs.ToldLaws.{told_short, told_roomy}

-- what a call of an edit promises of its number and of what it leaves, with this answer buffer
abbrev pub Told : Bool → ℕ → ℕ → List ℕ → Outcome → List ℕ → ℕ → List ℕ → List ℕ → Type 0
Told leaf id P out o buffer number exit left =
    (number ≡ told_number (edited_fields (answer leaf P o)) buffer)
    × (exit ≡ told_answer (edited_fields (answer leaf P o)) buffer)
    × (left ≡ lent_with 4 buffer out (output leaf id P out o))

edited_count : (r : Result ℕ Breach) → length (edited_fields r) ≡ 5
edited_count (Ok bytes) = refl
edited_count (Err b) = refl

module _ (leaf : Bool) (id P : ℕ) (out : List ℕ) (o : Outcome) (buffer : List ℕ) where
  pub edit_short : length buffer < 32 → Told leaf id P out o buffer 1 buffer out
  edit_short l = told_short (edited_fields (answer leaf P o)) buffer out (output leaf id P out o) 4 (edited_count (answer leaf P o)) l

  pub edit_told : {number : ℕ} {exit left : List ℕ} (r : Result ℕ Breach) → 32 ≤ length buffer → Edits leaf id P out o r left
      → (number ≡ told_number (edited_fields r) buffer) × (exit ≡ told_answer (edited_fields r) buffer) → Told leaf id P out o buffer number exit left
  edit_told r l h t = told_roomy edited_fields r (answer leaf P o) buffer out (output leaf id P out o) 4 l h.answers h.leaves t

-- ---- insert: all kinds above 1 are refused alike, so a kind may be cut to the greatest byte
bad : (kind size : ℕ) → 2 ≤ kind → kind_bad kind size ≡ true
bad kind size l = rw (ne_eqb kind 0 (λ e. omega arith), ne_eqb kind 1 (λ e. omega arith))

module _ (P : ℕ) (b key : List ℕ) (kind : ℕ) (value out : List ℕ) where
  insert_cut : insert_of P b key (min kind 255) value out ≡ insert_of P b key kind value out
  unfolding insert_of
  insert_cut = go (ltb kind 2) refl
    where
      go : (t : Bool) → ltb kind 2 ≡ t → insert_of P b key (min kind 255) value out ≡ insert_of P b key kind value out
      go true e = let l = ltb-true kind 2 e in let m : min kind 255 ≡ kind = omega arith in rw m
      go false e = let l = ltb-false kind 2 e in rw (bad kind (length value) l, bad (min kind 255) (length value) (omega arith))

  pub insert_kind : {id : ℕ} {r : Result ℕ Breach} {exit : List ℕ} (byte : ℕ) → byte ≡ min kind 255
      → Edits true id P out (insert_of P b key byte value out) r exit → Edits true id P out (insert_of P b key kind value out) r exit
  insert_kind byte e h = rw (e, insert_cut) at h

-- ---- delete
pub deleted_count : (r : Result Removed Breach) → length (deleted_fields r) ≡ 10
deleted_count (Ok removed) = refl
deleted_count (Err b) = refl
