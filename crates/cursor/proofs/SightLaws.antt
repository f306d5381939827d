-- What a page that is met says of its elements, and where an entry lies.
-- Assumes nothing.
use mathlib.Core.Path.{◌≡◌, sym, ap, ◌∙◌}
use mathlib.Core.Bool.{Bool, true}
use mathlib.Core.List.{List}
use Prim.Native.Nat.{ℕ, ◌+◌, ◌-◌, ◌*◌, ◌<◌}
use native.Mathlib.Omega.{arith}
use lib.ListN.{length, drop}
use lib.Seq.{length-take-le}
use lib.ListN.{length-drop}
use Rattle.page.specs.declared.search.Leaf.{Leaf as Held}
use Rattle.page.specs.Layout.{count_of, overflow_of, key_size, key_at, value_at, value_size, value_end, key_of}
use Rattle.page.specs.PageRules.{SoundBlock}
use Rattle.page.specs.Search.{leaf_of}
use Rattle.walk.specs.Tree.{branch, leaf, inside}
use Rattle.path.specs.Path.{met}
use Rattle.view.specs.View.{row, child_item, value_item, view_of}
use Rattle.view.proofs.ViewLaws.{length_row}
use Rattle.view.proofs.ViewFrame.{header_ends}
use Rattle.cursor.specs.declared.Entry.{Entry}
use Rattle.cursor.specs.Cursor.{entry_of}
use Rattle.cursor.specs.Sight.{sight_of, SoundPage}
use Rattle.cursor.specs.declared.sight.Sight.TheVariants.{Branch, Leaf}
use Rattle.std.specs.Prelude.{Ok}

-- ---- a page with a sound header
module _ (image : List ℕ) (P N q : ℕ) (page : SoundPage image P N q) where
  pub page_ends : q + overflow_of (drop (q * P) image) < N
  page_ends = header_ends N q (drop (q * P) image) page.header

-- ---- a page by its number and its count
module _ (image : List ℕ) (P N q : ℕ) (top : Bool) where
  pub met_inside : inside N q ≡ true → met N (view_of image P N) q top ≡ view_of image P N q top
  met_inside e = rw e

pub leaf_sight : (start : ℕ) (b : List ℕ) (n : ℕ) → n ≡ count_of b → Ok (Leaf n) ≡ sight_of (leaf (row (value_item start b) (count_of b) 0))
leaf_sight start b n e = ap (λ (k : ℕ). Ok (Leaf k)) (e ∙ sym (length_row (value_item start b) (count_of b) 0))

pub branch_sight : (b : List ℕ) (n : ℕ) → n ≡ count_of b → Ok (Branch n) ≡ sight_of (branch (row (child_item b) (count_of b) 0))
branch_sight b n e = ap (λ (k : ℕ). Ok (Branch k)) (e ∙ sym (length_row (child_item b) (count_of b) 0))

-- ---- an entry
-- a sound leaf's keys have the length that their element says
pub key_length : (empty_ok : Bool) (b : List ℕ) (i : ℕ) → SoundBlock true empty_ok b → i < count_of b → length (key_of true b i) ≡ key_size true b i
unfolding key_of
key_length empty_ok b i sound l =
    let w = sound.within i l in
    length-take-le (key_size true b i) (drop (key_at true b i) b) (rw length-drop (omega arith))

-- where it lies, from the block's start counted
pub entry_told : (empty_ok : Bool) (start : ℕ) (b : List ℕ) (i : ℕ) (x : Held) → SoundBlock true empty_ok b → i < count_of b → x ≡ leaf_of b i
    → ◌≡◌ {A = Entry} (record { kind = x.kind; key = start + x.key; value = start + x.value; end = start + x.end }) (entry_of (value_item start b i))
entry_told empty_ok start b i x sound l e =
    let k : start + key_at true b i ≡ start + value_at true b i - length (key_of true b i) = (let n = key_length empty_ok b i sound l in omega arith) in
    let v : start + value_end true b i ≡ start + value_at true b i + value_size true b i = omega arith in
    rw (e, sym k, v)
