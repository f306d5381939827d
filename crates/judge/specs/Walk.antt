-- What the judge's walk of a subtree answers: one page's own verdict, the words that mark the pages visited, and the walk's.
-- Assumes nothing.
use Rattle.std.specs.Prelude.{◌≡◌, Bool, false, not, cond, List, ℕ, zero, suc, ◌+◌, ◌-◌, ◌*◌, ◌<◌, ltb, length, drop, Some, None, Ok, Err}
use Rattle.std.specs.Borrow.{Bor}
use Rattle.std.specs.declared.option.Option.{Option as Maybe}
use Rattle.std.specs.declared.result.Result.{Result}
use Rattle.std.proofs.Math.Option.{Option, none, some}
use Rattle.field.specs.Marks.{is_marked, lowest_marked, count}
use Rattle.field.specs.declared.refusal.Refusal.TheVariants.{PageNumber, KeyRange, UsedTwice, TooDeep}
use Rattle.page.specs.Layout.{key_of, count_of, overflow_of}
use Rattle.page.specs.PageRules.{block_of, SoundBlock, Verdict as BlockVerdict}
use Rattle.walk.specs.Tree.{Key, View, bad, branch, leaf, keys, under, in_range, common_with, common_crossed, memb, inside, first_in, Stray, first_out, pass, fault, walk_all, walk, Verdict as Walk}
use Rattle.view.specs.declared.Value.{Value}
use Rattle.view.specs.declared.Fault.{Fault}
use Rattle.judge.specs.declared.range.Page.{Page}
use Rattle.judge.specs.declared.range.Page.TheVariants.{Branch, Leaf}
use Rattle.view.specs.Fault.{fault_at}
use Rattle.view.specs.View.{row, child_item, view_of, pages_of}

-- the upper end of a range, which may be missing
abbrev pub upper_of : Maybe (Bor Key) → Option Key
upper_of (Some high) = some high.now
upper_of None = none

-- rule 8: how a key stands to the upper end of its range, and to its range; outside, with the length of the common beginning of it and the end that it crosses
abbrev pub against_upper : Option Key → Key → Maybe ℕ
against_upper high k = cond (under k high) None (Some (common_with k high))

abbrev pub ranged_of : Key → Option Key → Key → Maybe ℕ
ranged_of low high k = cond (in_range low high k) None (Some (common_crossed low high k))

-- a key of a block is out of its range
abbrev pub key_out : Bool → List ℕ → Key → Option Key → ℕ → Bool
key_out is_leaf b low high i = not (in_range low high (key_of is_leaf b i))

-- 02, order 2: the length of its common beginning with the end that it crosses
abbrev pub common_out : Bool → List ℕ → Key → Option Key → ℕ → ℕ
common_out is_leaf b low high i = common_crossed low high (key_of is_leaf b i)

-- the verdict on a block, as one on page q, which the block starts with
abbrev pub on_page : ℕ → BlockVerdict → Result Unit Fault
on_page q (Ok u) = Ok u
on_page q (Err b) = Err (fault_at b.refusal q b.element b.common)

-- rule 8, of page q, which keeps the rules before it
abbrev pub breach_if_out : Option Stray → ℕ → Page → Result Page Fault
breach_if_out none q v = Ok v
breach_if_out (some x) q v = Err (fault_at KeyRange q x.index x.common)

-- page q's own verdict: the number of its children or entries
unfoldable pub judge_page_of : View Value → ℕ → Key → Option Key → Result Page Fault
judge_page_of (bad refusal element common) q low high = Err (fault_at refusal q element common)
judge_page_of (branch cs) q low high = breach_if_out (first_out low high (keys cs) 0) q (Branch (length cs))
judge_page_of (leaf es) q low high = breach_if_out (first_out low high (keys es) 0) q (Leaf (length es))

-- rule 3, of a block's pages: the lowest that was visited before is named
abbrev pub breach_if_twice : Option ℕ → Result Page Fault → Result Page Fault
breach_if_twice none v = v
breach_if_twice (some page) v = Err (fault_at UsedTwice page 0 0)

-- the same by the words that mark the pages visited, of those from q up to end
abbrev pub taken_of : List ℕ → ℕ → ℕ → Result Unit Fault
taken_of m q end = cond (ltb (lowest_marked m q (end - q)) end) (Err (fault_at UsedTwice (lowest_marked m q (end - q)) 0 0)) (Ok tt)

-- the verdict on a page that the walk meets with `left` levels to spend, after the pages vs: rules 1, 2 and 3 come before its own;
-- a page that rule 4 refuses has no block
unfoldable pub met_of : ℕ → (ℕ → List ℕ) → (ℕ → Bool → View Value) → ℕ → Bool → ℕ → Key → Option Key → List ℕ → Result Page Fault
met_of N block view zero top q low high vs = Err (fault_at TooDeep q 0 0)
met_of N block view (suc d) top q low high vs =
    cond (inside N q) (breach_if_twice (first_in (block q) vs) (judge_page_of (view q top) q low high)) (Err (fault_at PageNumber q 0 0))

-- the page was met without a breach
abbrev pub NoBreach : Result Page Fault → Type 0
NoBreach (Ok x) = Unit
NoBreach (Err f) = ⊥

-- page q is a branch of c children, whose block lies within N pages and keeps the rules
pub record Branching (image : List ℕ) (P N q c : ℕ) : Type 0 where
  pub ends : q + overflow_of (drop (q * P) image) < N
  pub sound : SoundBlock false false (block_of image P q)
  pub counted : c ≡ count_of (block_of image P q)

-- the walk of its children, with `left` levels to spend
abbrev pub children_of : List ℕ → ℕ → ℕ → ℕ → ℕ → ℕ → Option Key → List ℕ → Walk
children_of image P N left q c high vs = walk_all (walk N (pages_of image P N) (view_of image P N) left false) (row (child_item (block_of image P q)) c 0) high 0 vs

-- the words mark exactly these pages, each once
pub record Marks (m vs : List ℕ) : Type 0 where
  pub each : (k : ℕ) → k < 32768 → is_marked m k ≡ memb k vs
  pub counted : count m ≡ length vs

-- the answer is the definition's, and where nothing was breached the words mark the pages visited
abbrev pub Says : Result ℕ Fault → List ℕ → Walk → Type 0
Says r m (pass n vs) = (r ≡ Ok n) × Marks m vs
Says r m (fault refusal page element common) = r ≡ Err (fault_at refusal page element common)
