-- Laws of what `split` answers and leaves: which case holds when, and what the cuts put into the lent list are.
-- Assumes nothing.
use mathlib.Core.Path.{◌≡◌, sym, ap, ◌∙◌}
use mathlib.Core.Bool.{Bool, true}
use mathlib.Core.List.{List, ◌++◌}
use Prim.Native.Nat.{ℕ, ◌≤◌, ◌<◌}
use lib.ListN.{length, drop}
use borrow.Author.Tests.{lt-ltb, le-ltb, not-false}
use Rattle.field.specs.Sizes.{size_allowed}
use Rattle.field.specs.Run.{put_at}
use Rattle.field.proofs.RunLaws.{put_start}
use Rattle.std.specs.Prelude.{Ok, Err}
use Rattle.field.specs.declared.refusal.Refusal.TheVariants.{OutputShort}
use Rattle.page.specs.Layout.{entries_of}
use Rattle.page.specs.PageRules.{breach, lent_check_of}
use Rattle.page.proofs.TestLaws.{and_both}
use Rattle.page.proofs.LentLaws.{lent_iff}
use Rattle.size.specs.Size.{node_limit}
use Rattle.cuts.specs.Split.{threshold, cuts_of}
use Rattle.cuts.specs.Run.{cuts_after, run_end}
use Rattle.cuts.specs.Parted.{parted_if}
use Rattle.cuts.proofs.RunLaws.{cuts_run}

-- the page size of a block that passes is allowed
pub lent_size : (P : ℕ) (b : List ℕ) → lent_check_of P b ≡ Ok tt → size_allowed P ≡ true
lent_size P b e = (and_both _ _ (not-false _ ((lent_iff P b).0 e).0)).0

-- which of the three answers
module _ (size : ℕ) (made : List ℕ) (room : ℕ) where
  pub parted_short : size ≤ node_limit → room < length made → Err (breach OutputShort 0 0) ≡ parted_if size made room
  parted_short h k = rw (le-ltb node_limit size h, lt-ltb room (length made) k)

  pub parted_made : size ≤ node_limit → length made ≤ room → Ok (length made) ≡ parted_if size made room
  parted_made h k = rw (le-ltb node_limit size h, le-ltb room (length made) k)

-- the code's threshold and end give the node's cuts
pub cuts_code : (leaf : Bool) (P : ℕ) (b : List ℕ) (t end : ℕ) → t ≡ threshold P → end ≡ run_end leaf P b
    → cuts_after leaf t b end 0 ≡ cuts_of leaf P (entries_of leaf b)
cuts_code leaf P b t end ht he = rw (ht, he) (sym (cuts_run leaf P b))

-- a run put from the start, and how long it is
pub put_made : {run list : List ℕ} (n : ℕ) (made old : List ℕ) → run ≡ made → n ≡ length made → list ≡ put_at old 0 run → list ≡ made ++ drop n old
put_made n made old e hn p = p ∙ ap (put_at old 0) e ∙ put_start old made ∙ ap (λ (k : ℕ). made ++ drop k old) (sym hn)
