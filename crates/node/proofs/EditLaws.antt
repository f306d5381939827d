-- Edits: the same entries make the same node, and each edit's outcome once its refusals are passed.
-- Assumes nothing.
use mathlib.Core.Path.{◌≡◌, sym, ◌∙◌}
use mathlib.Core.Bool.{Bool, true, false}
use mathlib.Core.List.{List, [], ◌∷◌}
use Prim.Native.Nat.{ℕ, ◌≤◌, ◌<◌}
use native.Mathlib.Omega.{arith}
use lib.ListN.{length}
use borrow.Author.Tests.{lt-ltb, le-ltb}
use Rattle.field.specs.Sizes.{size_allowed}
use Rattle.page.specs.Layout.{Entry, count_of, is_leaf, entries_of}
use Rattle.page.specs.PageRules.{breach, kind_bad, lent_check_of}
use Rattle.page.specs.Search.{leaf_of}
use Rattle.pack.specs.Plan.{entry_with, remove_at}
use Rattle.node.specs.Edit.{Outcome, written, answer, output, Edits, inserted, delete_of, deleted_answer, new_leaf_of, new_branch_of, insert_of, branch_outcome, insert_branch_of}
use Rattle.std.specs.Prelude.{Ok, Err}
use Rattle.field.specs.declared.refusal.Refusal.TheVariants.{Geometry, Argument}
use Rattle.std.specs.declared.result.Result.{Result}
use Rattle.std.specs.declared.option.Option.{Option}
use Rattle.page.specs.declared.breach.Breach.{Breach}

pub same_node : {es es' : List Entry} {id id' : ℕ} {r : Result ℕ Breach} {exit : List ℕ} (leaf : Bool) (P : ℕ) (out : List ℕ) → es ≡ es' → id ≡ id'
    → Edits leaf id P out (written leaf P out es) r exit → Edits leaf id' P out (written leaf P out es') r exit
same_node leaf P out e f h = rw (e, f) at h

-- an outcome that is known, a refusal that is
pub same_edits : {o o' : Outcome} {r : Result ℕ Breach} {exit : List ℕ} (leaf : Bool) (id P : ℕ) (out : List ℕ) → o' ≡ o → Edits leaf id P out o r exit → Edits leaf id P out o' r exit
same_edits leaf id P out e h = rw e h

pub refused_edits : {o : Outcome} (leaf : Bool) (id P : ℕ) (out : List ℕ) (b : Breach) → o ≡ Err b → Edits leaf id P out o (Err b) out
refused_edits leaf id P out b e = record { answers = rw e; leaves = rw e }

-- ---- delete
module _ (P : ℕ) (b : List ℕ) (i : ℕ) (out : List ℕ) where
  pub delete_breach : (e : Breach) → lent_check_of P b ≡ Err e → delete_of P b i out ≡ Err e
  unfolding delete_of
  delete_breach e h = rw h

  module _ (passed : lent_check_of P b ≡ Ok tt) where
    pub delete_branch : is_leaf b ≡ false → delete_of P b i out ≡ Err (breach Argument 0 0)
    unfolding delete_of
    delete_branch h = rw (passed, h)

    pub delete_past : is_leaf b ≡ true → count_of b ≤ i → delete_of P b i out ≡ Err (breach Argument 0 0)
    unfolding delete_of
    delete_past h k = rw (passed, h, le-ltb i (count_of b) k)

    pub delete_goes : is_leaf b ≡ true → i < count_of b → delete_of P b i out ≡ written true P out (remove_at i (entries_of true b))
    unfolding delete_of
    delete_goes h k = rw (passed, h, lt-ltb i (count_of b) k)

-- an edit's answer as that of `delete`
as_refused : (P : ℕ) (b : List ℕ) (i : ℕ) (o : Outcome) (e : Breach) → Err e ≡ answer true P o → Err e ≡ deleted_answer P b i o
as_refused P b i (Ok es) e h = absurd (let z : ◌≡◌ {A = ℕ} 0 1 = cc in omega arith)
as_refused P b i (Err f) e h = cc

as_removed : (P : ℕ) (b : List ℕ) (i : ℕ) (o : Outcome) (bytes : ℕ) → Ok bytes ≡ answer true P o → Ok (record { bytes = bytes; leaf = leaf_of b i }) ≡ deleted_answer P b i o
as_removed P b i (Ok es) bytes h = cc
as_removed P b i (Err f) bytes h = absurd (let z : ◌≡◌ {A = ℕ} 0 1 = cc in omega arith)

module _ {id : ℕ} {out exit : List ℕ} {o o' : Outcome} {r : Result ℕ Breach} (P : ℕ) (b : List ℕ) (i : ℕ) (same : o' ≡ o) (h : Edits true id P out o r exit) where
  pub deleted_refused : (e : Breach) → r ≡ Err e → (Err e ≡ deleted_answer P b i o') × (exit ≡ output true id P out o')
  deleted_refused e q = rw same (as_refused P b i o e (sym q ∙ h.answers), h.leaves)

  pub deleted_done : (bytes : ℕ) → r ≡ Ok bytes
      → (Ok (record { bytes = bytes; leaf = leaf_of b i }) ≡ deleted_answer P b i o') × (exit ≡ output true id P out o')
  deleted_done bytes q = rw same (as_removed P b i o bytes (sym q ∙ h.answers), h.leaves)

-- ---- new nodes
module _ (P : ℕ) (out : List ℕ) where
  pub leaf_size : size_allowed P ≡ false → new_leaf_of P out ≡ Err (breach Geometry 0 0)
  unfolding new_leaf_of
  leaf_size h = rw h

  pub leaf_goes : size_allowed P ≡ true → new_leaf_of P out ≡ written true P out []
  unfolding new_leaf_of
  leaf_goes h = rw h

  module _ (key : List ℕ) (child : ℕ) where
    pub branch_size : size_allowed P ≡ false → new_branch_of P key child out ≡ Err (breach Geometry 0 0)
    unfolding new_branch_of
    branch_size h = rw h

    pub branch_child : size_allowed P ≡ true → child < 2 → new_branch_of P key child out ≡ Err (breach Argument 0 0)
    unfolding new_branch_of
    branch_child h l = rw (h, lt-ltb child 2 l)

    pub branch_goes : size_allowed P ≡ true → 2 ≤ child → new_branch_of P key child out ≡ written false P out (entry_with child key [] ∷ [])
    unfolding new_branch_of
    branch_goes h l = rw (h, le-ltb child 2 l)

-- ---- insert in a leaf
module _ (P : ℕ) (b key : List ℕ) (kind : ℕ) (value out : List ℕ) where
  pub insert_breach : (e : Breach) → lent_check_of P b ≡ Err e → insert_of P b key kind value out ≡ Err e
  unfolding insert_of
  insert_breach e h = rw h

  module _ (passed : lent_check_of P b ≡ Ok tt) where
    pub insert_branch_lem : is_leaf b ≡ false → insert_of P b key kind value out ≡ Err (breach Argument 0 0)
    unfolding insert_of
    insert_branch_lem h = rw (passed, h)

    pub insert_kind : is_leaf b ≡ true → kind_bad kind (length value) ≡ true → insert_of P b key kind value out ≡ Err (breach Argument 0 0)
    unfolding insert_of
    insert_kind h k = rw (passed, h, k)

    pub insert_goes : is_leaf b ≡ true → kind_bad kind (length value) ≡ false
        → insert_of P b key kind value out ≡ written true P out (inserted (entry_with kind key value) (entries_of true b))
    unfolding insert_of
    insert_goes h k = rw (passed, h, k)

-- ---- insert in a branch
module _ (P : ℕ) (b : List ℕ) (original : Option (List ℕ)) (key : List ℕ) (child : ℕ) (out : List ℕ) where
  pub branched_breach : (e : Breach) → lent_check_of P b ≡ Err e → insert_branch_of P b original key child out ≡ Err e
  unfolding insert_branch_of
  branched_breach e h = rw h

  module _ (passed : lent_check_of P b ≡ Ok tt) where
    pub branched_leaf : is_leaf b ≡ true → insert_branch_of P b original key child out ≡ Err (breach Argument 0 0)
    unfolding insert_branch_of
    branched_leaf h = rw (passed, h)

    pub branched_child : is_leaf b ≡ false → child < 2 → insert_branch_of P b original key child out ≡ Err (breach Argument 0 0)
    unfolding insert_branch_of
    branched_child h l = rw (passed, h, lt-ltb child 2 l)

    pub branched_goes : is_leaf b ≡ false → 2 ≤ child
        → insert_branch_of P b original key child out ≡ branch_outcome P out original (entry_with child key []) (entries_of false b)
    unfolding insert_branch_of
    branched_goes h l = rw (passed, h, le-ltb child 2 l)
