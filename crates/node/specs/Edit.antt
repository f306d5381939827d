-- 01, "Node edits": the entries that an edit makes of a lent block's, what refuses it, the answer, and what the output then holds.
-- Assumes nothing.
use Rattle.std.specs.Prelude.{◌≡◌, Bool, true, false, not, cond, ◌&&◌, ◌||◌, List, [], ◌∷◌, ◌++◌, ℕ, ltb, length, drop, Some, None, Ok, Err}
use Rattle.std.specs.declared.option.Option.{Option}
use Rattle.std.specs.declared.result.Result.{Result}
use Rattle.std.specs.declared.cmp.Ordering.{Ordering}
use Rattle.std.specs.declared.cmp.Ordering.TheVariants.{Less, Equal, Greater}
use Rattle.field.specs.Order.{order_of}
use Rattle.std.specs.Ordering.{is_lt, is_eq}
use Rattle.field.specs.Sizes.{size_allowed}
use Rattle.field.specs.declared.refusal.Refusal.{Refusal}
use Rattle.field.specs.declared.refusal.Refusal.TheVariants.{Geometry, OutputShort, Argument, Conflict, NodeTooLarge}
use Rattle.page.specs.declared.breach.Breach.{Breach}
use Rattle.page.specs.Layout.{Entry, count_of, is_leaf, entries_of}
use Rattle.page.specs.PageRules.{breach, and_then, kind_bad, lent_check_of}
use Rattle.page.specs.Search.{leaf_of}
use Rattle.pack.specs.Pack.{node_size, block_size, pack}
use Rattle.pack.specs.Plan.{entry_with, remove_at}
use Rattle.size.specs.Size.{node_limit}
use Rattle.node.specs.declared.edit.Removed.{Removed}

-- ---- what an edit comes to: the entries of the resulting node, or a refusal, by its cause, the element and the common beginning (0 where there is none)
abbrev pub Outcome : Type 0
Outcome = Result (List Entry) Breach

-- a refusal that names no element, where there is one
abbrev pub refuse : Bool → Refusal → Outcome → Outcome
refuse bad refusal o = cond bad (Err (breach refusal 0 0)) o

-- too large where the resulting node is above the limit, and no room where the output is shorter than its block
unfoldable pub written : Bool → ℕ → List ℕ → List Entry → Outcome
written leaf P out es =
    refuse (ltb node_limit (node_size leaf es)) NodeTooLarge (refuse (ltb (length out) (block_size leaf es P)) OutputShort (Ok es))

-- ---- the answer, and what the output then holds: the packed block and its own rest, or all its own bytes
abbrev pub answer : Bool → ℕ → Outcome → Result ℕ Breach
answer leaf P (Ok es) = Ok (block_size leaf es P)
answer leaf P (Err b) = Err b

abbrev pub output : Bool → ℕ → ℕ → List ℕ → Outcome → List ℕ
output leaf id P out (Ok es) = pack leaf id es P ++ drop (block_size leaf es P) out
output leaf id P out (Err b) = out

-- what a call promises: its answer and the output's bytes are those of an outcome
pub record Edits (leaf : Bool) (id P : ℕ) (out : List ℕ) (o : Outcome) (r : Result ℕ Breach) (exit : List ℕ) : Type 0 where
  pub answers : r ≡ answer leaf P o
  pub leaves : exit ≡ output leaf id P out o

-- ---- delete: a branch, or an index not below the count, is refused as an argument
unfoldable pub delete_of : ℕ → List ℕ → ℕ → List ℕ → Outcome
delete_of P b i out =
    and_then (lent_check_of P b)
    (refuse (not (is_leaf b)) Argument (refuse (not (ltb i (count_of b))) Argument (written true P out (remove_at i (entries_of true b)))))

-- its answer names what was removed beside the bytes written
abbrev pub deleted_answer : ℕ → List ℕ → ℕ → Outcome → Result Removed Breach
deleted_answer P b i (Ok es) = Ok (record { bytes = block_size true es P; leaf = leaf_of b i })
deleted_answer P b i (Err e) = Err e

-- ---- new nodes: an empty leaf, and a branch of one entry, whose page is not below 2
unfoldable pub new_leaf_of : ℕ → List ℕ → Outcome
new_leaf_of P out = refuse (not (size_allowed P)) Geometry (written true P out [])

unfoldable pub new_branch_of : ℕ → List ℕ → ℕ → List ℕ → Outcome
new_branch_of P key child out =
    refuse (not (size_allowed P)) Geometry (refuse (ltb child 2) Argument (written false P out (entry_with child key [] ∷ [])))

-- ---- insert in a leaf replaces at an equal key, else inserts in order
abbrev pub inserted_by : Ordering → Entry → Entry → List Entry → List Entry → List Entry
inserted_by Less e f es rest = f ∷ rest
inserted_by Equal e f es rest = e ∷ es
inserted_by Greater e f es rest = e ∷ f ∷ es

unfoldable pub inserted : Entry → List Entry → List Entry
inserted e [] = e ∷ []
inserted e (f ∷ es) = inserted_by (order_of f.key e.key) e f es (inserted e es)

-- a branch, a kind above 1 or a bucket value not of 16 bytes is refused as an argument
unfoldable pub insert_of : ℕ → List ℕ → List ℕ → ℕ → List ℕ → List ℕ → Outcome
insert_of P b key kind value out =
    and_then (lent_check_of P b)
    (refuse (not (is_leaf b)) Argument (refuse (kind_bad kind (length value)) Argument (written true P out (inserted (entry_with kind key value) (entries_of true b)))))

-- ---- insert_branch
-- whether a key is among the entries'
unfoldable pub present : List ℕ → List Entry → Bool
present key [] = false
present key (f ∷ es) = is_eq (order_of f.key key) || present key es

-- another entry in place of the one with the original key
unfoldable pub replaced : List ℕ → Entry → List Entry → List Entry
replaced original e [] = []
replaced original e (f ∷ es) = cond (is_eq (order_of f.key original)) (e ∷ es) (f ∷ replaced original e es)

-- whether each key is above the one before it
unfoldable pub in_order : List Entry → Bool
in_order [] = true
in_order (e ∷ []) = true
in_order (e ∷ f ∷ es) = is_lt (order_of e.key f.key) && in_order (f ∷ es)

-- with an original key, that key must be present, and its entry is replaced unless that breaks the order; with none, the own key must be absent: else a conflict
unfoldable pub replace_branch : ℕ → List ℕ → List ℕ → Entry → List Entry → Outcome
replace_branch P out original e es =
    refuse (not (present original es)) Conflict (refuse (not (in_order (replaced original e es))) Conflict (written false P out (replaced original e es)))

unfoldable pub add_branch : ℕ → List ℕ → Entry → List Entry → Outcome
add_branch P out e es = refuse (present e.key es) Conflict (written false P out (inserted e es))

abbrev pub branch_outcome : ℕ → List ℕ → Option (List ℕ) → Entry → List Entry → Outcome
branch_outcome P out (Some original) e es = replace_branch P out original e es
branch_outcome P out None e es = add_branch P out e es

-- a leaf, or a branch page number below 2, is refused as an argument
unfoldable pub insert_branch_of : ℕ → List ℕ → Option (List ℕ) → List ℕ → ℕ → List ℕ → Outcome
insert_branch_of P b original key child out =
    and_then (lent_check_of P b)
    (refuse (is_leaf b) Argument
    (refuse (ltb child 2) Argument
    (branch_outcome P out original (entry_with child key []) (entries_of false b))))
