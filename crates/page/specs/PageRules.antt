-- 01, "A sound page", as 02's order 2 amends it: rules 4 to 7, and the first breach in 01's order: by rule, and within a rule by element.
-- All sums are of natural numbers. Assumes nothing.
use Rattle.std.specs.Prelude.{◌≡◌, Bool, true, false, not, cond, ◌&&◌, ◌||◌, List, ℕ, zero, suc, ◌+◌, ◌-◌, ◌*◌, ◌%◌, ◌≤◌, ◌<◌, leb, ltb, eqb, length, take, drop, Ok, Err}
use Rattle.std.specs.declared.result.Result.{Result}
use Rattle.std.specs.declared.cmp.Ordering.TheVariants.{Less}
use Rattle.field.specs.Order.{order_of, common_of}
use Rattle.std.specs.Ordering.{is_lt}
use Rattle.field.specs.Sizes.{size_allowed}
use Rattle.field.specs.declared.refusal.Refusal.{Refusal}
use Rattle.field.specs.declared.refusal.Refusal.TheVariants.{Geometry, Header, Table, Element, KeyOrder}
use Rattle.page.specs.declared.breach.Breach.{Breach}
use Rattle.page.specs.Layout.{id_of, count_of, overflow_of, is_branch, is_leaf, kind_of, value_size, key_at, value_end, table_end, key_of}

-- ---- rule by rule

-- a breach, by its cause, the element and the length of a common beginning
abbrev pub breach : Refusal → ℕ → ℕ → Breach
breach refusal element common = record { refusal = refusal; element = element; common = common }

-- what a check answers
abbrev pub Verdict : Type 0
Verdict = Result Unit Breach

-- what comes after a check, which is tried only where the check found nothing: a later rule, or an answer
abbrev pub and_then : {A : Type 0} → Verdict → Result A Breach → Result A Breach
and_then (Ok u) answer = answer
and_then (Err b) answer = Err b

-- whether there is no breach
abbrev pub is_sound : Verdict → Bool
is_sound (Ok u) = true
is_sound (Err b) = false

-- an answer after a check: a breach refuses with its cause, element and common beginning, and else the answer stands
abbrev pub after_check : {A : Type 0} → Verdict → (Refusal → ℕ → ℕ → A) → A → A
after_check (Ok u) refused answer = answer
after_check (Err b) refused answer = refused b.refusal b.element b.common

-- a breach that names no element, where there is one
abbrev pub breach_if : Bool → Refusal → Verdict → Verdict
breach_if bad refusal v = cond bad (Err (breach refusal 0 0)) v

-- the first of the k elements from i on that is bad, as a breach with this cause, and with the common beginning that is told of the element
unfoldable pub first_bad : (ℕ → Bool) → (ℕ → ℕ) → Refusal → ℕ → ℕ → Verdict
first_bad bad common refusal zero i = Ok tt
first_bad bad common refusal (suc k) i = cond (bad i) (Err (breach refusal i (common i))) (first_bad bad common refusal k (i + 1))

-- 02, order 2: of a rule that compares no keys, 0
abbrev pub no_common : ℕ → ℕ
no_common i = 0

-- ---- rule 4, of page q of N, by the bytes that start with it: id differs, type not branch or leaf, or the block passes page N - 1
unfoldable pub header_bad : ℕ → ℕ → List ℕ → Bool
header_bad N q s = not (eqb (id_of s) q) || (not (is_branch s || is_leaf s) || leb N (q + overflow_of s))

-- the block of a page
unfoldable pub block_of : List ℕ → ℕ → ℕ → List ℕ
block_of image P q = take ((overflow_of (drop (q * P) image) + 1) * P) (drop (q * P) image)

-- ---- rule 5: count 0 where it is not allowed, or the element table passes the block
unfoldable pub table_bad : Bool → Bool → List ℕ → Bool
table_bad leaf empty_ok b = (eqb (count_of b) 0 && not empty_ok) || ltb (length b) (table_end leaf b)

-- ---- rule 6: key or value starting before the table's end or ending past the block, kind other than 0 or 1, bucket value not 16 bytes
-- the value starts where the key ends, so the key's start and the value's end are the two to look at
abbrev pub outside : ℕ → ℕ → ℕ → ℕ → Bool
outside from to start end = ltb start from || ltb to end

abbrev pub kind_bad : ℕ → ℕ → Bool
kind_bad kind size = not (eqb kind 0 || (eqb kind 1 && eqb size 16))

-- a branch's element has no kind
abbrev pub kind_bad_at : Bool → List ℕ → ℕ → Bool
kind_bad_at false b i = false
kind_bad_at true b i = kind_bad (kind_of b i) (value_size true b i)

unfoldable pub element_bad : Bool → List ℕ → ℕ → Bool
element_bad leaf b i = outside (table_end leaf b) (length b) (key_at leaf b i) (value_end leaf b i) || kind_bad_at leaf b i

-- ---- rule 7: a key not above the one before it
unfoldable pub key_bad : Bool → List ℕ → ℕ → Bool
key_bad leaf b i = not (is_lt (order_of (key_of leaf b (i - 1)) (key_of leaf b i)))

-- 02, order 2: its common beginning with the key before it
abbrev pub common_before : Bool → List ℕ → ℕ → ℕ
common_before leaf b i = common_of (key_of leaf b (i - 1)) (key_of leaf b i)

-- ---- rules 6 and 7 of the elements
abbrev pub elements_of : Bool → List ℕ → Verdict
elements_of leaf b = and_then (first_bad (element_bad leaf b) no_common Element (count_of b) 0) (first_bad (key_bad leaf b) (common_before leaf b) KeyOrder (count_of b - 1) 1)

-- ---- rules 5 to 7 of a block
unfoldable pub check_of : Bool → Bool → List ℕ → Verdict
check_of leaf empty_ok b = breach_if (table_bad leaf empty_ok b) Table (elements_of leaf b)

-- a block that keeps rules 5 to 7
pub record SoundBlock (leaf empty_ok : Bool) (b : List ℕ) : Type 0 where
  pub filled : count_of b ≡ 0 → empty_ok ≡ true
  pub fits : table_end leaf b ≤ length b
  pub after : (i : ℕ) → i < count_of b → table_end leaf b ≤ key_at leaf b i
  pub within : (i : ℕ) → i < count_of b → value_end leaf b i ≤ length b
  pub kinds : (i : ℕ) → i < count_of b → kind_bad_at leaf b i ≡ false
  pub rising : (i : ℕ) → i + 1 < count_of b → order_of (key_of leaf b i) (key_of leaf b (i + 1)) ≡ Less

-- ---- a lent single block, as an edit checks it: its length is a multiple of P and at least P, else 1;
-- type 1 or 2 and overflow agreeing with the length, else 3; then rules 5 to 7, an empty leaf allowed
abbrev pub length_bad : ℕ → List ℕ → Bool
length_bad P b = not (size_allowed P && (leb P (length b) && eqb (length b % P) 0))

abbrev pub lent_header_bad : ℕ → List ℕ → Bool
lent_header_bad P b = not ((is_branch b || is_leaf b) && eqb ((overflow_of b + 1) * P) (length b))

unfoldable pub lent_check_of : ℕ → List ℕ → Verdict
lent_check_of P b = breach_if (length_bad P b) Geometry (breach_if (lent_header_bad P b) Header (check_of (is_leaf b) (is_leaf b) b))
