-- 01, "A sound page, a sound image", as 02's orders 2 and 3 amend it: what the judge answers. The tree first, then the freelist page.
-- Assumes nothing.
use Rattle.std.specs.Prelude.{◌≡◌, Bool, true, not, cond, ◌||◌, List, [], ◌++◌, ℕ, ◌+◌, ◌-◌, ◌*◌, leb, ltb, eqb, length, drop, Ok, Err}
use Rattle.std.specs.declared.result.Result.{Result}
use Rattle.std.proofs.Math.Option.{Option, none, some}
use Rattle.field.specs.Field.{field}
use Rattle.field.specs.Refusal.{number_of}
use Rattle.field.specs.declared.refusal.Refusal.TheVariants.{Geometry, PageNumber, Header, Table, Element, KeyOrder, UsedTwice}
use Rattle.page.specs.Layout.{id_of, type_of, count_of, overflow_of}
use Rattle.page.specs.PageRules.{Verdict, and_then, breach_if, no_common, first_bad, block_of}
use Rattle.walk.specs.Tree.{pass, fault, walk, inside, memb, first_in, Verdict as Walk}
use Rattle.judge.specs.declared.Counts.{Counts}
use Rattle.view.specs.declared.Fault.{Fault}
use Rattle.view.specs.Fault.{fault_at}
use Rattle.view.specs.Geometry.{geometry_bad}
use Rattle.view.specs.View.{view_of, pages_at, pages_of}

-- the numbers of leaf entries and of pages reached
abbrev pub counts : ℕ → ℕ → Counts
counts entries pages = record { entries = entries; pages = pages }

-- what the judge answers: the counts, or the first breach
abbrev pub Judged : Type 0
Judged = Result Counts Fault

-- ---- the freelist page f, after a tree whose blocks have the pages vs

-- rule 4 with type 4 only: id differs, another type, or the block passes page N - 1
unfoldable pub free_header_bad : ℕ → ℕ → List ℕ → Bool
free_header_bad N f s = not (eqb (id_of s) f) || (not (eqb (type_of s) 4) || leb N (f + overflow_of s))

-- ids are u64 from 32
abbrev pub id_at : List ℕ → ℕ → ℕ
id_at b i = field 8 b (32 + 8 * i)

-- each id from 2 to N - 1
abbrev pub id_outside : ℕ → List ℕ → ℕ → Bool
id_outside N b i = not (inside N (id_at b i))

-- ids strictly rising
abbrev pub id_not_above : List ℕ → ℕ → Bool
id_not_above b i = not (ltb (id_at b (i - 1)) (id_at b i))

-- no id marked
abbrev pub id_marked : List ℕ → List ℕ → ℕ → Bool
id_marked marked b i = memb (id_at b i) marked

-- rule 5 with ids of 8 bytes, count 0 allowed; then the ids, each rule over all before the next; ids have no common beginning
unfoldable pub ids_of : ℕ → List ℕ → List ℕ → Verdict
ids_of N marked b =
    breach_if (ltb (length b) (32 + 8 * count_of b)) Table
    (and_then (first_bad (id_outside N b) no_common Element (count_of b) 0)
    (and_then (first_bad (id_not_above b) no_common KeyOrder (count_of b - 1) 1) (first_bad (id_marked marked b) no_common UsedTwice (count_of b) 0)))

-- the judge's answer, by the verdict on the ids
abbrev pub judged_of : Verdict → ℕ → ℕ → ℕ → Judged
judged_of (Ok u) f entries pages = Ok (counts entries pages)
judged_of (Err b) f entries pages = Err (fault_at b.refusal f b.element b.common)

-- rule 3, of a block's pages: the lowest that is marked already is named
abbrev pub refused_if_twice : Option ℕ → Judged → Judged
refused_if_twice none answer = answer
refused_if_twice (some page) answer = Err (fault_at UsedTwice page 0 0)

-- after a tree of so many leaf entries: rules 2 and 4, then 3 over all pages of the block, which are marked before the ids are tried
-- passing: the number of leaf entries, and of pages reached, the freelist block's included
unfoldable pub freelist_of : List ℕ → ℕ → ℕ → ℕ → ℕ → List ℕ → Judged
freelist_of image P N f entries vs =
    cond (not (inside N f)) (Err (fault_at PageNumber f 0 0))
    (cond (free_header_bad N f (drop (f * P) image)) (Err (fault_at Header f 0 0))
    (refused_if_twice (first_in (pages_at image P f) vs)
    (judged_of (ids_of N (pages_at image P f ++ vs) (block_of image P f)) f entries (length (pages_at image P f ++ vs)))))

-- ---- the whole image
abbrev pub after_tree : List ℕ → ℕ → ℕ → ℕ → Walk → Judged
after_tree image P N f (pass n vs) = freelist_of image P N f n vs
after_tree image P N f (fault refusal page element common) = Err (fault_at refusal page element common)

unfoldable pub judge_of : List ℕ → ℕ → ℕ → ℕ → ℕ → Judged
judge_of image P N root f =
    cond (geometry_bad image P N) (Err (fault_at Geometry 0 0 0))
    (after_tree image P N f (walk N (pages_of image P N) (view_of image P N) 16 true root [] none []))

-- the judge passes an image
pub record Passes (image : List ℕ) (P N root f : ℕ) : Type 0 where
  pub entries : ℕ
  pub pages : ℕ
  pub passed : judge_of image P N root f ≡ Ok (counts entries pages)

-- 01's number of the answer
abbrev pub judged_number : Judged → ℕ
judged_number (Ok c) = 0
judged_number (Err f) = number_of f.refusal
