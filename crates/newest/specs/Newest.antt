-- The newest meta of an image (the crate's `DB::meta`, without the metas of files before 0.11): with the page size given or found, the newer of the
-- two meta pages that count.
-- Assumes nothing.
use Rattle.std.specs.Prelude.{Bool, cond, List, [], ◌∷◌, ℕ, zero, suc, ◌+◌, ◌*◌, ltb, eqb, length, drop, replicate, Option, Some, None, Result, Ok, Err, is_ok, unwrap_or}
use Rattle.std.specs.Option.{option_or}
use Rattle.field.specs.Refusal.{number_of}
use Rattle.field.specs.Sizes.{size_allowed}
use Rattle.field.specs.declared.refusal.Refusal.{Refusal}
use Rattle.field.specs.declared.refusal.Refusal.TheVariants.{Geometry, Argument}
use Rattle.meta.specs.Meta.{read_of}
use Rattle.meta.specs.declared.Meta.{Meta}
use Rattle.newest.specs.declared.Newest.{Newest}

-- ---- with the page size known

-- a page counts at the page size P if it reads and names P; where it names another it is 11
abbrev pub counts : ℕ → Result Meta Refusal → Result Meta Refusal
counts P (Ok m) = cond (eqb m.pagesize P) (Ok m) (Err Argument)
counts P (Err refusal) = Err refusal

-- both count: the one with the greater tx_id, the second at a tie; one: that; none: the refusal of page 0
abbrev pub newer : Result Meta Refusal → Result Meta Refusal → Result Newest Refusal
newer (Ok first) (Ok second) = cond (ltb second.tx_id first.tx_id) (Ok (record { page = 0; meta = first })) (Ok (record { page = 1; meta = second }))
newer (Ok first) (Err refusal) = Ok (record { page = 0; meta = first })
newer (Err refusal) (Ok second) = Ok (record { page = 1; meta = second })
newer (Err refusal) (Err other) = Err refusal

-- an image shorter than two pages is 1; else the newer of the meta pages at byte 0 and at byte P
unfoldable pub newest_at : List ℕ → ℕ → Result Newest Refusal
newest_at image P = cond (ltb (length image) (2 * P)) (Err Geometry) (newer (counts P (read_of image)) (counts P (read_of (drop P image))))

-- ---- the page size found

-- the page size that a meta names, if that is allowed
abbrev pub own_size : Result Meta Refusal → Option ℕ
own_size (Ok m) = cond (size_allowed m.pagesize) (Some m.pagesize) None
own_size (Err refusal) = None

-- the meta at byte P names P
unfoldable pub names_itself : List ℕ → ℕ → Bool
names_itself image P = is_ok (counts P (read_of (drop P image)))

-- the lowest of `left` sizes, from P on in steps of 8, whose meta names it
unfoldable pub lowest_size : List ℕ → ℕ → ℕ → Option ℕ
lowest_size image zero P = None
lowest_size image (suc left) P = cond (names_itself image P) (Some P) (lowest_size image left (P + 8))

-- page 0's own, and else the lowest of the 8,065 allowed ones, 1,024 to 65,536
unfoldable pub size_found : List ℕ → Option ℕ
size_found image = option_or (own_size (read_of image)) (lowest_size image 8065 1024)

-- page 0's refusal where no page size is found: 11 where it reads
abbrev pub no_size : Result Meta Refusal → Refusal
no_size (Ok m) = Argument
no_size (Err refusal) = refusal

-- ---- the newest meta

-- at the page size that is found
abbrev pub newest_found : List ℕ → Option ℕ → Result Newest Refusal
newest_found image (Some P) = newest_at image P
newest_found image None = Err (no_size (read_of image))

-- a page size of 0 is found; one that is given and not allowed is 1
unfoldable pub newest_of : List ℕ → ℕ → Result Newest Refusal
newest_of image p =
    cond (eqb p 0)
    (newest_found image (size_found image))
    (cond (size_allowed p) (newest_at image p) (Err Geometry))

-- the page size used: the one that is given, or with 0 the one that is found, and 0 where there is none
unfoldable pub size_used : List ℕ → ℕ → ℕ
size_used image p = cond (eqb p 0) (unwrap_or (size_found image) 0) p

-- the number of an answer, and its fields: the page that the meta was taken from, pagesize, root_page, next_int, num_pages, freelist_page, tx_id
abbrev pub newest_fields : Result Newest Refusal → List ℕ
newest_fields (Ok newest) =
    0
    ∷ newest.page
    ∷ newest.meta.pagesize
    ∷ newest.meta.root_page
    ∷ newest.meta.next_int
    ∷ newest.meta.num_pages
    ∷ newest.meta.freelist_page
    ∷ newest.meta.tx_id
    ∷ []
newest_fields (Err refusal) = number_of refusal ∷ replicate 7 0
