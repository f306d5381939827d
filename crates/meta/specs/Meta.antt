-- The meta of a page (01, Meta): 72 bytes from page offset 32 on, each number with its lowest byte first, and a hash over the fields before it.
-- Assumes nothing.
use Rattle.std.specs.Prelude.{ℕ, ◌+◌, ◌^◌, ◌<◌, cond, not, List, [], ◌∷◌, ◌++◌, length, replicate, ◌==◌, nat_lt, slice_index, Result, Ok, Err}
use Rattle.field.specs.Field.{field, bytes_of, big_bytes_of}
use Rattle.field.specs.Refusal.{number_of, on_ok}
use Rattle.field.specs.declared.refusal.Refusal.{Refusal}
use Rattle.field.specs.declared.refusal.Refusal.TheVariants.{Geometry, Header, Hash}
use Rattle.field.specs.Run.{put_at}
use Rattle.meta.specs.Fnv.{fnv1a_of}
use Rattle.meta.specs.declared.Meta.{Meta}

-- the fields that stand at page offset 32
unfoldable pub meta_at : List ℕ → Meta
meta_at page = record {
  meta_page = field 4 page 32;
  magic = field 4 page (32 + 4);
  version = field 4 page (32 + 8);
  pagesize = field 8 page (32 + 16);
  root_page = field 8 page (32 + 24);
  next_int = field 8 page (32 + 32);
  num_pages = field 8 page (32 + 40);
  freelist_page = field 8 page (32 + 48);
  tx_id = field 8 page (32 + 56);
  hash = field 8 page (32 + 64);
}

-- the nine fields before the hash, each with its highest byte first: 60 bytes
unfoldable pub hash_input : Meta → List ℕ
hash_input m =
    big_bytes_of 4 m.meta_page
    ++ big_bytes_of 4 m.magic
    ++ big_bytes_of 4 m.version
    ++ big_bytes_of 8 m.pagesize
    ++ big_bytes_of 8 m.root_page
    ++ big_bytes_of 8 m.next_int
    ++ big_bytes_of 8 m.num_pages
    ++ big_bytes_of 8 m.freelist_page
    ++ big_bytes_of 8 m.tx_id

-- the hash of the nine fields
abbrev pub hash_of : Meta → ℕ
hash_of m = fnv1a_of (hash_input m)

-- reading: 1 for fewer than 104 bytes lent, 3 for a type that is not 3, 13 for a wrong hash; else the fields
unfoldable pub read_of : List ℕ → Result Meta Refusal
read_of page =
    cond (nat_lt (length page) 104) (Err Geometry)
    (cond (not (slice_index page 8 == 3)) (Err Header)
    (cond (not ((meta_at page).hash == hash_of (meta_at page))) (Err Hash)
    (Ok (meta_at page))))

-- what is written from offset 32 on: the fields, the padding zero, and the hash of the fields: 72 bytes
unfoldable pub meta_bytes : Meta → List ℕ
meta_bytes m =
    bytes_of 4 m.meta_page
    ++ bytes_of 4 m.magic
    ++ bytes_of 4 m.version
    ++ replicate 4 0
    ++ bytes_of 8 m.pagesize
    ++ bytes_of 8 m.root_page
    ++ bytes_of 8 m.next_int
    ++ bytes_of 8 m.num_pages
    ++ bytes_of 8 m.freelist_page
    ++ bytes_of 8 m.tx_id
    ++ bytes_of 8 (hash_of m)

-- writing: 1 and 3 as in reading; else the hash that is written
unfoldable pub write_of : List ℕ → Meta → Result ℕ Refusal
write_of page m =
    cond (nat_lt (length page) 104) (Err Geometry)
    (cond (not (slice_index page 8 == 3)) (Err Header)
    (Ok (hash_of m)))

-- the page after writing: the 72 bytes stand at offset 32; refused, it is as it was
unfoldable pub page_left : List ℕ → Meta → List ℕ
page_left page m = on_ok (write_of page m) (put_at page 32 (meta_bytes m)) page

-- ---- what the theorems on reading back speak of

-- the meta, with the hash of its nine fields
unfoldable pub with_hash : Meta → Meta
with_hash m = record {
  meta_page = m.meta_page;
  magic = m.magic;
  version = m.version;
  pagesize = m.pagesize;
  root_page = m.root_page;
  next_int = m.next_int;
  num_pages = m.num_pages;
  freelist_page = m.freelist_page;
  tx_id = m.tx_id;
  hash = hash_of m;
}

-- the meta of nine fields, whose own hash is not looked at
abbrev pub meta_of : ℕ → ℕ → ℕ → ℕ → ℕ → ℕ → ℕ → ℕ → ℕ → Meta
meta_of page magic version size root next count free tx = record {
  meta_page = page;
  magic = magic;
  version = version;
  pagesize = size;
  root_page = root;
  next_int = next;
  num_pages = count;
  freelist_page = free;
  tx_id = tx;
  hash = 0;
}

-- the nine fields are in the ranges of their types
pub record InRange (m : Meta) : Type 0 where
  pub meta_page : m.meta_page < 2 ^ 32
  pub magic : m.magic < 2 ^ 32
  pub version : m.version < 2 ^ 32
  pub pagesize : m.pagesize < 2 ^ 64
  pub root_page : m.root_page < 2 ^ 64
  pub next_int : m.next_int < 2 ^ 64
  pub num_pages : m.num_pages < 2 ^ 64
  pub freelist_page : m.freelist_page < 2 ^ 64
  pub tx_id : m.tx_id < 2 ^ 64

-- 01's number of an answer, and its values; a refusal has none. Reading: the ten fields in their order
abbrev pub meta_read_fields : Result Meta Refusal → List ℕ
meta_read_fields (Ok m) =
    0
    ∷ m.meta_page
    ∷ m.magic
    ∷ m.version
    ∷ m.pagesize
    ∷ m.root_page
    ∷ m.next_int
    ∷ m.num_pages
    ∷ m.freelist_page
    ∷ m.tx_id
    ∷ m.hash
    ∷ []
meta_read_fields (Err refusal) = number_of refusal ∷ replicate 10 0

-- the number, and the hash
abbrev pub meta_written_fields : Result ℕ Refusal → List ℕ
meta_written_fields (Ok hash) = 0 ∷ hash ∷ []
meta_written_fields (Err refusal) = number_of refusal ∷ 0 ∷ []
