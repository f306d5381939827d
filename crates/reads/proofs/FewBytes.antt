-- The quick lookup looks at few bytes: at 16 pages at most, and of each at 25 bytes of its header, at no more than 25 and the key's length of each element that
-- halving comes by, and at 8 of one child.
-- Assumes nothing.
use mathlib.Core.Path.{◌≡◌, refl}
use mathlib.Core.Bool.{Bool, true, false, ◌&&◌}
use mathlib.Core.List.{List, [], ◌∷◌, ◌++◌}
use Prim.Native.Nat.{ℕ, zero, suc, ◌+◌, ◌*◌, ◌^◌, ◌≤◌, ◌<◌}
use native.Mathlib.Nat.{suc-mul, mul-le-mul, mul-le-mul_right}
use native.Mathlib.Omega.{arith}
use lib.ListN.{length, drop}
use Rattle.page.specs.Layout.{count_of, overflow_of, is_leaf, element_at}
use Rattle.page.specs.PageRules.{header_bad, table_bad, element_bad, block_of}
use Rattle.page.proofs.RuleLaws.{table_good}
use Rattle.walk.specs.Tree.{Key, inside}
use Rattle.view.specs.Geometry.{geometry_bad, SoundSizes}
use Rattle.view.proofs.GeometryLaws.{geometry_sizes}
use Rattle.view.proofs.ViewFrame.{header_ends, block_length}
use Rattle.lookup.specs.declared.descent.Step.TheVariants.{Down, Found, Absent}
use Rattle.lookup.specs.Descent.{Stepped}
use Rattle.quick.specs.Halving.{Halved, halves_of}
use Rattle.quick.specs.Quick.{page_says}
use Rattle.reads.specs.Reads.{looks_at, total, Counted, number_runs, key_runs, element_runs, child_runs, block_runs, page_runs, onward_runs, descent_runs, reads_of}
use Rattle.reads.proofs.RunLaws.{total-append}
use Rattle.reads.proofs.FewElements.{few_elements}
use Rattle.std.specs.Prelude.{Ok, Err}

-- ---- a block
number_bytes : (leaf : Bool) (start i : ℕ) → total (number_runs leaf start i) ≤ 25
unfolding total
number_bytes false start i = omega arith
number_bytes true start i = omega arith

key_bytes : (leaf : Bool) (start : ℕ) (b : List ℕ) (key : Key) (i : ℕ) → total (key_runs leaf start b key i) ≤ length key
unfolding total
key_bytes leaf start b key i = go (element_bad leaf b i) refl
  where
    go : (t : Bool) → element_bad leaf b i ≡ t → total (key_runs leaf start b key i) ≤ length key
    go true e = rw e (omega arith)
    go false e = rw e (omega arith)

element_bytes : (leaf : Bool) (start : ℕ) (b : List ℕ) (key : Key) (is : List ℕ)
    → total (element_runs leaf start b key is) ≤ length is * (25 + length key)
unfolding total element_runs
element_bytes leaf start b key [] = omega arith
element_bytes leaf start b key (i ∷ is) =
    let numbers = number_runs leaf start i in
    let bytes = key_runs leaf start b key i in
    let rest = element_runs leaf start b key is in
    omega (arith, total-append (numbers ++ bytes) rest, total-append numbers bytes, number_bytes leaf start i, key_bytes leaf start b key i, element_bytes leaf start b key is, suc-mul (length is) (25 + length key))

child_bytes : (leaf : Bool) (start : ℕ) (h : Halved) → total (child_runs leaf start h) ≤ 8
unfolding total
child_bytes false start (Ok place) = omega arith
child_bytes false start (Err i) = omega arith
child_bytes true start h = omega arith

module _ (key : Key) (k : ℕ) where
  block_bytes : (start : ℕ) (top : Bool) (b : List ℕ)
      → (table_bad (is_leaf b) (top && is_leaf b) b ≡ false → count_of b < 2 ^ k)
      → total (block_runs start top b key) ≤ k * (25 + length key) + 8
  unfolding total block_runs
  block_bytes start top b h = go (table_bad (is_leaf b) (top && is_leaf b) b) refl
    where
      go : (t : Bool) → table_bad (is_leaf b) (top && is_leaf b) b ≡ t → total (block_runs start top b key) ≤ k * (25 + length key) + 8
      go true e = rw e (omega arith)
      go false e =
          let leaf = is_leaf b in
          let is = looks_at leaf b key in
          let child = child_runs leaf start (halves_of leaf b key) in
          rw e
          (omega (
            arith,
            total-append (element_runs leaf start b key is) child,
            element_bytes leaf start b key is,
            mul-le-mul_right (25 + length key) (few_elements leaf b key k (h e)),
            child_bytes leaf start (halves_of leaf b key),
          ))

-- ---- pages and the descent

module _ (image : List ℕ) (P N : ℕ) (key : Key) (k : ℕ) where
  -- the bytes of one page
  abbrev most : ℕ
  most = 25 + k * (25 + length key) + 8

  counted_page : (q : ℕ) (top : Bool) → Counted image P N k q top → total (page_runs image P N key q top) ≤ most
  unfolding total page_runs
  counted_page q top h = go (header_bad N q (drop (q * P) image)) refl
    where
      go : (t : Bool) → header_bad N q (drop (q * P) image) ≡ t → total (page_runs image P N key q top) ≤ most
      go true e = rw e (omega arith)
      go false e = rw e (omega (arith, block_bytes key k (q * P) top (block_of image P q) (h e)))

  counted_descent : ((q : ℕ) (top : Bool) → Counted image P N k q top) → (d : ℕ) (top : Bool) (q : ℕ)
      → total (descent_runs image P N key d top q) ≤ d * most
  unfolding total descent_runs
  counted_descent h zero top q = omega arith
  counted_descent h (suc d) top q = go (counted_descent h d false) (inside N q) refl
    where
      onwards : ((child : ℕ) → total (descent_runs image P N key d false child) ≤ d * most) → (s : Stepped)
          → total (onward_runs (descent_runs image P N key d false) s) ≤ d * most
      onwards ih (Ok (Down child)) = ih child
      onwards ih (Ok (Found v)) = omega arith
      onwards ih (Ok Absent) = omega arith
      onwards ih (Err b) = omega arith

      go : ((child : ℕ) → total (descent_runs image P N key d false child) ≤ d * most) → (t : Bool) → inside N q ≡ t
          → total (descent_runs image P N key (suc d) top q) ≤ suc d * most
      go ih false e = rw e (omega arith)
      go ih true e =
          let s = page_says image P N key q top in
          let page = page_runs image P N key q top in
          rw e (omega (arith, total-append page (onward_runs (descent_runs image P N key d false) s), counted_page q top (h q top), onwards ih s, suc-mul d most))

  counted_reads : (root : ℕ) → (geometry_bad image P N ≡ false → (q : ℕ) (top : Bool) → Counted image P N k q top) → total (reads_of image P N root key) ≤ 16 * most
  unfolding total reads_of
  counted_reads root h = go (geometry_bad image P N) refl
    where
      go : (t : Bool) → geometry_bad image P N ≡ t → total (reads_of image P N root key) ≤ 16 * most
      go true e = rw e (omega arith)
      go false e = rw e (counted_descent (h e) 16 true root)

-- of a page whose block has fewer than 2 ^ k elements it looks at no more bytes than its header, k elements and a child have to show
pub page_bytes : (image : List ℕ) (P N : ℕ) (key : Key) (q : ℕ) (top : Bool) (k : ℕ) → count_of (block_of image P q) < 2 ^ k
    → total (page_runs image P N key q top) ≤ 25 + k * (25 + length key) + 8
page_bytes image P N key q top k h = counted_page image P N key k q top (λ e f. h)

-- where each page that rules 4 and 5 do not refuse has fewer than 2 ^ k elements, it looks at no more than 16 times that in all
pub few_bytes : (image : List ℕ) (P N root : ℕ) (key : Key) (k : ℕ) → ((q : ℕ) (top : Bool) → Counted image P N k q top)
    → total (reads_of image P N root key) ≤ 16 * (25 + k * (25 + length key) + 8)
few_bytes image P N root key k h = counted_reads image P N key k root (λ g. h)

-- an element takes up 24 bytes at least, and a block 2 ^ 31 at most
any_count : (image : List ℕ) (P N : ℕ) → SoundSizes image P N → (q : ℕ) (top : Bool) → Counted image P N 27 q top
any_count image P N s q top e f =
    let b = block_of image P q in
    let ends = header_ends N q (drop (q * P) image) e in
    let most : (overflow_of (drop (q * P) image) + 1) * P ≤ 32768 * 65536 = mul-le-mul {n₂ = 32768} (omega arith) s.most_size in
    omega (arith, block_length image P N q ends s.holds, (table_good (is_leaf b) (top && is_leaf b) b f).1, room (is_leaf b) (count_of b))
  where
    room : (leaf : Bool) (n : ℕ) → 24 * n ≤ element_at leaf n
    room false n = omega arith
    room true n = omega arith

-- the same of any image with 27 elements of each page, since a block that rules 4 and 5 do not refuse has fewer than 2 ^ 27
pub bytes_of_any : (image : List ℕ) (P N root : ℕ) (key : Key) → total (reads_of image P N root key) ≤ 16 * (25 + 27 * (25 + length key) + 8)
bytes_of_any image P N root key = counted_reads image P N key 27 root (λ g. any_count image P N (geometry_sizes image P N g))
