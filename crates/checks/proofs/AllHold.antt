-- Theorem: every starred check of 01 holds of the definitions that the promises cite. All but the last two are computed; those, over a table of
-- 32,767 pages, follow from what is known of a new table.
-- Assumes nothing.
use mathlib.Core.Path.{◌≡◌, refl}
use Prim.Native.Nat.{ℕ, ◌≤◌}
use native.Mathlib.Omega.{arith}
use lib.ListN.{replicate}
use Rattle.std.specs.Prelude.{Ok, Err}
use Rattle.field.specs.declared.refusal.Refusal.TheVariants.{Full}
use Rattle.field.specs.Field.{field, bytes_of}
use Rattle.field.specs.Order.{order_of}
use Rattle.page.specs.Layout.{key_of}
use Rattle.page.specs.PageRules.{first_bad, table_bad, element_bad, key_bad, check_of, lent_check_of}
use Rattle.page.specs.Search.{scan_from, place_of, index_of}
use Rattle.pack.specs.Pack.{node_size, header, element, table, bodies, pack}
use Rattle.cuts.specs.Split.{cuts_from, cuts_of, pieces_from}
use Rattle.freelist.specs.Table.{bit, state_of}
use Rattle.freelist.specs.Pages.{pages_from, all, first}
use Rattle.freelist.specs.Freelist.{has_room, new_check, fault_of, request_fault, run, lowest, count_after, allocate_check, allocate_answer}
use Rattle.freelist.proofs.Conditions.{request_iff}
use Rattle.freelist.proofs.StateAfter.{new_all, new_passes}
use Rattle.freelist.proofs.HandedOut.{none_free_lem}
use Rattle.checks.specs.Checks.{some_free, three_free, none_free, checks, Hold}

-- ---- a table with none free
done : new_check (replicate 33792 0) ≡ Ok tt
unfolding new_check has_room
done = refl

no_run : (pages : ℕ) → 1 ≤ pages → lowest none_free 32767 pages ≡ 32767
no_run pages l =
    none_free_lem none_free 32767 pages (omega arith) l
    (λ q a b e. let u = new_all (replicate 33792 0) done q (omega arith) in let z : ◌≡◌ {A = ℕ} 0 1 = cc in omega arith)

asked : (bytes : ℕ) → 40 ≤ bytes → request_fault none_free 32767 1024 bytes ≡ Ok tt
asked bytes l = (request_iff none_free 32767 1024 bytes).1 (new_passes (replicate 33792 0) done 32767 refl, refl, l)

one_page : allocate_answer none_free 32767 1024 1024 ≡ Ok (record { start = 32767; count = 32768 })
unfolding allocate_answer allocate_check count_after
one_page = rw (asked 1024 (omega arith), no_run 1 (omega arith))

two_pages : allocate_answer none_free 32767 1024 2048 ≡ Err Full
unfolding allocate_answer allocate_check count_after
two_pages = rw (asked 2048 (omega arith), no_run 2 (omega arith))

-- ---- tables with some free
three_of_six : allocate_answer some_free 12 1024 3072 ≡ Ok (record { start = 7; count = 12 })
unfolding allocate_answer allocate_check count_after request_fault fault_of has_room lowest run first all pages_from state_of bit
three_of_six = refl

four_of_six : allocate_answer some_free 12 1024 4096 ≡ Ok (record { start = 12; count = 16 })
unfolding allocate_answer allocate_check count_after request_fault fault_of has_room lowest run first all pages_from state_of bit
four_of_six = refl

two_of_three : allocate_answer three_free 7 1024 2048 ≡ Ok (record { start = 4; count = 7 })
unfolding allocate_answer allocate_check count_after request_fault fault_of has_room lowest run first all pages_from state_of bit
two_of_three = refl

-- ---- all of them
pub all_hold : Hold checks
unfolding checks field bytes_of order_of key_of first_bad table_bad element_bad key_bad check_of lent_check_of scan_from place_of index_of node_size header element table bodies pack cuts_from cuts_of pieces_from
all_hold = (
  refl,
  (
    refl,
    (
      refl,
      (
        refl,
        (
          refl,
          (
            refl,
            (
              refl,
              (
                refl,
                (
                  refl,
                  (
                    refl,
                    (rw three_of_six, (rw four_of_six, (rw two_of_three, (rw one_page, (rw two_pages, tt))))),
                  ),
                ),
              ),
            ),
          ),
        ),
      ),
    ),
  ),
)
