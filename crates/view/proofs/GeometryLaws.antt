-- Geometry that is not refused is the sizes allowed, and a page number that is not refused is one of 2 to N - 1.
-- Assumes nothing.
use mathlib.Core.Path.{◌≡◌}
use mathlib.Core.Bool.{true, false}
use mathlib.Core.List.{List}
use Prim.Native.Nat.{ℕ, ◌*◌, ◌%◌, ◌≤◌, ◌<◌}
use borrow.Author.Tests.{le-leb, leb-true, ltb-true, eq-eqb, eqb-true, not-false}
use lib.Dec.{leb, ltb}
use lib.ListN.{length}
use Rattle.field.specs.Sizes.{size_allowed, count_allowed}
use Rattle.page.proofs.TestLaws.{and_both}
use Rattle.walk.specs.Tree.{inside}
use Rattle.view.specs.Geometry.{geometry_bad, SoundSizes}

pub inside_parts : (N q : ℕ) → inside N q ≡ true → (2 ≤ q) × (q < N)
inside_parts N q e = let a = and_both (leb 2 q) (ltb q N) e in (leb-true 2 q a.0, ltb-true q N a.1)

-- ---- geometry
module _ (image : List ℕ) (P N : ℕ) where
  pub geometry_sizes : geometry_bad image P N ≡ false → SoundSizes image P N
  unfolding geometry_bad
  geometry_sizes e =
      let a = and_both (size_allowed P) _ (not-false _ e) in
      let s = and_both (leb 1024 P) _ a.0 in
      let t = and_both (leb P 65536) _ s.1 in
      let c = and_both (count_allowed N) _ a.1 in
      let d = and_both (leb 2 N) _ c.0 in
      record {
        least_size = leb-true _ _ s.0;
        most_size = leb-true _ _ t.0;
        eights = eqb-true _ _ t.1;
        least_count = leb-true _ _ d.0;
        most_count = leb-true _ _ d.1;
        holds = leb-true _ _ c.1;
      }

  pub sizes_geometry : SoundSizes image P N → geometry_bad image P N ≡ false
  unfolding geometry_bad
  sizes_geometry s =
      rw (le-leb 1024 P s.least_size, le-leb P 65536 s.most_size, eq-eqb (P % 8) 0 s.eights, le-leb 2 N s.least_count, le-leb N 32768 s.most_count, le-leb (N * P) (length image) s.holds)
