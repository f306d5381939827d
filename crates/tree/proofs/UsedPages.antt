-- In a sound tree every page reached has a sound header, so the pages of the blocks that a walk visits are those that lie in a block reached (`used_iff`),
-- and none lies in two (`one_block`).
-- Assumes nothing.
use mathlib.Core.Path.{◌≡◌}
use mathlib.Core.Bool.{true, false}
use mathlib.Core.List.{List, []}
use mathlib.Core.Logic.{◌↔◌}
use mathlib.Core.Option.{none}
use Prim.Native.Nat.{ℕ, ◌+◌, ◌*◌}
use native.Mathlib.Omega.{arith}
use lib.ListN.{drop}
use Rattle.field.specs.declared.refusal.Refusal.{Refusal}
use Rattle.page.specs.Layout.{overflow_of}
use Rattle.page.specs.PageRules.{header_bad}
use Rattle.walk.specs.Tree.{bad, memb, Used}
use Rattle.walk.specs.Sound.{Sound}
use Rattle.walk.proofs.SoundLaws.{below_way, way_one}
use Rattle.view.specs.View.{view_of, pages_at, pages_of}
use Rattle.view.proofs.PagesLaws.{pages_in, in_pages, view_header, pages_good}
use Rattle.tree.specs.Sound.{ReachedFrom, InBlock, UsedFrom}

-- the pages of a block, by its first and its last
pub block_iff : (image : List ℕ) (P q k : ℕ) → (memb k (pages_at image P q) ≡ true) ↔ InBlock image P q k
block_iff image P q k = (
  λ e. let r = pages_in q (overflow_of (drop (q * P) image) + 1) k e in let l = r.1 in (r.0, omega arith),
  λ x. let l = x.1 in in_pages q (overflow_of (drop (q * P) image) + 1) k x.0 (omega arith),
)

module _ (image : List ℕ) (P N root : ℕ) (sound : Sound (view_of image P N) (pages_of image P N) N 16 root true [] none) where
  pub reached_seen : (q : ℕ) (x : ReachedFrom image P N root q) (r : Refusal) (e c : ℕ) → view_of image P N q x.top ≡ bad r e c → ⊥
  reached_seen q x =
      let w = below_way (view_of image P N) [] none x.way in
      (sound.each w.0 q x.top w.1 w.2 w.3).seen

  pub reached_header : (q : ℕ) → ReachedFrom image P N root q → header_bad N q (drop (q * P) image) ≡ false
  reached_header q x = view_header image P N q x.top (reached_seen q x)

  pub used_iff : (k : ℕ) → Used (view_of image P N) (pages_of image P N) root true k ↔ UsedFrom image P N root k
  used_iff k = (
    λ u.
        let e = pages_good image P N u.page (reached_header u.page u.reached) in
        record { page = u.page; reached = u.reached; within = (block_iff image P u.page k).0 (rw e at u.within) },
    λ u.
        let e = pages_good image P N u.page (reached_header u.page u.reached) in
        record { page = u.page; reached = u.reached; within = rw e ((block_iff image P u.page k).1 u.within) },
  )

  -- no page is one of two blocks: two pages reached, of which each has it in its block, are one
  pub one_block : (k q r : ℕ) → ReachedFrom image P N root q → ReachedFrom image P N root r → InBlock image P q k → InBlock image P r k → q ≡ r
  one_block k q r x y a b =
      let v = below_way (view_of image P N) [] none x.way in
      let w = below_way (view_of image P N) [] none y.way in
      let e = pages_good image P N q (reached_header q x) in
      let f = pages_good image P N r (reached_header r y) in
      let o =
      sound.once k v.0 q x.top v.1 v.2 w.0 r y.top w.1 w.2 v.3 w.3
      (rw e ((block_iff image P q k).1 a)) (rw f ((block_iff image P r k).1 b)) in
      way_one (view_of image P N) v.3 (rw (← o) at w.3)
