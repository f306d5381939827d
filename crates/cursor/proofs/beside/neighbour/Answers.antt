use borrow.Author.Rules.{rules}
use mathlib.Core.Path.{◌≡◌, sym, ap, ◌∙◌}
use mathlib.Core.Bool.{true, false}
use Prim.Native.Nat.{ℕ, ◌+◌, ◌-◌, ◌<◌}
use native.Mathlib.Omega.{arith}
use lib.Dec.{eqb}
use lib.ListN.{length, get_or, drop}
use Rattle.page.specs.Layout.{count_of}
use Rattle.page.specs.PageRules.{block_of}
use Rattle.path.specs.Path.{step, end, neighbour}
use Rattle.view.specs.View.{view_of}
use Rattle.cursor.specs.Cursor.{path_of, moved_of}
use Rattle.cursor.specs.Working.{has_beside, page_at, turn_of}
use Rattle.cursor.proofs.BesideLaws.{nothing_over}
use Rattle.cursor.proofs.LevelLaws.{level_page, level_turn, none_here, some_here}
use Rattle.cursor.proofs.beside.neighbour.Goals as goal
use Rattle.cursor.proofs.beside.neighbour.Goals.{In-loop-k, Start}

sixteen : (s : Start) → length s.args.c.steps ≡ 16
sixteen s = search rules

pub loop-k-init : goal.loop-k-init
loop-k-init c =
    let a = c.args in
    nothing_over a.n (view_of a.image.now a.p a.n) a.way (16 - a.c.length) (eqb a.c.length 0) (page_at a.c a.c.length) a.c.steps a.c.length
    (let e = sixteen (goal.at.loop-k-init c).Start in let f = c.requires.1 in omega arith)

below-16 : (c : In-loop-k) → c.loop-k.k - 1 < c.args.c.length
below-16 c = omega arith

pub count_at-count-requires : goal.count_at-count-requires
count_at-count-requires c =
    let a = c.args in
    (level_page a.image.now a.p a.n c.requires.0 a.c (sixteen (goal.at.count_at-count-requires c).Start) c.requires.1 c.requires.2 (c.loop-k.k - 1) (below-16 (goal.at.count_at-count-requires c).In-loop-k)).0

pub has_beside-requires : goal.has_beside-requires
has_beside-requires c =
    let a = c.args in
    rw c.count_at-count.ensures
    (level_page a.image.now a.p a.n c.requires.0 a.c (sixteen (goal.at.has_beside-requires c).Start) c.requires.1 c.requires.2 (c.loop-k.k - 1) (below-16 (goal.at.has_beside-requires c).In-loop-k)).1

pub beside-i-requires : goal.beside-i-requires
beside-i-requires c =
    let a = c.args in (
      rw c.count_at-count.ensures
          (level_page a.image.now a.p a.n c.requires.0 a.c (sixteen (goal.at.beside-i-requires c).Start) c.requires.1 c.requires.2 (c.loop-k.k - 1) (below-16 (goal.at.beside-i-requires c).In-loop-k)).1,
      sym c.has_beside.ensures ∙ c.if-has_beside.true,
    )

pub turn-requires : goal.turn-requires
turn-requires c =
    let a = c.args in
    let j = rw c.count_at-count.ensures at c.beside-i.ensures.1 in
    (c.requires.0, below-16 (goal.at.turn-requires c).In-loop-k, c.requires.1, level_turn a.image.now a.p a.n c.requires.0 a.c (sixteen (goal.at.turn-requires c).Start) c.requires.1 c.requires.2 (c.loop-k.k - 1) c.beside-i.result (below-16 (goal.at.turn-requires c).In-loop-k) j)

-- nothing beside on the level after this one
after : (c : In-loop-k)
    → let a = c.args in
    neighbour a.n (view_of a.image.now a.p a.n) a.way (16 - (c.loop-k.k - 1 + 1)) (eqb (c.loop-k.k - 1 + 1) 0) (page_at a.c (c.loop-k.k - 1 + 1)) (drop (c.loop-k.k - 1 + 1) (path_of a.c))
    ≡ end
after c = let e : c.loop-k.k - 1 + 1 ≡ c.loop-k.k = omega arith in rw e c.loop-k.invariant

pub returns-then-has_beside : goal.returns-then-has_beside
returns-then-has_beside c =
    let a = c.args in
    let i = c.beside-i.ensures.0 in
    let h : has_beside a.way (count_of (block_of a.image.now a.p (page_at a.c (c.loop-k.k - 1)))) (get_or a.c.steps (c.loop-k.k - 1) (step 0 0)).index ≡ true =
    rw c.count_at-count.ensures at (sym c.has_beside.ensures ∙ c.if-has_beside.true) in
    let j = rw (c.count_at-count.ensures, i) at c.beside-i.ensures.1 in
    c.turn.ensures
    ∙ ap (λ (x : ℕ). moved_of a.given (turn_of a.image.now a.p a.n a.way a.c (c.loop-k.k - 1) x)) i
    ∙ sym (ap (moved_of a.given) (some_here a.image.now a.p a.n c.requires.0 a.c (sixteen (goal.at.returns-then-has_beside c).Start) c.requires.1 c.requires.2 a.way (c.loop-k.k - 1) (below-16 (goal.at.returns-then-has_beside c).In-loop-k) (after (goal.at.returns-then-has_beside c).In-loop-k) h j))

pub loop-k-preserved : goal.loop-k-preserved
loop-k-preserved c =
    let a = c.args in
    let h : has_beside a.way (count_of (block_of a.image.now a.p (page_at a.c (c.loop-k.k - 1)))) (get_or a.c.steps (c.loop-k.k - 1) (step 0 0)).index ≡ false =
    rw c.count_at-count.ensures at (sym c.has_beside.ensures ∙ c.if-has_beside.false) in
    (none_here a.image.now a.p a.n c.requires.0 a.c (sixteen (goal.at.loop-k-preserved c).Start) c.requires.1 c.requires.2 a.way (c.loop-k.k - 1) (below-16 (goal.at.loop-k-preserved c).In-loop-k) (after (goal.at.loop-k-preserved c).In-loop-k) h)
