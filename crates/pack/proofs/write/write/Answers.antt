-- `pack::write::write` meets its contract: the four writers leave the block. Assumes nothing.
use Prim.Native.Nat.{ℕ, ◌+◌, ◌-◌, ◌*◌, ◌≤◌}
use mathlib.Core.Path.{◌≡◌, refl, sym, ap, ◌∙◌}
use native.Mathlib.Omega.{arith}
use lib.ListN.{length}
use Rattle.std.specs.Prelude.{is_some}
use Rattle.std.specs.Int.{from_bool}
use Rattle.page.specs.Layout.{element_at}
use Rattle.field.specs.Sizes.{pages_needed}
use Rattle.pack.specs.Pack.{node_size, bodies}
use Rattle.pack.specs.Plan.{planned, count_in}
use Rattle.pack.proofs.PackLaws.{ceil_pages, pack_put}
use Rattle.pack.proofs.PlanLaws.{planned_length, planned_fits}
use Rattle.pack.proofs.write.write.Goals as goal
use Rattle.pack.proofs.write.write.Goals.{After-div_ceil-pages, After-from, After-element_at-d, After-write_table-end, Start}

-- of the place where the bodies end: the node's size is 8 more, the pages cover it, and they fit
record Room (s : Start) (end : ℕ) : Type 0 where
  node : end + 8 ≡ node_size s.args.leaf (planned s.args.leaf s.args.block.now s.args.plan s.args.key.now s.args.value.now)
  covered : end + 8 ≤ pages_needed (end + 8) s.args.p * s.args.p
  fits : pages_needed (end + 8) s.args.p * s.args.p ≤ length s.args.out.now

room : (s : Start) (end : ℕ)
    → end ≡ element_at s.args.leaf (count_in s.args.plan) + length (bodies (planned s.args.leaf s.args.block.now s.args.plan s.args.key.now s.args.value.now))
    → Room s end
room s end e =
    let a = s.args in
    let f = planned_fits a.leaf a.block.now a.plan a.key.now a.value.now a.p end (length a.out.now) s.requires.p_nonzero.0 e s.requires.p_nonzero.2 in
    record { node = f.0; covered = f.1; fits = f.2 }

-- one if there is a new entry
one : (t : After-from) → t.from.result ≡ from_bool (is_some t.args.plan.tag)
one t = t.from.ensures ∙ ap from_bool t.is_some.ensures

-- where the bodies start
abbrev S₀ : After-element_at-d → Start
S₀ t = (goal.at.After-element_at-d t).Start

start : (t : After-element_at-d) → t.element_at-d.result ≡ element_at (S₀ t).args.leaf (count_in (S₀ t).args.plan)
start t = rw (one (goal.at.After-element_at-d t).After-from) at t.element_at-d.ensures

pub write_table-end-requires : goal.write_table-end-requires
write_table-end-requires c =
    let s = S₀ (goal.at.write_table-end-requires c).After-element_at-d in
    let d = start (goal.at.write_table-end-requires c).After-element_at-d in
    let r = room s _ refl in
    record { sound_block = s.requires.sound_block; within = s.requires.within; plan_bound = (omega arith, omega arith) }

-- and where they end
abbrev S : After-write_table-end → Start
S t = (goal.at.After-write_table-end t).Start

ended : (t : After-write_table-end) → Room (S t) t.write_table-end.result
ended t = let d = start (goal.at.After-write_table-end t).After-element_at-d in room (S t) t.write_table-end.result (omega arith)

pub write_bodies-requires : goal.write_bodies-requires
write_bodies-requires c =
    let r = ended (goal.at.write_bodies-requires c).After-write_table-end in
    let l = c.write_table-end.ensures.0 in
    record { sound_block = c.requires.sound_block; within = c.requires.within; value_in_bounds = omega arith }

pub overflow_add-end : goal.overflow_add-end
overflow_add-end c = let r = ended (goal.at.overflow_add-end c).After-write_table-end in omega arith

-- the pages are those needed
needed : (t : After-div_ceil-pages) → t.div_ceil-pages.result ≡ pages_needed (t.write_table-end.result + 8) t.args.p
needed t = t.div_ceil-pages.ensures ∙ ceil_pages (t.write_table-end.result + 8) t.args.p t.requires.p_nonzero.0

-- so they cover the content, and fit
paged : (t : After-div_ceil-pages)
    → let size = t.div_ceil-pages.result * t.args.p in (t.write_table-end.result + 8 ≤ size) × (size ≤ length t.args.out.now)
paged t = let r = ended (goal.at.After-div_ceil-pages t).After-write_table-end in rw (needed t) (r.covered, r.fits)

pub overflow_mul-size : goal.overflow_mul-size
overflow_mul-size c = let w = paged (goal.at.overflow_mul-size c).After-div_ceil-pages in omega arith

pub clear-requires : goal.clear-requires
clear-requires c = let w = paged (goal.at.clear-requires c).After-div_ceil-pages in omega arith

pub put_header-requires : goal.put_header-requires
put_header-requires c =
    let r = ended (goal.at.put_header-requires c).After-write_table-end in
    omega arith

pub returns : goal.returns
returns c =
    let s = S (goal.at.returns c).After-write_table-end in
    let a = s.args in
    let es = planned a.leaf a.block.now a.plan a.key.now a.value.now in
    let r = ended (goal.at.returns c).After-write_table-end in
    let o = one (goal.at.returns c).After-from in
    let l = planned_length a.leaf a.block.now a.plan a.key.now a.value.now in
    pack_put a.leaf a.id es a.p a.out.now
    (a.plan.stop - a.plan.first + c.from.result + (a.plan.last - a.plan.resume)) c.element_at-d.result c.write_table-end.result c.div_ceil-pages.result
    (omega arith) (start (goal.at.returns c).After-element_at-d ∙ ap (element_at a.leaf) (sym l)) r.node
    (needed (goal.at.returns c).After-div_ceil-pages ∙ ap (λ (k : ℕ). pages_needed k a.p) r.node) s.requires.p_nonzero.0 s.requires.p_nonzero.2
    c.write_table-end.ensures.1 c.write_bodies.ensures c.clear.ensures c.put_header.ensures
