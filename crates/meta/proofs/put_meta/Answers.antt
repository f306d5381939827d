-- `meta::put_meta` meets its contract: eleven numbers, each put where the last one ended. Assumes nothing.
use Rattle.std.proofs.Common.{ℕ, length, refl, ap, ◌∙◌, arith}
use Rattle.field.specs.Field.{bytes_of}
use Rattle.field.specs.Run.{put_at}
use Rattle.field.proofs.RunLaws.{length-put, put_then}
use Rattle.meta.specs.Meta.{meta_bytes}
use Rattle.meta.proofs.put_meta.Goals as goal

pub returns : goal.returns
unfolding meta_bytes bytes_of
returns c =
    let o = c.args.page.now in
    let h = c.hash_of-hash.ensures in
    let e1 = c.put_u32.ensures in
    let e2 = put_then o 32 36 _ _ refl (omega arith) e1 c.put_u32-2.ensures in
    let e3 = put_then o 32 40 _ _ refl (omega arith) e2 c.put_u32-3.ensures in
    let e4 = put_then o 32 44 _ _ refl (omega arith) e3 c.put_u32-4.ensures in
    let e5 = put_then o 32 48 _ _ refl (omega arith) e4 c.put_u64.ensures in
    let e6 = put_then o 32 56 _ _ refl (omega arith) e5 c.put_u64-2.ensures in
    let e7 = put_then o 32 64 _ _ refl (omega arith) e6 c.put_u64-3.ensures in
    let e8 = put_then o 32 72 _ _ refl (omega arith) e7 c.put_u64-4.ensures in
    let e9 = put_then o 32 80 _ _ refl (omega arith) e8 c.put_u64-5.ensures in
    let e10 = put_then o 32 88 _ _ refl (omega arith) e9 c.put_u64-6.ensures in
    let last = c.put_u64-7.ensures ∙ ap (λ (x : ℕ). put_at c.put_u64-6.new.out 96 (bytes_of 8 x)) h in
    (h, put_then o 32 96 _ _ refl (omega arith) e10 last)

pub shape_of-page : goal.shape_of-page
unfolding meta_bytes bytes_of
shape_of-page c = ap length (returns c).1 ∙ length-put _ 32 _ c.requires
