-- `field::run::clear` meets its contract: the part that it overwrites is the zeros put. Assumes nothing.
use native.Mathlib.Omega.{arith}
use mathlib.Core.Path.{◌≡◌, sym, ap, ◌∙◌}
use Prim.Native.Nat.{ℕ, ◌-◌}
use lib.ListN.{length, take, drop, replicate, length-drop}
use lib.Seq.{length-take-le}
use Rattle.field.specs.Run.{put_at}
use Rattle.field.proofs.RunLaws.{mid_put}
use Rattle.field.proofs.run.clear.Goals as goal

pub returns : goal.returns
returns c =
    let a = c.args in
    let e = c.fill.ensures in
    let o = a.out.now in
    let part : length (take (a.end - a.at) (drop a.at o)) ≡ a.end - a.at = length-take-le (a.end - a.at) (drop a.at o) (simp length-drop (omega arith)) in
    let zeros : c.fill.new.self ≡ replicate (a.end - a.at) 0 = e.after (λ y h. h) ∙ ap (λ (n : ℕ). replicate n 0) part in
    mid_put o _ a.at _ (rw e.len (sym part)) ∙ ap (put_at o a.at) zeros
