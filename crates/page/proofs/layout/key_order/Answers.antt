-- `page::layout::key_order` meets its contract: what compares is the element's key. Assumes nothing.
use Prim.Native.Nat.{ℕ}
use mathlib.Core.Path.{ap, ◌∙◌}
use mathlib.Core.List.{List}
use Rattle.field.specs.Order.{order_of}
use Rattle.page.proofs.layout.key_order.Goals as goal

pub returns : goal.returns
returns c = c.order_of.ensures ∙ ap (λ (k : List ℕ). order_of k c.args.other.now) c.key.ensures
