-- A descent from the root, by what each page says of a key: down to a child, an answer, or a breach.
-- Assumes nothing.
use Rattle.std.specs.Prelude.{Bool, false, cond, ℕ, zero, suc, Some, None, Ok, Err}
use Rattle.std.specs.declared.option.Option.{Option}
use Rattle.std.specs.declared.result.Result.{Result}
use Rattle.field.specs.declared.refusal.Refusal.TheVariants.{PageNumber, TooDeep}
use Rattle.page.specs.declared.breach.Breach.{Breach}
use Rattle.walk.specs.Tree.{inside}
use Rattle.view.specs.declared.Fault.{Fault}
use Rattle.view.specs.declared.Value.{Value}
use Rattle.view.specs.Fault.{fault_at}
use Rattle.lookup.specs.declared.descent.Step.{Step}
use Rattle.lookup.specs.declared.descent.Step.TheVariants.{Down, Found, Absent}

-- what a lookup answers: the entry with the key, that there is none, or a refusal
abbrev pub Looked : Type 0
Looked = Result (Option Value) Fault

-- what a page says of a key, or its first breach
abbrev pub Stepped : Type 0
Stepped = Result Step Breach

-- a breach that is met on page q, as a refusal
abbrev pub on_page : ℕ → Breach → Fault
on_page q b = fault_at b.refusal q b.element b.common

-- what is left to answer after page q
abbrev pub onward : (ℕ → Looked) → ℕ → Stepped → Looked
onward go q (Ok (Down child)) = go child
onward go q (Ok (Found v)) = Ok (Some v)
onward go q (Ok Absent) = Ok None
onward go q (Err b) = Err (on_page q b)

-- at most d levels from page q on, which is viewed as the root or not: rules 1 and 2, and then what the page says
unfoldable pub descend : ℕ → (ℕ → Bool → Stepped) → ℕ → Bool → ℕ → Looked
descend N says zero top q = Err (fault_at TooDeep q 0 0)
descend N says (suc d) top q = cond (inside N q) (onward (descend N says d false) q (says q top)) (Err (fault_at PageNumber q 0 0))
