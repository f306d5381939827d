-- 01, "Numbers given back": a refusal by its cause, page and element, and by 02's order 2 the length of a common beginning.
-- Assumes nothing.
use Rattle.std.specs.Prelude.{ℕ}
use Rattle.field.specs.declared.refusal.Refusal.{Refusal}
use Rattle.view.specs.declared.Fault.{Fault}

abbrev pub fault_at : Refusal → ℕ → ℕ → ℕ → Fault
fault_at refusal page element common = record { refusal = refusal; page = page; element = element; common = common }
