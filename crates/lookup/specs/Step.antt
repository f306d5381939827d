-- One page of a lookup: down to a child, an answer, or a breach. The code goes page by page; `Lookup` says what the whole descent answers.
-- Assumes nothing.
use Rattle.std.specs.Prelude.{Ok, Err}
use Rattle.page.specs.PageRules.{breach}
use Rattle.walk.specs.Tree.{Key, View, bad, branch, leaf, Answer, refused, found, absent, child_for, seek_from}
use Rattle.view.specs.declared.Value.{Value}
use Rattle.lookup.specs.declared.descent.Step.TheVariants.{Down, Found, Absent}
use Rattle.lookup.specs.Descent.{Stepped}

-- what a leaf's entries say of a key
abbrev pub seek_step : Answer Value → Stepped
seek_step (found e page i) = Ok (Found e.value)
seek_step absent = Ok Absent
seek_step (refused refusal page element common) = Err (breach refusal element common)

unfoldable pub step_of : View Value → Key → Stepped
step_of (bad refusal element common) key = Err (breach refusal element common)
step_of (branch cs) key = Ok (Down (child_for cs key))
step_of (leaf es) key = seek_step (seek_from es key 0 0)
