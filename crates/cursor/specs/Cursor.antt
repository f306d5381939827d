-- 02, order 1: what the cursor's calls answer.
-- Assumes nothing.
use Rattle.std.specs.Prelude.{Bool, true, cond, ◌||◌, List, [], ◌++◌, ℕ, ◌+◌, ◌-◌, ltb, eqb, length, take, replicate, Some, None, Ok, Err}
use Rattle.field.specs.declared.refusal.Refusal.TheVariants.{Geometry}
use Rattle.walk.specs.Tree.{Key, Item}
use Rattle.path.specs.declared.Direction.{Direction}
use Rattle.path.specs.declared.Direction.TheVariants.{Back}
use Rattle.path.specs.declared.Step.{Step}
use Rattle.path.specs.declared.Cursor.{Cursor}
use Rattle.path.specs.Path.{step, Move, at, end, refused, lacking, outer, seek, move}
use Rattle.path.specs.Lists.{until}
use Rattle.view.specs.declared.Value.{Value}
use Rattle.view.specs.Fault.{fault_at}
use Rattle.view.specs.Geometry.{geometry_bad}
use Rattle.view.specs.View.{view_of}
use Rattle.cursor.specs.declared.Entry.{Entry}
use Rattle.cursor.specs.declared.Moved.{Moved}

-- where an entry's key and value lie in the image; the value follows the key
abbrev pub entry_of : Item Value → Entry
entry_of e =
    record { kind = e.value.kind; key = e.value.place - length e.key; value = e.value.place; end = e.value.place + e.value.length }

-- ---- a cursor and its path: steps past the length are zero in one that a call makes, and are not read in one that is lent
abbrev pub cursor_of : List Step → Cursor
cursor_of path = record { steps = path ++ replicate (16 - length path) (step 0 0); length = length path }

abbrev pub no_steps : Cursor
no_steps = cursor_of []

abbrev pub path_of : Cursor → List Step
path_of c = take c.length c.steps

-- ---- what a move answers: at an entry, a cursor there; otherwise the one that was given
abbrev pub moved_of : Cursor → Move Value → Moved
moved_of given (at path e) = record { cursor = cursor_of path; stand = Ok (Some (entry_of e)) }
moved_of given end = record { cursor = given; stand = Ok None }
moved_of given (refused refusal page element common) = record { cursor = given; stand = Err (fault_at refusal page element common) }

-- geometry first
abbrev pub on_image : List ℕ → ℕ → ℕ → Move Value → Move Value
on_image image P N m = cond (geometry_bad image P N) (refused Geometry 0 0 0) m

-- a lent cursor of no steps, or of more than there are levels, is 11
abbrev pub length_bad : Cursor → Bool
length_bad c = eqb c.length 0 || ltb 16 c.length

-- ---- the calls. `seek` and `last` have no cursor given: theirs is one of no steps
unfoldable pub seek_of : List ℕ → ℕ → ℕ → ℕ → Key → Moved
seek_of image P N root key = moved_of no_steps (on_image image P N (seek N (view_of image P N) key 16 true root))

unfoldable pub last_of : List ℕ → ℕ → ℕ → ℕ → Moved
last_of image P N root = moved_of no_steps (on_image image P N (outer N (view_of image P N) Back 16 true root))

-- `next` and `previous`
abbrev pub move_from : List ℕ → ℕ → ℕ → ℕ → Direction → Cursor → Move Value
move_from image P N root way c = on_image image P N (cond (length_bad c) lacking (move N (view_of image P N) way 16 true root (path_of c)))

unfoldable pub move_of : List ℕ → ℕ → ℕ → ℕ → Direction → Cursor → Moved
move_of image P N root way c = moved_of c (move_from image P N root way c)

-- the same in a range: an entry that is not below `to` ends it
unfoldable pub seek_range_of : List ℕ → ℕ → ℕ → ℕ → Key → Key → Moved
seek_range_of image P N root from to = moved_of no_steps (until to (on_image image P N (seek N (view_of image P N) from 16 true root)))

unfoldable pub move_range_of : List ℕ → ℕ → ℕ → ℕ → Direction → Key → Cursor → Moved
move_range_of image P N root way to c = moved_of c (until to (move_from image P N root way c))
