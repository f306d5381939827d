-- Writing at a frontier: a run of bytes put into a list.
-- Assumes nothing.
use Rattle.std.specs.Prelude.{List, ◌++◌, ℕ, ◌+◌, length, take, drop}

-- o, with the bytes from `at` on replaced by those of the run
unfoldable pub put_at : List ℕ → ℕ → List ℕ → List ℕ
put_at o at run = take at o ++ run ++ drop (at + length run) o
