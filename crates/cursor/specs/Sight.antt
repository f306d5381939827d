-- A page as a cursor meets it: refused, or a branch or a leaf with so many elements.
-- Assumes nothing.
use Rattle.std.specs.Prelude.{◌≡◌, false, List, ℕ, ◌*◌, ◌<◌, length, drop, Ok, Err}
use Rattle.std.specs.declared.result.Result.{Result}
use Rattle.page.specs.declared.breach.Breach.{Breach}
use Rattle.page.specs.PageRules.{breach, header_bad}
use Rattle.walk.specs.Tree.{View, bad, branch, leaf}
use Rattle.view.specs.Geometry.{SoundSizes}
use Rattle.view.specs.declared.Value.{Value}
use Rattle.cursor.specs.declared.sight.Sight.{Sight}
use Rattle.cursor.specs.declared.sight.Sight.TheVariants.{Branch, Leaf}

abbrev pub sight_of : View Value → Result Sight Breach
sight_of (bad refusal element common) = Err (breach refusal element common)
sight_of (branch cs) = Ok (Branch (length cs))
sight_of (leaf es) = Ok (Leaf (length es))

-- a page of an image of allowed sizes whose header is sound, so that its block lies within the image
pub record SoundPage (image : List ℕ) (P N q : ℕ) : Type 0 where
  pub sizes : SoundSizes image P N
  pub below_n : q < N
  pub header : header_bad N q (drop (q * P) image) ≡ false
