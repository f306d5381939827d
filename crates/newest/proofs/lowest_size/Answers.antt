-- `newest::lowest_size` meets its contract: it finds among the allowed sizes, the lowest first. Assumes nothing.
use Rattle.std.proofs.Common.{ℕ, ◌+◌, ◌*◌, sym, refl, ◌∙◌, rules, tests}
use Rattle.std.proofs.lemmas.Iterator.{YieldsList-from_range, YieldsList-from_map}
use Rattle.std.proofs.lemmas.Iterator.Search.{find_from_yields_List}
use Rattle.std.proofs.lemmas.Iterator.Adapters.{option_map_id}
use Rattle.newest.specs.Newest.{names_itself}
use Rattle.newest.proofs.SizeLaws.{sizes_in_turn}
use Rattle.newest.proofs.lowest_size.Goals as goal

pub returns : goal.returns
returns c =
    let image = c.args.image.now in
    let found = find_from_yields_List (names_itself image) _ _ c.find.result c.find.ensures.ran
    (YieldsList-from_map _ (λ (k : ℕ). 1024 + 8 * k) (YieldsList-from_range 0 8065 8065 c.map.ensures.source refl) c.map.ensures.closure (λ x r q k. search rules))
    (λ x b q k. search (rules, tests)) in
    sym (option_map_id c.find.result) ∙ found ∙ sizes_in_turn image 8065 0
