-- On a block that keeps rules 5 to 7, halving finds what the scan finds. While it goes on, the keys before low are lower than the one looked for, and those
-- from high on higher.
-- Assumes nothing.
use mathlib.Core.Path.{◌≡◌, refl, sym, ap}
use mathlib.Core.Bool.{Bool, false}
use mathlib.Core.List.{List}
use Prim.Native.Nat.{ℕ, ◌-◌, ◌≤◌, ◌<◌}
use native.Mathlib.Omega.{arith}
use Rattle.std.specs.declared.cmp.Ordering.TheVariants.{Less, Greater}
use Rattle.field.specs.Order.{order_of}
use Rattle.page.specs.Layout.{count_of, key_of}
use Rattle.page.specs.PageRules.{element_bad, SoundBlock}
use Rattle.page.specs.Search.{place_of}
use Rattle.page.proofs.RuleLaws.{good_element}
use Rattle.page.proofs.SearchLaws.{index_found, index_missing, before_equal, up_to_lower, from_higher_on}
use Rattle.quick.specs.Halving.{middle, halve, halves_of}
use Rattle.quick.proofs.PlaceLaws.{halve_by}
use Rattle.std.specs.Prelude.{Ok}

module _ (leaf empty_ok : Bool) (b : List ℕ) (sound : SoundBlock leaf empty_ok b) (key : List ℕ) where
  -- each element keeps rule 6
  good : (i : ℕ) → i < count_of b → element_bad leaf b i ≡ false
  good i l = good_element leaf b i (sound.after i l) (sound.within i l) (sound.kinds i l)

  -- the keys before low are lower, and those from high on higher
  abbrev Between : ℕ → ℕ → Type 0
  Between low high =
      (low ≤ high)
      × (high ≤ count_of b)
      × ((k : ℕ) → k < low → order_of (key_of leaf b k) key ≡ Less)
      × ((k : ℕ) → high ≤ k → k < count_of b → order_of (key_of leaf b k) key ≡ Greater)

  halve_scan : (turns low high : ℕ) → high - low ≤ turns → Between low high → halve leaf b key turns low high ≡ Ok (place_of leaf b key)
  halve_scan =
      halve_by leaf b key (λ n l h x. h - l ≤ n → Between l h → x ≡ Ok (place_of leaf b key))
      (λ n l h m e i.
      let s = m e in
      sym (ap Ok (index_missing leaf b key (count_of b) refl l i.2 (omega arith) (λ k q r. i.3 k (omega arith) r))))
      (λ n l h m u e i. absurd (let g = good (middle l h) (omega arith) in cc))
      (λ n l h m u r e i.
      let before = before_equal leaf empty_ok b sound key (middle l h) (omega arith) r in
      sym (ap Ok (index_found leaf b key (count_of b) refl (middle l h) before (omega arith) r)))
      (λ n l h x m r f e i. f (omega arith) (omega arith, i.1, up_to_lower leaf empty_ok b sound key (middle l h) (omega arith) r, i.3))
      (λ n l h x m r f e i. f (omega arith) (omega arith, omega arith, i.2, from_higher_on leaf empty_ok b sound key (middle l h) (omega arith) r))

  -- halving finds what the scan finds
  pub halves_scan : halves_of leaf b key ≡ Ok (place_of leaf b key)
  unfolding halves_of
  halves_scan = halve_scan (count_of b) 0 (count_of b) (omega arith) (omega arith, omega arith, λ k l. absurd (omega arith), λ k l m. absurd (omega arith))
