-- What reading and writing do where their tests pass, and that writing puts the 72 bytes or leaves the page as it was.
-- Assumes nothing.
use Rattle.std.proofs.Common.{◌≡◌, ℕ, ◌≤◌, ◌⊎◌, Bool, true, false, not, cond, List, length, get_or, sym, refl, inl, inr, ltb, eqb, Ok, Err, le-ltb, ltb-false, eq-eqb}
use Rattle.field.specs.Refusal.{on_ok}
use Rattle.field.specs.declared.refusal.Refusal.TheVariants.{Geometry, Header}
use Rattle.field.specs.Run.{put_at}
use Rattle.meta.specs.Meta.{meta_at, hash_of, read_of, meta_bytes, write_of, page_left}
use Rattle.meta.specs.declared.Meta.{Meta}

module _ (page : List ℕ) (m : Meta) where
  pub read_right : 104 ≤ length page → get_or page 8 0 ≡ 3 → m ≡ meta_at page → m.hash ≡ hash_of m → read_of page ≡ Ok m
  unfolding read_of
  read_right long type fields hash = simp (le-ltb _ _ long, eq-eqb _ _ type, sym fields, eq-eqb _ _ hash)

  pub write_right : 104 ≤ length page → get_or page 8 0 ≡ 3 → (write_of page m ≡ Ok (hash_of m)) × (page_left page m ≡ put_at page 32 (meta_bytes m))
  unfolding write_of page_left
  write_right long type = (simp (le-ltb _ _ long, eq-eqb _ _ type), simp (le-ltb _ _ long, eq-eqb _ _ type))

  pub left_or_put : (page_left page m ≡ page) ⊎ ((104 ≤ length page) × (page_left page m ≡ put_at page 32 (meta_bytes m)))
  unfolding write_of page_left
  left_or_put = go (ltb (length page) 104) refl (not (eqb (get_or page 8 0) 3))
    where
      left : Bool → Bool → List ℕ
      left short other = on_ok (cond short (Err Geometry) (cond other (Err Header) (Ok (hash_of m)))) (put_at page 32 (meta_bytes m)) page

      go : (short : Bool) → ltb (length page) 104 ≡ short → (other : Bool)
          → (left short other ≡ page) ⊎ ((104 ≤ length page) × (left short other ≡ put_at page 32 (meta_bytes m)))
      go true e other = inl refl
      go false e true = inl refl
      go false e false = inr (ltb-false _ _ e, refl)
