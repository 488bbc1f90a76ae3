-- The place of an address in the table, by the engine's list of the 39.
-- Assumes nothing.
use Rattle.std.specs.Prelude.{Option, Some, None}
use Rattle.std.proofs.Common.{◌≡◌, ℕ, true, false, cond, refl, sym, ◌∙◌, ap}
use Rattle.rows.specs.Table.{place_of, is_at}
use Rattle.engine.specs.Addresses.{place, is_stored}
use Rattle.engine.proofs.Addressed.{stored_is, place_is}

pub placed : (a : ℕ) → place_of a ≡ cond (is_stored a) (Some (place a)) None
placed a = go (place_of a) refl
  where
    go : (p : Option ℕ) → place_of a ≡ p → p ≡ cond (is_stored a) (Some (place a)) None
    go (Some i) e = let s : is_stored a ≡ true = sym (stored_is a) ∙ ap is_at e in let q : place a ≡ i = place_is a e in rw (s, q)
    go None e = let s : is_stored a ≡ false = sym (stored_is a) ∙ ap is_at e in rw s
