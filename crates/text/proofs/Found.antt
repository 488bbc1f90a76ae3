-- What a search along a text finds, the place of the first byte that is looked for; and the rest of a text from a place on.
-- Assumes nothing.
use Rattle.std.specs.Prelude.{position, Option, Some, None}
use Rattle.std.specs.Option.{unwrap_or}
use Rattle.std.specs.Slice.{IsGetRangeResult}
use Rattle.std.specs.List.{position_or_len}
use Rattle.std.proofs.lemmas.List.Sums.{prefix_len-le-length}
use Prim.Native.Nat.{ℕ, ◌-◌, ◌<◌, ◌≤◌}
use mathlib.Core.Path.{◌≡◌, refl, ◌∙◌}
use mathlib.Core.Logic.{inl, inr}
use mathlib.Core.Bool.{Bool, true, false, not, cond}
use mathlib.Core.List.{List, []}
use native.Mathlib.Omega.{arith}
use borrow.Author.Tests.{ltb-true, ltb-false}
use denote.Ref.{Bor}
use lib.Dec.{ltb}
use lib.ListN.{length, drop, length-drop, drop_of_length-le}
use lib.Seq.{take_all}

module _ (p : ℕ → Bool) (xs : List ℕ) where
  abbrev place : ℕ
  place = position_or_len p xs

  within : place ≤ length xs
  within = prefix_len-le-length (λ x. not (p x)) xs

  pub found : {n : ℕ} → position p xs ≡ Some n → (n ≡ position_or_len p xs) × (n < length xs)
  found {n} e = go (ltb place (length xs)) refl e
    where
      go : (b : Bool) → ltb place (length xs) ≡ b → cond b (Some place) None ≡ Some n → (n ≡ place) × (n < length xs)
      go true h e = let q : n ≡ place = cc in let k = ltb-true place (length xs) h in (q, omega arith)
      go false h e = let q : ◌≡◌ {A = ℕ} 0 1 = cc in absurd (omega arith)

  pub not_found : position p xs ≡ None → length xs ≤ position_or_len p xs
  not_found e = go (ltb place (length xs)) refl e
    where
      go : (b : Bool) → ltb place (length xs) ≡ b → cond b (Some place) None ≡ None → length xs ≤ place
      go true h e = let q : ◌≡◌ {A = ℕ} 0 1 = cc in absurd (omega arith)
      go false h e = ltb-false place (length xs) h

  -- the place, or the end of the text
  pub found_or_end : unwrap_or (position p xs) (length xs) ≡ position_or_len p xs
  found_or_end = go (ltb place (length xs)) refl
    where
      go : (b : Bool) → ltb place (length xs) ≡ b → unwrap_or (cond b (Some place) None) (length xs) ≡ place
      go true h = refl
      go false h = let k = ltb-false place (length xs) h in omega (arith, within)

-- none past its end
pub rest_of : (text : List ℕ) (from : ℕ) (r : Option (Bor (List ℕ))) → IsGetRangeResult text from (length text) r
    → (none : Bor (List ℕ)) → none.now ≡ [] → (unwrap_or r none).now ≡ drop from text
rest_of text from (Some rest) h none e = let is = h.0.2 in is ∙ take_all (length text - from) (drop from text) (simp length-drop (omega arith))
rest_of text from None h none e = rw (e, drop_of_length-le text {i = from} (elim h.0 [ inl k ↦ omega arith | inr k ↦ omega arith ]))
