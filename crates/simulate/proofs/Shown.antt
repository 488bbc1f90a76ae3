-- What a save shows: where it is done, the digits of the sheet of that head's settings, and nothing else.
-- Assumes nothing.
use Rattle.std.specs.Prelude.{⊤}
use Rattle.std.proofs.Common.{◌≡◌, ℕ, ◌≤◌, List, [], ◌∷◌, ◌++◌, length, drop, ◌∙◌, arith, length-append, take_at, le-ltb, Ok, Err, Result}
use Prim.Native.Char.{code}
use Rattle.hex_digits.specs.Digits.{digits_of}
use Rattle.text.specs.Text.{text}
use Rattle.sheet.specs.Writing.{whole, sheet_of}
use Rattle.sheet.proofs.Written.{sheet_is, sheet_count}
use Rattle.head.specs.declared.refusal.Refusal.{Refusal}
use Rattle.head.specs.Calls.{save_tests}
use Rattle.head.specs.Calls as head
use Rattle.head.proofs.Tests.{passed}
use Rattle.line.specs.declared.calls.Line.{Line}
use Rattle.line.specs.Calls.{head_at, named_tests, save_of, save_space_of}
use Rattle.simulate.specs.Sheets.{saved_line_of}

-- a sheet of 39 values
size : (values : List ℕ) → length values ≡ 39 → length (sheet_of values) ≡ whole
size values n = rw ((sheet_is values n).whole, sheet_count values n)

-- what is done is not refused
abbrev Done : Result ⊤ Refusal → Type 0
Done a = a ≡ (Ok tt)

done_only : (why : Refusal) → Done (Err why) → ⊥
done_only why e = let z : ◌≡◌ {A = ℕ} 0 1 = cc in omega arith

-- a save that is done, of a head with its 39 values
module _ (l : Line) (i : ℕ) (space : List ℕ) (done : save_of l i (length space) ≡ (Ok tt)) (n : length (head_at l i).stored.values ≡ 39) where
  laid : save_space_of l i space ≡ sheet_of (head_at l i).stored.values ++ drop whole space
  unfolding save_of save_space_of head.save_of head.save_space_of
  laid =
      let h = head_at l i in
      let named = passed Done Err (head.save_of h (length space)) (λ why. space) (head.save_space_of h space) (named_tests l i) done_only done in
      let own = sheet_of h.stored.values ++ drop whole space in
      named.1 ∙ (passed Done Err (Ok tt) (λ why. space) own (save_tests h (length space)) done_only named.0).1

  pub shows : saved_line_of (save_space_of l i space) ≡ text "saved " ++ (digits_of (sheet_of (head_at l i).stored.values) ++ (code "\n" ∷ []))
  unfolding saved_line_of
  shows =
      let sheet = sheet_of (head_at l i).stored.values in
      let k = size (head_at l i).stored.values n in
      let room : whole ≤ length (sheet ++ drop whole space) = simp length-append (omega arith) in
      rw (laid, le-ltb (length (sheet ++ drop whole space)) whole room, take_at sheet (drop whole space) whole k)
