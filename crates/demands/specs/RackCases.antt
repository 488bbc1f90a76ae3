-- Racks worked out by hand from the documents (document 02, request (x)), telegram by telegram, and what they come to.
-- Assumes nothing.
use Rattle.std.specs.Prelude.{ℕ, ◌≡◌, List, [], ◌∷◌, ◌++◌, map, replicate, Ok, Result}
use Rattle.effects.specs.Restart.{fresh_of}
use Rattle.line.specs.declared.calls.Line.{Line}
use Rattle.demands.specs.Run.{System}
use Rattle.demands.specs.Cases.{split}
use Rattle.demands.specs.WrongSerials.{in_row}
use Rattle.demands.specs.WrongStretches.{one}
use Rattle.demands.specs.Racks.{joined}
use Rattle.head.specs.declared.refusal.Refusal.{Refusal}
use Rattle.rack.specs.declared.Tally.{Tally}

-- telegrams, each written as one number, side by side
abbrev pub telegrams : List ℕ → List ℕ
telegrams ts = joined (map (split 10) ts)

-- heads at 31 and at 12; two heads at 31
abbrev pub apart : Line
apart = record { heads = fresh_of 31 1 ∷ fresh_of 12 2 ∷ in_row 3 30; count = 2 }

abbrev pub twins : Line
twins = record { heads = in_row 1 32; count = 2 }

-- so many replies laid, and so many collisions
abbrev pub counted : ℕ → ℕ → Result Tally Refusal
counted replies collisions = Ok (record { replies = replies; collisions = collisions })

-- a rack at the time 0 of these telegrams, in a space of so many bytes, all 7, from a place on: what it answers, and the space after it
pub record Comes (m : System) (l : Line) (ts : List ℕ) (n p : ℕ) (answer : Result Tally Refusal) (space : List ℕ) : Type 0 where
  pub answers : (m.on_line_of.rack l (telegrams ts) 0 n p).answer ≡ answer
  pub lays : m.on_line_of.rack_space l (telegrams ts) 0 (replicate n 7) p ≡ space

pub record RackCases (m : System) : Type 0 where
  -- 20h read at 31, at 5, where nobody is, and at 12: two replies, side by side from place 3 on
  pub polled : Comes m apart (0x001F200000000000003F ∷ 0x00052000000000000025 ∷ 0x000C200000000000002C ∷ []) 34 3 (counted 2 0)
      (replicate 3 7 ++ (telegrams (0x001F200000000000053A ∷ 0x000C2000000000000529 ∷ []) ++ replicate 11 7))
  -- the same read where two have the number: a collision, counted once, and no byte of the space changes
  pub collided : Comes m twins (0x001F200000000000003F ∷ []) 10 0 (counted 0 1) (replicate 10 7)
  -- 00h is written, A0h 9 restarts the head, and the next telegram of the rack finds it at its new number
  pub renumbered : Comes m apart (0x011F000000000000051B ∷ 0x011FA0000000000009B7 ∷ 0x00050000000000000005 ∷ []) 30 0 (counted 3 0)
      (telegrams (0x011F000000000000051B ∷ 0x011FA0000000000009B7 ∷ 0x00050000000000000500 ∷ []))
  -- nine bytes of a read are dropped by a rack of no telegram, and the tenth draws nothing; without the rack it draws a reply
  pub dropped : (m.on_line_of.byte (m.on_line_of.rack one [] 0 0 0).line 0x3F 0 10).heard ≡ Ok 0
  pub gathered : (m.on_line_of.byte one 0x3F 0 10).heard ≡ Ok 1
