-- Versions that are wrong in a serial number (document 02, request (xi)), each in one call, whatever else it does, and that it does not meet what is
-- asked of a system.
-- Assumes nothing.
use Rattle.std.specs.Prelude.{ℕ, zero, suc, ◌≡◌, List, [], ◌∷◌, replicate, Ok}
use Rattle.std.proofs.Math.Option.{none, some}
use Rattle.state.specs.declared.parts.Head.{Head}
use Rattle.state.specs.With.{with_stored, with_offer}
use Rattle.effects.specs.Restart.{fresh_of}
use Rattle.sheet.specs.Writing.{sheet_of}
use Rattle.head.specs.Calls.{factory_of}
use Rattle.head.specs.Outcome as alone
use Rattle.line.specs.declared.calls.Line.{Line}
use Rattle.demands.specs.Calls.{new_head, tick}
use Rattle.demands.specs.Run.{System}
use Rattle.demands.specs.Demand1.{Demand1, refused_as, head_after}
use Rattle.demands.specs.Demand2.{Demand2}
use Rattle.demands.specs.Cases.{gathered}
use Rattle.demands.specs.Serials.{serial_of, Serials}

-- a head with the serial number 7, and one to which 5 is offered
abbrev pub seven : Head
seven = fresh_of 31 7

abbrev pub offered : Head
offered = with_stored seven (with_offer seven.stored 5)

-- heads with the serial numbers from s on, all at 31
abbrev pub in_row : ℕ → ℕ → List Head
in_row s zero = []
in_row s (suc n) = fresh_of 31 s ∷ in_row (suc s) n

-- a full line, with the serial numbers 1 to 32; a line of one head, with 7, and 7 again past the count; three heads, the first and the last with 7
abbrev pub full : Line
full = record { heads = in_row 1 32; count = 32 }

abbrev pub lone : Line
lone = record { heads = seven ∷ seven ∷ in_row 1 30; count = 1 }

abbrev pub around : Line
around = record { heads = seven ∷ fresh_of 31 8 ∷ seven ∷ in_row 1 29; count = 3 }

-- the head after a telegram of which the last byte is heard, after a call on it alone that lends no space, and after up was pressed
abbrev pub after_last : System → ℕ → ℕ → Head
after_last m nine b = head_after m.on_head (alone.byte b 0 (replicate 10 0)) (gathered seven nine)

abbrev pub after_ask : System → alone.Ask → Head
after_ask m a = head_after m.on_head (alone.asked a) seven

abbrev pub after_up : System → Head
after_up m = head_after m.on_head (alone.keys 4 (replicate 10 0)) offered

pub record WrongSerials : Type 0 where
  -- 17 before 1, and before 2; the thirty-third head let in; a repeated serial number let in
  pub seventeen_first_fails : (m : System) → refused_as m.on_line_of (new_head 0 7) lone ≡ some 17 → Demand1 m → ⊥
  pub seventeen_full_fails : (m : System) → refused_as m.on_line_of (new_head 31 7) full ≡ some 17 → Demand1 m → ⊥
  pub thirty_third_fails : (m : System) → refused_as m.on_line_of (new_head 31 33) full ≡ none → Demand1 m → ⊥
  pub repeat_fails : (m : System) → refused_as m.on_line_of (new_head 12 7) lone ≡ none → Demand1 m → ⊥
  -- 17 for a node number that a head has: two heads may share one; and for a serial number that stands past the count
  pub node_shared_fails : (m : System) → refused_as m.on_line_of (new_head 31 8) lone ≡ some 17 → Demand1 m → ⊥
  pub past_taken_fails : (m : System) → refused_as m.on_line_of (new_head 12 1) lone ≡ some 17 → Demand1 m → ⊥
  -- a repeated serial number past the count makes 20; one that is not next to the other is let pass
  pub past_count_fails : (m : System) → refused_as m.on_line_of (tick 0) lone ≡ some 20 → Demand1 m → ⊥
  pub neighbours_fails : (m : System) → refused_as m.on_line_of (tick 0) around ≡ none → Demand1 m → ⊥
  -- cleared by A0h 1, by A0h 9, by power; taken over from the head that a sheet was written from; cleared at the adoption of a number
  pub reset_clears_fails : (m : System) → serial_of (after_last m 0x011FA0000000000001 0xBF) ≡ 0 → Serials m → ⊥
  pub restart_clears_fails : (m : System) → serial_of (after_last m 0x011FA0000000000009 0xB7) ≡ 0 → Serials m → ⊥
  pub power_clears_fails : (m : System) → serial_of (after_ask m alone.power) ≡ 0 → Serials m → ⊥
  pub sheet_brings_fails : (m : System) → serial_of (after_ask m (alone.load (sheet_of (fresh_of 31 8).stored.values))) ≡ 8 → Serials m → ⊥
  pub adoption_clears_fails : (m : System) → serial_of (after_up m) ≡ 0 → Serials m → ⊥
  -- the factory head of refusal 1 has 0 for the one given; the node number is handed out for it; that of the first head for that of the one that is named
  pub factory_bare_fails : (m : System) → (m.on_head.make 0 7).head ≡ factory_of 0 → Serials m → ⊥
  pub number_told_fails : (m : System) → m.on_head.serial seven ≡ Ok 31 → Demand2 m → ⊥
  pub first_told_fails : (m : System) → m.on_line_of.serial full 31 ≡ Ok 1 → Demand2 m → ⊥
