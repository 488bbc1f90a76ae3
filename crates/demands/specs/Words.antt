-- What document 02, request (iii), says of single replies, over the public byte call of a head alone. Which status word a reply carries is said once, of
-- every reply, by `copies` of Every.
-- Assumes nothing.
use Rattle.std.specs.Prelude.{ℕ, ◌≡◌, true, false, not, ◌||◌, ◌≢◌, List, eqb, length, take, Ok, is_some}
use Rattle.wire.specs.Check.{hit_of}
use Rattle.wire.specs.Telegram.{fields_of, ten_in}
use Rattle.signed.specs.Number.{word_of}
use Rattle.state.specs.declared.parts.Head.{Head}
use Rattle.state.specs.Bits.{bit_set}
use Rattle.state.specs.Status.{status_of}
use Rattle.head.specs.Hear.{gathered_of}
use Rattle.demands.specs.Run.{System}
use Rattle.demands.specs.Alone.{Taken}
use Rattle.demands.specs.Every.{third}

pub record Words (m : System) : Type 0 where
  -- the reading of FAh shows the word of before, in the data and in the status place, and then clears the static bit
  pub shows : (h : Head) (b t : ℕ) (space : List ℕ) → Taken h space → is_some (gathered_of h.ear b t).ten ≡ true
      → (m.on_head.byte h b t (length space)).heard ≡ Ok 1
      → let asked = fields_of (ten_in (gathered_of h.ear b t).ten) in
      let x = fields_of (take 10 (m.on_head.space h b t space)) in
      asked.command ≡ 0 → asked.parameter ≡ 0xFA → x.parameter ≡ 0xFA
      → (x.value ≡ status_of h) × (x.word ≡ status_of h) × ((m.on_head.byte h b t (length space)).head.targets.reached ≡ false)
  -- the reading of FEh shows a frozen value and releases it, and bit 8 as 0
  pub releases : (h : Head) (b t : ℕ) (space : List ℕ) → Taken h space → is_some (gathered_of h.ear b t).ten ≡ true
      → (m.on_head.byte h b t (length space)).heard ≡ Ok 1
      → let asked = fields_of (ten_in (gathered_of h.ear b t).ten) in
      let x = fields_of (take 10 (m.on_head.space h b t space)) in
      asked.command ≡ 0 → asked.parameter ≡ 0xFE → x.parameter ≡ 0xFE
      → (h.measurement.frozen ≡ true → x.value ≡ word_of h.measurement.kept)
      × ((m.on_head.byte h b t (length space)).head.measurement.frozen ≡ false)
      × (bit_set x.word 8 ≡ false)
  -- the error reply to a damaged telegram, whatever it looks like, shows bit 7 where an error was pending, or where it is the third in a row, which raises one
  pub raises : (h : Head) (b t : ℕ) (space : List ℕ) → Taken h space → is_some (gathered_of h.ear b t).ten ≡ true
      → (m.on_head.byte h b t (length space)).heard ≡ Ok 1
      → hit_of (ten_in (gathered_of h.ear b t).ten) ≢ 0
      → bit_set (fields_of (take 10 (m.on_head.space h b t space))).word 7 ≡ (third h || not (eqb h.faults.pending 0))
