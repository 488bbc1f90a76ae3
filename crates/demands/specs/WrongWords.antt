-- Versions that are wrong in the status word of a reply (document 02, request (iii)): each hears as it should and sends the reply that it should, but for
-- that word, whatever its other calls do; and no system that is so meets Demand2.
-- Assumes nothing.
use Rattle.std.specs.Prelude.{ℕ, ◌≡◌, Bool, cond, not, ◌&&◌, List, ◌++◌, eqb, length, take, drop, Ok}
use Rattle.wire.specs.declared.telegram.Telegram.{Telegram}
use Rattle.wire.specs.Telegram.{bytes_of, fields_of, ten_in}
use Rattle.state.specs.declared.parts.Head.{Head}
use Rattle.state.specs.Status.{status_of}
use Rattle.head.specs.Hear.{gathered_of}
use Rattle.head.specs.Calls as head
use Rattle.demands.specs.Run.{System}
use Rattle.demands.specs.Every.{keeps_word, word_told}
use Rattle.demands.specs.Demand2.{Demand2}

-- a status word, by the telegram, the reply to it, and the head before and after
abbrev pub Wording : Type 0
Wording = Telegram → Telegram → Head → Head → ℕ

abbrev pub with_word : Telegram → ℕ → Telegram
with_word x w = record { command = x.command; node = x.node; parameter = x.parameter; word = w; value = x.value }

-- the space with the right reply in it, but for its status word
abbrev pub reworded : Wording → Head → ℕ → ℕ → List ℕ → List ℕ
reworded f h b t space =
    let asked = fields_of (ten_in (gathered_of h.ear b t).ten) in
    let x = fields_of (take 10 (head.byte_space_of h b t space)) in
    bytes_of (with_word x (f asked x h (head.byte_of h b t (length space)).head)) ++ drop 10 space

pub record Says (f : Wording) (m : System) : Type 0 where
  pub hears : (h : Head) (b t n : ℕ) → m.on_head.byte h b t n ≡ head.byte_of h b t n
  pub lays : (h : Head) (b t : ℕ) (space : List ℕ) → (head.byte_of h b t (length space)).heard ≡ Ok 1
      → m.on_head.space h b t space ≡ reworded f h b t space

-- the word of before in every reply, which was document 01's reading; the word of after in every reply
abbrev pub old_always : Wording
old_always asked x before after = status_of before

abbrev pub new_always : Wording
new_always asked x before after = status_of after

-- right, but for telegrams of a kind, which get the word of after; or that of before
abbrev pub new_at : (Telegram → Bool) → Wording
new_at p asked x before after = cond (p asked) (status_of after) (word_told asked x before after)

abbrev pub old_at : (Telegram → Telegram → Bool) → Wording
old_at p asked x before after = cond (p asked x) (status_of before) (word_told asked x before after)

abbrev pub writes : ℕ → Telegram → Bool
writes a t = eqb t.command 1 && eqb t.parameter a

abbrev pub reads : ℕ → Telegram → Bool
reads a t = eqb t.command 0 && eqb t.parameter a

-- an error reply, to another parameter than FDh; one to what looks like a telegram that keeps the word
abbrev pub error : Telegram → Telegram → Bool
error asked x = not (eqb x.parameter asked.parameter)

abbrev pub looking : Telegram → Telegram → Bool
looking asked x = error asked x && keeps_word asked

abbrev pub Fails : Wording → Type 0
Fails f = (m : System) → Says f m → Demand2 m → ⊥

pub record WrongWords : Type 0 where
  pub old_always_fails : Fails old_always
  pub new_always_fails : Fails new_always
  -- the new word at a set point's write
  pub new_at_ffh_fails : Fails (new_at (writes 0xFF))
  pub new_at_fbh_fails : Fails (new_at (writes 0xFB))
  -- FAh's word after the static bit is cleared
  pub new_at_fah_fails : Fails (new_at (reads 0xFA))
  -- the word after the restart at A0h 9
  pub new_at_a0h_fails : Fails (new_at (writes 0xA0))
  -- the old word at an error reply; at the error reply to a damaged FBh or FFh write, read of FAh or A0h 9
  pub old_at_errors_fails : Fails (old_at error)
  pub old_at_looking_fails : Fails (old_at looking)
  -- bit 8 still set when FEh releases; not yet set when AAh keeps
  pub old_at_feh_fails : Fails (old_at (λ asked x. reads 0xFE asked))
  pub old_at_aah_fails : Fails (old_at (λ asked x. writes 0xAA asked))
  -- the old word at a write of a stored parameter, here of 20h; at calibrating; at a reset
  pub old_at_20h_fails : Fails (old_at (λ asked x. writes 0x20 asked))
  pub old_at_a7h_fails : Fails (old_at (λ asked x. writes 0xA7 asked))
  pub old_at_a0h_fails : Fails (old_at (λ asked x. writes 0xA0 asked))
