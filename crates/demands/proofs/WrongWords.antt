-- The versions that are wrong in the status word fail: each by a head at 31 that has gathered nine bytes of a telegram, and the tenth.
-- Assumes nothing.
use Rattle.std.specs.Prelude.{Ok, is_some}
use Prim.Native.Nat.{ℕ}
use mathlib.Core.Path.{◌≡◌, refl, sym, ◌∙◌}
use mathlib.Core.Bool.{true}
use mathlib.Core.Logic.{◌≢◌}
use native.Mathlib.Omega.{arith}
use lib.ListN.{take}
use Rattle.wire.specs.Telegram.{fields_of, ten_in}
use Rattle.state.specs.declared.parts.Head.{Head}
use Rattle.state.specs.Wellformed.{wellformed_of}
use Rattle.head.specs.Hear.{gathered_of}
use Rattle.head.specs.Calls as head
use Rattle.demands.specs.Cases.{heard_ten, gathered}
use Rattle.demands.specs.Every.{word_told}
use Rattle.demands.specs.WrongWords.{Wording, reworded, old_always, new_always, new_at, old_at, writes, reads, error, looking, Fails, WrongWords}
use Rattle.demands.proofs.Computing.{computing}
use Rattle.demands.proofs.Wrongs.{new, space}

-- after the tenth byte a version tells one word, and the right one is another
abbrev pub Told : Wording → Head → ℕ → ℕ → ℕ → Type 0
Told f h b wrong right =
    (wellformed_of h ≡ true)
    × (is_some (gathered_of h.ear b 0).ten ≡ true)
    × ((head.byte_of h b 0 10).heard ≡ Ok 1)
    × ((fields_of (take 10 (reworded f h b 0 space))).word ≡ wrong)
    × (word_told (fields_of (ten_in (gathered_of h.ear b 0).ten)) (fields_of (take 10 (reworded f h b 0 space))) h (head.byte_of h b 0 10).head ≡ right)

pub fails : (f : Wording) (h : Head) (b wrong right : ℕ) → wrong ≢ right → Told f h b wrong right → Fails f
fails f h b wrong right differ (well, ends, replies, wrong-is, right_is) m s d =
    let c = (d.every.copies h b 0 space (record { well = well; room = omega arith }) ends (rw (s.hears h b 0 10) replies)).word in
    differ (sym wrong-is ∙ rw (s.lays h b 0 space replies, s.hears h b 0 10) at c ∙ right_is)

-- ---- the heads: after a telegram, and with nine bytes of the next
-- set point 2 is 0 and valid: it is reached, and the static bit is set
abbrev reached : Head
reached = heard_ten 0x011FFF020000000000E3 new

-- two damaged telegrams were heard; a value is kept
abbrev twice : Head
twice = heard_ten 0x001F200000000000003E (heard_ten 0x001F200000000000003E new)

abbrev frozen : Head
frozen = heard_ten 0x0200AA000000000001A9 new

-- set point 2 is 100 and valid; and 1Fh, or the window of 20h, is 100
abbrev far : Head
far = heard_ten 0x011FFF02000000006487 new

abbrev aligned : Head
aligned = heard_ten 0x011F1F00000000006465 far

abbrev wide : Head
wide = heard_ten 0x011F200000000000645A far

pub wrong_words : WrongWords
unfolding computing
wrong_words =
    record {
      old_always_fails = fails old_always (gathered frozen 0x001FFE000000000000) 0xE1 0x100 0 (λ e. omega arith) (refl, refl, refl, refl, refl);
      new_always_fails = fails new_always (gathered new 0x011FFF020000000064) 0x87 0x401 0 (λ e. omega arith) (refl, refl, refl, refl, refl);
      new_at_ffh_fails = fails (new_at (writes 0xFF)) (gathered new 0x011FFF020000000064) 0x87 0x401 0 (λ e. omega arith) (refl, refl, refl, refl, refl);
      new_at_fbh_fails = fails (new_at (writes 0xFB)) (gathered new 0x011FFB000400000007) 0xE6 4 0 (λ e. omega arith) (refl, refl, refl, refl, refl);
      new_at_fah_fails = fails (new_at (reads 0xFA)) (gathered reached 0x001FFA000000000000) 0xE5 0x428 0x438 (λ e. omega arith) (refl, refl, refl, refl, refl);
      new_at_a0h_fails = fails (new_at (writes 0xA0)) (gathered reached 0x011FA0000000000009) 0xB7 0 0x438 (λ e. omega arith) (refl, refl, refl, refl, refl);
      old_at_errors_fails = fails (old_at error) (gathered twice 0x001F20000000000000) 0x3E 0 0x80 (λ e. omega arith) (refl, refl, refl, refl, refl);
      old_at_looking_fails = fails (old_at looking) (gathered twice 0x011FFF020000000064) 0x86 0 0x80 (λ e. omega arith) (refl, refl, refl, refl, refl);
      old_at_feh_fails = fails (old_at (λ asked x. reads 0xFE asked)) (gathered frozen 0x001FFE000000000000) 0xE1 0x100 0 (λ e. omega arith) (refl, refl, refl, refl, refl);
      old_at_aah_fails = fails (old_at (λ asked x. writes 0xAA asked)) (gathered new 0x011FAA000000000001) 0xB5 0 0x100 (λ e. omega arith) (refl, refl, refl, refl, refl);
      old_at_20h_fails = fails (old_at (λ asked x. writes 0x20 asked)) (gathered far 0x011F20000000000064) 0x5A 0x401 0x420 (λ e. omega arith) (refl, refl, refl, refl, refl);
      old_at_a7h_fails = fails (old_at (λ asked x. writes 0xA7 asked)) (gathered aligned 0x011FA7000000000001) 0xB8 0x401 0x428 (λ e. omega arith) (refl, refl, refl, refl, refl);
      old_at_a0h_fails = fails (old_at (λ asked x. writes 0xA0 asked)) (gathered wide 0x011FA0000000000001) 0xBF 0x420 0x401 (λ e. omega arith) (refl, refl, refl, refl, refl);
    }
