-- Lines of a list of telegrams and what each means, computed by the definition.
-- Assumes nothing.
use Prim.Native.String.{String}
use mathlib.Core.Path.{◌≡◌, refl}
use mathlib.Core.List.{List, [], ◌∷◌}
use Rattle.script.specs.declared.telegrams.Entry.{Entry}
use Rattle.script.specs.declared.telegrams.Entry.TheVariants.{Blank, Malformed, Telegram}
use Rattle.text.specs.Text.{text}
use Rattle.text.specs.Lines.{bare_of}
use Rattle.text.specs.Numbers.{hex_of, count_of, pair_of}
use Rattle.script.specs.Words.{words_of}
use Rattle.script.specs.Meaning.{byte_at_of, read}
use Rattle.script.specs.Telegrams.{listed_of, entry_of}

record Case : Type 0 where
  line : String
  means : Entry

infix 70 ◌says◌
abbrev ◌says◌ : String → Entry → Case
l says e = record { line = l; means = e }

abbrev Hold : List Case → Type 0
Hold [] = Unit {0}
Hold (c ∷ cs) = (entry_of (text c.line) ≡ c.means) × Hold cs

abbrev cases : List Case
cases =
    "001F200000000000003F" says Telegram 0
    ∷ "001f200000000000003f" says Telegram 0
    ∷ " \t001F200000000000003F  \r" says Telegram 2
    ∷ "001F200000000000003F\r\r" says Malformed
    ∷ "001F200000000000003" says Malformed
    ∷ "001F200000000000003F0" says Malformed
    ∷ "001F200000000000003F00" says Malformed
    ∷ "001F20000000000000" says Malformed
    ∷ "001F200000000000003F 001F200000000000003F" says Malformed
    ∷ "001F200000 000000003F" says Malformed
    ∷ "001F200000000000003G" says Malformed
    ∷ "x01F200000000000003F" says Malformed
    ∷ "001F200000000000003F # read 20h" says Malformed
    ∷ "send 0 001F200000000000003F" says Malformed
    ∷ "# 001F200000000000003F" says Blank
    ∷ "  #note" says Blank
    ∷ "\r" says Blank
    ∷ " \t" says Blank
    ∷ "" says Blank
    ∷ []

hold : Hold cases
unfolding words_of bare_of hex_of count_of listed_of entry_of
hold = (refl, (refl, (refl, (refl, (refl, (refl, (refl, (refl, (refl, (refl, (refl, (refl, (refl, (refl, (refl, (refl, (refl, (refl, (refl, tt)))))))))))))))))))

-- the bytes of the third
bytes : read (byte_at_of (text " \t001F200000000000003F  \r") 2) 10 ≡ 0 ∷ 31 ∷ 32 ∷ 0 ∷ 0 ∷ 0 ∷ 0 ∷ 0 ∷ 0 ∷ 63 ∷ []
unfolding byte_at_of pair_of hex_of
bytes = refl
