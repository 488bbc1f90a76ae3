-- Lines of a script and what each means, computed by the definition.
-- Assumes nothing.
use Rattle.std.specs.Prelude.{Some, None}
use Prim.Native.String.{String}
use mathlib.Core.Path.{◌≡◌, refl}
use mathlib.Core.List.{List, [], ◌∷◌}
use lib.IntN.{pos, negsuc}
use Rattle.script.specs.declared.Command.{Command}
use Rattle.script.specs.declared.Command.TheVariants.{Blank, Malformed, Grow, Send, Tick, Measure, Keys, Power, Space, Xor, Ask, Save, Load, Rack, Bring}
use Rattle.script.specs.declared.arguments.Last.TheVariants.{Nothing}
use Rattle.text.specs.Text.{text}
use Rattle.text.specs.Lines.{bare_of}
use Rattle.script.specs.Words.{words_of, same_of}
use Rattle.text.specs.Numbers.{number_of, signed_of, hex_of, count_of, pair_of}
use Rattle.script.specs.Arguments.{given_of, last_of, arguments_of}
use Rattle.script.specs.Meaning.{name_of, order_of, command_of, spoken_of, meaning_of, byte_at_of, read}

record Case : Type 0 where
  line : String
  means : Command

infix 70 ◌says◌
abbrev ◌says◌ : String → Command → Case
l says c = record { line = l; means = c }

abbrev Hold : List Case → Type 0
Hold [] = Unit {0}
Hold (c ∷ cs) = (meaning_of (text c.line) ≡ c.means) × Hold cs

abbrev cases : List Case
cases =
    "head 300 4711" says Grow 300 4711
    ∷ "head 0 4294967295" says Grow 0 4294967295
    ∷ "head" says Malformed
    ∷ "head 1" says Malformed
    ∷ "head 1 2 3" says Malformed
    ∷ "head 4294967296 1" says Malformed
    ∷ "head 1 4294967296" says Malformed
    ∷ "head 1 -1" says Malformed
    ∷ "heads 300 1" says Malformed
    ∷ "send 0 001F200000000000003F" says Send 0 7 10
    ∷ "send 0 001F200000000000003" says Malformed
    ∷ "send 7 aF" says Send 7 7 1
    ∷ "send 7 aG" says Malformed
    ∷ "send 7" says Malformed
    ∷ "send 7 aF aF" says Malformed
    ∷ "tick 4294967295" says Tick 4294967295
    ∷ "tick 4294967296" says Malformed
    ∷ "tick 000000000000000000000000000000001" says Tick 1
    ∷ "tick +5" says Malformed
    ∷ "measure 0 -19999" says Measure 0 (negsuc 19998)
    ∷ "measure 0 -2147483648" says Measure 0 (negsuc 2147483647)
    ∷ "measure 0 -2147483649" says Malformed
    ∷ "measure 0 2147483648" says Malformed
    ∷ "measure 0 -0" says Measure 0 (pos 0)
    ∷ "measure 0 --1" says Malformed
    ∷ "measure 0 -" says Malformed
    ∷ "measure -1 0" says Malformed
    ∷ "measure 0" says Malformed
    ∷ "\t keys\t0  9 \r" says Keys 0 9
    ∷ "keys 0 9 \r\r" says Malformed
    ∷ "keys 0" says Malformed
    ∷ "keys 0 1 2" says Malformed
    ∷ "keys 0 -1" says Malformed
    ∷ "power 0" says Power 0
    ∷ "power 0 0" says Malformed
    ∷ "Power 0" says Malformed
    ∷ "space 1024" says Space 1024
    ∷ "space 1025" says Malformed
    ∷ "xor 4294967295" says Xor 4294967295
    ∷ "xor 4294967296" says Malformed
    ∷ "xor" says Malformed
    ∷ "xor 0 0" says Malformed
    ∷ "XOR 0" says Malformed
    ∷ "ask 0 1 31 32 2 90" says Ask 0 1 31 32 2 90
    ∷ "ask 4294967295 255 255 255 65535 4294967295" says Ask 4294967295 255 255 255 65535 4294967295
    ∷ "ask 4294967296 0 0 0 0 0" says Malformed
    ∷ "ask 0 256 0 0 0 0" says Malformed
    ∷ "ask 0 0 256 0 0 0" says Malformed
    ∷ "ask 0 0 0 256 0 0" says Malformed
    ∷ "ask 0 0 0 0 65536 0" says Malformed
    ∷ "ask 0 0 0 0 0 4294967296" says Malformed
    ∷ "ask 0 0 0 0 0 -1" says Malformed
    ∷ "ask 0 0 0 0 0" says Malformed
    ∷ "ask 0 0 0 0 0 0 0" says Malformed
    ∷ "Ask 0 0 0 0 0 0" says Malformed
    ∷ "save 0" says Save 0
    ∷ "save 4294967296" says Malformed
    ∷ "save" says Malformed
    ∷ "save 0 1" says Malformed
    ∷ "load 0 00" says Load 0 7 1
    ∷ "load 1" says Load 1 0 0
    ∷ "load 4294967295  53Aa4E \r" says Load 4294967295 17 3
    ∷ "load 4294967296 00" says Malformed
    ∷ "load 0 0" says Malformed
    ∷ "load 0 0G" says Malformed
    ∷ "load 0 00 00" says Malformed
    ∷ "load" says Malformed
    ∷ "rack 0 0 001F200000000000003F" says Rack 0 0 9 10
    ∷ "rack 7 4294967295 aF" says Rack 7 4294967295 18 1
    ∷ "rack 4294967295 0" says Rack 4294967295 0 0 0
    ∷ "\track  5\t10  53Aa4E \r" says Rack 5 10 13 3
    ∷ "rack 5 10 \r" says Rack 5 10 0 0
    ∷ "rack 0 0 00F" says Malformed
    ∷ "rack 0 0 0G" says Malformed
    ∷ "rack 0 aF" says Malformed
    ∷ "rack 0" says Malformed
    ∷ "rack" says Malformed
    ∷ "rack 4294967296 0" says Malformed
    ∷ "rack 0 4294967296" says Malformed
    ∷ "rack 0 4294967296 00" says Malformed
    ∷ "rack 0 -1" says Malformed
    ∷ "rack 0 0 00 00" says Malformed
    ∷ "Rack 0 0" says Malformed
    ∷ "bring 0" says Bring 0
    ∷ "bring 31" says Bring 31
    ∷ "bring 4294967295" says Bring 4294967295
    ∷ "\t bring\t0 \r" says Bring 0
    ∷ "bring" says Malformed
    ∷ "bring 0 0" says Malformed
    ∷ "bring x" says Malformed
    ∷ "bring -1" says Malformed
    ∷ "bring 4294967296" says Malformed
    ∷ "Bring 0" says Malformed
    ∷ "brings 0" says Malformed
    ∷ "  # note" says Blank
    ∷ "\r" says Blank
    ∷ "" says Blank
    ∷ []

hold : Hold cases
unfolding words_of bare_of same_of number_of signed_of hex_of count_of last_of arguments_of name_of order_of command_of spoken_of meaning_of
hold = (refl, (refl, (refl, (refl, (refl, (refl, (refl, (refl, (refl, (refl, (refl, (refl, (refl, (refl, (refl, (refl, (refl, (refl, (refl, (refl, (refl, (refl, (refl, (refl, (refl, (refl, (refl, (refl, (refl, (refl, (refl, (refl, (refl, (refl, (refl, (refl, (refl, (refl, (refl, (refl, (refl, (refl, (refl, (refl, (refl, (refl, (refl, (refl, (refl, (refl, (refl, (refl, (refl, (refl, (refl, (refl, (refl, (refl, (refl, (refl, (refl, (refl, (refl, (refl, (refl, (refl, (refl, (refl, (refl, (refl, (refl, (refl, (refl, (refl, (refl, (refl, (refl, (refl, (refl, (refl, (refl, (refl, (refl, (refl, (refl, (refl, (refl, (refl, (refl, (refl, (refl, (refl, (refl, (refl, (refl, (refl, (refl, tt)))))))))))))))))))))))))))))))))))))))))))))))))))))))))))))))))))))))))))))))))))))))))))))))))

-- as many numbers as there may be, each in its place and up to its own limit
six : arguments_of (1 ∷ 2 ∷ 3 ∷ 4 ∷ 5 ∷ 6 ∷ []) Nothing (words_of (text "1 2 3 4 5 6")) ≡ Some (given_of (1 ∷ 2 ∷ 3 ∷ 4 ∷ 5 ∷ 6 ∷ []) (pos 0) 0 0)
unfolding words_of number_of last_of arguments_of
six = refl

sixth_over : arguments_of (1 ∷ 2 ∷ 3 ∷ 4 ∷ 5 ∷ 6 ∷ []) Nothing (words_of (text "1 2 3 4 5 7")) ≡ None
unfolding words_of number_of last_of arguments_of
sixth_over = refl

-- the bytes of the first `send`, read one by one
bytes : read (byte_at_of (text "send 0 001F200000000000003F") 7) 10 ≡ 0 ∷ 31 ∷ 32 ∷ 0 ∷ 0 ∷ 0 ∷ 0 ∷ 0 ∷ 0 ∷ 63 ∷ []
unfolding byte_at_of pair_of hex_of
bytes = refl
