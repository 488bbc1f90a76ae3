-- What the bench program says and keeps (document 01, the end of "Sums at the edges"): all bytes come at time 0, and each reply is a line of
-- twenty upper-case hex digits.
-- Assumes nothing.
use Rattle.std.specs.Prelude.{ℕ, Bool, false, cond, List, [], ◌∷◌, ltb, replicate, Some, None, Ok, Err, Result}
use Rattle.state.specs.declared.parts.Head.{Head}
use Rattle.head.specs.Calls.{byte_of, byte_space_of}
use Rattle.hex_digits.specs.Digits.{line_of}
use Rattle.bench.specs.declared.Spoken.{Spoken}
use Rattle.head.specs.declared.refusal.Refusal.{Refusal}

-- a byte at time 0 to the head, which has ten bytes of reply space
abbrev pub after_byte : Head → ℕ → Head
after_byte h b = (byte_of h b 0 10).head

-- there is a reply
unfoldable pub replied_of : Result ℕ Refusal → Bool
replied_of (Ok n) = ltb 0 n
replied_of (Err why) = false

-- a byte: where there is a reply, its line shows the ten bytes of reply space
unfoldable pub spoken_of : Head → ℕ → Spoken
spoken_of h b =
    record {
      head = after_byte h b;
      reply = cond (replied_of (byte_of h b 0 10).heard) (Some (line_of (byte_space_of h b 0 (replicate 10 0)))) None;
    }

-- each byte in turn
unfoldable pub fed_of : Head → List ℕ → Head
fed_of h [] = h
fed_of h (b ∷ bs) = fed_of (after_byte h b) bs
