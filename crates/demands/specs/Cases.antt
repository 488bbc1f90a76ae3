-- The marked cases (P) of document 01, "Sums at the edges": one table. What a head made with a node number answers to bytes put to it, what is
-- rounded, what is held.
-- Assumes nothing.
use Rattle.std.specs.Prelude.{ℕ, zero, suc, ◌/◌, ◌%◌, ◌^◌, ◌≡◌, false, List, [], ◌∷◌, ◌++◌, map, ℤ, pos}
use Rattle.signed.specs.Number.{minus}
use Rattle.signed.specs.Rounding.{rounded_of}
use Rattle.signed.specs.Difference.{differential_of}
use Rattle.state.specs.declared.parts.Head.{Head}
use Rattle.effects.specs.Restart.{fresh_of}
use Rattle.head.specs.Hear.{step_of}
use Rattle.line.specs.Round.{said_by}
use Rattle.demands.specs.Run.{with_ear}

-- the n bytes of a number, high byte first
abbrev pub split : ℕ → ℕ → List ℕ
split zero x = []
split (suc n) x = x / 256 ^ n % 256 ∷ split n x

-- n bytes, written as one number, all at one time
pub record Feed : Type 0 where
  pub time : ℕ
  pub bytes : ℕ
  pub digits : ℕ

abbrev pub at : ℕ → ℕ → ℕ → Feed
at time bytes digits = record { time = time; bytes = bytes; digits = digits }

-- a whole telegram at time 0
abbrev pub whole : ℕ → Feed
whole digits = at 0 10 digits

abbrev pub heard_all : List ℕ → ℕ → Head → Head
heard_all [] t h = h
heard_all (b ∷ bs) t h = heard_all bs t (step_of h b t).head

abbrev pub said_all : List ℕ → ℕ → Head → List (List ℕ)
said_all [] t h = []
said_all (b ∷ bs) t h = said_by (step_of h b t) ++ said_all bs t (step_of h b t).head

-- ten bytes, written as one number, heard at time 0; and nine that stand gathered
abbrev pub heard_ten : ℕ → Head → Head
heard_ten ten h = heard_all (split 10 ten) 0 h

abbrev pub gathered : Head → ℕ → Head
gathered h nine = with_ear h (record { bytes = split 9 nine ++ (0 ∷ []); count = 9; at = 0 })

-- the replies of a head to what is put to it
abbrev pub replies_of : List Feed → Head → List (List ℕ)
replies_of [] h = []
replies_of (f ∷ fs) h =
    said_all (split f.bytes f.digits) f.time h ++ replies_of fs (heard_all (split f.bytes f.digits) f.time h)

pub data Case : Type 0 where
  -- a head made with the number, what is put to it, and all that it replies
  says : ℕ → List Feed → List ℕ → Case
  -- a position by 10 to the power
  rounds : ℤ → ℕ → ℤ → Case
  -- the differential value A - S
  differs : ℤ → ℤ → ℤ → Case

abbrev pub Holds : Case → Type 0
Holds (says node feeds replies) = replies_of feeds (fresh_of node 0) ≡ map (split 10) replies
Holds (rounds p k r) = rounded_of p k ≡ r
Holds (differs a s d) = differential_of a s false ≡ d

abbrev pub All : List Case → Type 0
All [] = Unit {0}
All (c ∷ cs) = Holds c × All cs

unfoldable pub cases : List Case
cases =
    -- read 20h
    says 31 (whole 0x001F200000000000003F ∷ []) (0x001F200000000000053A ∷ [])
    -- write 04h 90
    ∷ says 31 (whole 0x011F0400000000005A40 ∷ []) (0x011FFD00000000028263 ∷ [])
    -- 3Eh: 1 gives 00 82, 3 gives 02 82
    ∷ says 31 (whole 0x011F3E00000000000121 ∷ []) (0x011FFD00000000008261 ∷ [])
    ∷ says 31 (whole 0x011F3E00000000000323 ∷ []) (0x011FFD00000000028263 ∷ [])
    -- 00h: 0 gives 01 82, 128 gives 02 82
    ∷ says 31 (whole 0x011F000000000000001E ∷ []) (0x011FFD00000000018260 ∷ [])
    ∷ says 31 (whole 0x011F000000000000809E ∷ []) (0x011FFD00000000028263 ∷ [])
    -- 1Ch 65535 accepted, 65536 is 02 82
    ∷ says 31 (whole 0x011F1C00000000FFFF02 ∷ []) (0x011F1C00000000FFFF02 ∷ [])
    ∷ says 31 (whole 0x011F1C00000001000003 ∷ []) (0x011FFD00000000028263 ∷ [])
    -- 1Eh -19999 accepted, -20000 is 01 82
    ∷ says 31 (whole 0x011F1E0000FFFFB1E150 ∷ []) (0x011F1E0000FFFFB1E150 ∷ [])
    ∷ says 31 (whole 0x011F1E0000FFFFB1E051 ∷ []) (0x011FFD00000000018260 ∷ [])
    -- locked write out of range: 03 85; 0Eh is set to 1 before
    ∷ says 31 (whole 0x011F0E00000000000111 ∷ whole 0x011F0400000000005A40 ∷ []) (0x011F0E00000000000111 ∷ 0x011FFD00000000038565 ∷ [])
    -- the manual's 43h telegram at node 1: 00 80
    ∷ says 1 (whole 0x0101FF0200000004D243 ∷ []) (0x0101FD0000000000807D ∷ [])
    -- 10 ms keeps a telegram, 11 does not
    ∷ says 31 (at 0 5 0x001F200000 ∷ at 10 5 0x000000003F ∷ []) (0x001F200000000000053A ∷ [])
    ∷ says 31 (at 0 5 0x001F200000 ∷ at 11 5 0x000000003F ∷ []) []
    -- 12348 by 10 is 1235; -12345 by 10 is -1235
    ∷ rounds (pos 12348) 1 (pos 1235)
    ∷ rounds (minus 12345) 1 (minus 1235)
    -- S 2147483647, A 0: differential -5242880; and as a head answers it, by FFh and FCh
    ∷ differs (pos 0) (pos 2147483647) (minus 5242880)
    ∷ says 31 (whole 0x011FFF00007FFFFFFF61 ∷ whole 0x001FFC000000000000E3 ∷ []) (0x011FFF00007FFFFFFF61 ∷ 0x001FFC0000FFB00000AC ∷ [])
    ∷ []
