-- Sheets with what they are answered, and the sheet of a new head, to be read beside document 02, request (vii): bytes and numbers, worked out by hand.
-- Assumes nothing.
use Rattle.std.specs.Prelude.{ℕ, ◌+◌, ◌*◌, ◌≡◌, List, [], ◌∷◌, map, replicate}
use Rattle.std.proofs.Math.Option.{Option, none, some}
use Rattle.effects.specs.Restart.{fresh_of}
use Rattle.head.specs.Calls.{load_of, save_space_of}
use Rattle.head.specs.Outcome.{load, power}
use Rattle.demands.specs.Cases.{split}
use Rattle.demands.specs.Demand1.{of_answer}
use Rattle.demands.specs.Sentences.{Step, hears, asked, answered, Told, told}

-- n bytes, written as one number, and the refusal with which a new head answers them, if it does
pub record Case : Type 0 where
  pub bytes : ℕ
  pub digits : ℕ
  pub refused : Option ℕ

abbrev pub taken : ℕ → ℕ → Case
taken n x = record { bytes = n; digits = x; refused = none }

abbrev pub refused : ℕ → ℕ → ℕ → Case
refused why n x = record { bytes = n; digits = x; refused = some why }

abbrev pub Hold : List Case → Type 0
Hold [] = Unit {0}
Hold (c ∷ cs) = (of_answer (load_of (fresh_of 31 0) (split c.bytes c.digits)).answer ≡ c.refused) × Hold cs

unfoldable pub cases : List Case
cases =
    -- two rows, 04h 60 and 20h 5; a sheet of no rows; 3Eh at 2; D0h 20; three rows
    taken 15 0x02_04_0007_20_000B_0000003C_00000005
    ∷ taken 1 0x00
    ∷ taken 8 0x01_3E_0004_00000002
    ∷ taken 8 0x01_D0_0004_00000014
    ∷ taken 22 0x03_04_000A_05_000E_20_0012_0000003C_00000001_0000270F
    -- no byte; a byte after the last body; a body missing, and half of one
    ∷ refused 11 0 0
    ∷ refused 11 2 0x0000
    ∷ refused 11 9 0x01_04_0004_00000005_00
    ∷ refused 11 4 0x01_04_0004
    ∷ refused 11 6 0x01_04_0004_0000
    -- a place one too far, one too near, low byte first, and a place of the other body
    ∷ refused 11 8 0x01_04_0005_00000005
    ∷ refused 11 8 0x01_04_0003_00000005
    ∷ refused 11 8 0x01_04_0400_00000005
    ∷ refused 11 8 0x01_04_8004_00000005
    ∷ refused 11 15 0x02_04_000B_20_0007_00000005_00000005
    -- the same address twice; addresses that fall
    ∷ refused 11 15 0x02_04_0007_04_000B_00000005_00000005
    ∷ refused 11 15 0x02_20_0007_04_000B_00000005_00000005
    -- a count of 40, and of 255, for nothing; a count of 4 for three rows; 40 rows, from 00h to 27h, of which all but the count is right
    ∷ refused 11 1 0x28
    ∷ refused 11 1 0xFF
    ∷ refused 11 22 0x04_04_000A_05_000E_20_0012_0000003C_00000001_0000270F
    ∷ refused 11 281 0x2800007901007D02008103008504008905008D06009107009508009909009D0A00A10B00A50C00A90D00AD0E00B10F00B51000B91100BD1200C11300C51400C91500CD1600D11700D51800D91900DD1A00E11B00E51C00E91D00ED1E00F11F00F52000F92100FD22010123010524010925010D26011127011500000000000000000000000000000000000000000000000000000000000000000000000000000000000000000000000000000000000000000000000000000000000000000000000000000000000000000000000000000000000000000000000000000000000000000000000000000000000000000000000000000000000000000000000000000000000000000000000000000000000000000000000000000000
    -- 10h, FBh, FFh and A0h are none of the 39; this goes before 61 for 04h, wherever it stands
    ∷ refused 12 8 0x01_10_0004_00000005
    ∷ refused 12 8 0x01_FB_0004_00000005
    ∷ refused 12 8 0x01_FF_0004_00000005
    ∷ refused 12 8 0x01_A0_0004_00000001
    ∷ refused 12 15 0x02_04_0007_10_000B_0000003D_00000005
    -- 61 and 0 for 04h; 3Eh takes 0 and 2; 00h 0 and 128; the last row of two
    ∷ refused 13 8 0x01_04_0004_0000003D
    ∷ refused 13 8 0x01_04_0004_00000000
    ∷ refused 13 8 0x01_3E_0004_00000001
    ∷ refused 13 8 0x01_00_0004_00000000
    ∷ refused 13 8 0x01_00_0004_00000080
    ∷ refused 13 15 0x02_04_0007_20_000B_00000005_00002710
    -- 35h takes 0, and 1 as older heads had it; 2 is refused
    ∷ taken 8 0x01_35_0004_00000000
    ∷ taken 8 0x01_35_0004_00000001
    ∷ refused 13 8 0x01_35_0004_00000002
    -- 1Eh is read with its sign: -19999 is its least
    ∷ taken 8 0x01_1E_0004_FFFFB1E1
    ∷ refused 13 8 0x01_1E_0004_FFFFB1E0
    ∷ []

-- the sheet of a head made with 31, on a space of 276 bytes of 1
abbrev pub sheet31 : ℕ
sheet31 =
    0x2700007601007A02007E03008204008605008A06008E07009208009609009A0A009E0B00A20C00A60D00AA0E00AE0F00B21B00B61C00BA1E00BE1F00C22000C62100CA2200CE2800D23000D63100DA3200DE3300E23400E63500EA3900EE3A00F23B00F63C00FA3D00FE3E01023F010640010AD0010E0000001F00000001000000000000000000000005000000010000000000000001000000010000000100000000000000000000000000000000000000000000000000000000000002D0000000000000000000000005000000000000000000000000000000000000000000000000000000000000000000000000000000010000000000000001000000010000000100000000000000000000000100000000

pub record NewSheet : Type 0 where
  pub written : save_space_of (fresh_of 31 0) (replicate 276 1) ≡ split 276 (sheet31 * 65536 + 257)

-- sentences that no law states, each tried at a head made with 31
abbrev pub All : List Told → Type 0
All [] = Unit {0}
All (t ∷ ts) = (answered t.steps (fresh_of 31 0) ≡ map (split 10) t.replies) × All ts

abbrev sheet : ℕ → ℕ → Step
sheet n x = asked (load (split n x))

unfoldable pub sentences : List Told
sentences =
    -- 00h 5 is read back at 31 at once, and after a restart at 5 alone
    told (sheet 8 0x01_00_0004_00000005 ∷ hears 0 0x001F000000000000001F ∷ hears 0 0x00050000000000000005 ∷ asked power ∷ hears 0 0x001F000000000000001F ∷ hears 0 0x00050000000000000005 ∷ [])
    (0x001F000000000000051A ∷ 0x00050000000000000500 ∷ [])
    -- a sheet that locks the head (0Eh 1, then 20h 70) is loaded whole; a telegram is locked then, 03 85, and a sheet is not
    ∷ told (sheet 15 0x02_0E_0007_20_000B_00000001_00000046 ∷ hears 0 0x001F200000000000003F ∷ hears 0 0x011F2000000000000739 ∷ sheet 8 0x01_20_0004_00000008 ∷ hears 0 0x001F200000000000003F ∷ [])
    (0x001F2000000000004679 ∷ 0x011FFD00000000038565 ∷ 0x001F2000000000000837 ∷ [])
    -- refused for its last row, a sheet leaves the first as it was
    ∷ told (sheet 15 0x02_04_0007_20_000B_00000007_00002710 ∷ hears 0 0x001F040000000000001B ∷ [])
    (0x001F040000000000051E ∷ [])
    -- 35h at 1 is a write of 0
    ∷ told (sheet 15 0x02_20_0007_35_000B_00000008_00000001 ∷ hears 0 0x001F200000000000003F ∷ hears 0 0x001F350000000000002A ∷ [])
    (0x001F2000000000000837 ∷ 0x001F350000000000002A ∷ [])
    ∷ []
