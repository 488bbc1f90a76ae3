-- What a question means that is put to a head at its number in force, said by its address and by the parts of the head: without its verdicts (judge), kinds and
-- groups and limits (rows) and replies (reply), so that what is wrong in one of these is not simply read back as it was meant. What A, the position, the
-- differential value and the status word are is said by state.
-- Assumes nothing.
use Rattle.std.specs.Prelude.{ℕ, ◌+◌, ◌-◌, ◌*◌, ◌<◌, ◌≡◌, cond, ◌||◌, List, [], ◌∷◌, eqb, ltb, ℤ, pos, get_or}
use Rattle.std.specs.Int.Signed.{lt_z}
use Rattle.wire.specs.declared.telegram.Telegram.{Telegram}
use Rattle.wire.specs.Word.{byte0}
use Rattle.wire.specs.Telegram.{Fits}
use Rattle.signed.specs.Number.{minus, number_of, word_of}
use Rattle.rows.specs.declared.access.Access.{Access}
use Rattle.rows.specs.declared.access.Access.TheVariants.{ReadWrite, ReadOnly, WriteOnly, Unknown}
use Rattle.rows.specs.Among.{among}
use Rattle.state.specs.declared.parts.Head.{Head}
use Rattle.state.specs.Position.{view_of}
use Rattle.state.specs.Status.{status_of, difference_of}
use Rattle.demands.specs.Alone.{entries, setting}
use Rattle.demands.specs.Every.{locked}
use Rattle.master.specs.declared.Reading.{Reading}
use Rattle.master.specs.declared.Reading.TheVariants.{Value, Error}
use Rattle.exchange.specs.Meant.{meant_of}

-- a read, and a write, of a parameter at the number in force
abbrev pub reads_at : ℕ → Head → ℕ → ℕ → Telegram
reads_at p h word v = record { command = 0; node = h.stored.number; parameter = p; word = word; value = v }

abbrev pub writes_at : ℕ → Head → ℕ → ℕ → Telegram
writes_at p h word v = record { command = 1; node = h.stored.number; parameter = p; word = word; value = v }

-- ---- what a read shows: an address, and what it shows of a head
pub record Row : Type 0 where
  pub address : ℕ
  pub shows : Head → ℕ

abbrev row : ℕ → (Head → ℕ) → Row
row a f = record { address = a; shows = f }

-- the error at a place of the memory, the oldest first; empty places read 0
abbrev error : ℕ → Head → ℕ
error i h = get_or (entries h.faults.memory) i 0

abbrev pub shown : List Row
shown =
    row 0x65 (λ h. 11)
    ∷ row 0x67 (λ h. 100)
    ∷ row 0x80 (λ h. h.faults.memory.count)
    ∷ row 0x81 (error 0)
    ∷ row 0x82 (error 1)
    ∷ row 0x83 (error 2)
    ∷ row 0x84 (error 3)
    ∷ row 0x85 (error 4)
    ∷ row 0x86 (error 5)
    ∷ row 0x87 (error 6)
    ∷ row 0x88 (error 7)
    ∷ row 0x89 (error 8)
    ∷ row 0x8A (error 9)
    ∷ row 0xFA status_of
    ∷ row 0xFB (λ h. h.targets.first)
    ∷ row 0xFC (λ h. word_of (difference_of h.stored.values h.measurement h.targets.second))
    ∷ row 0xFD (λ h. h.faults.pending)
    ∷ row 0xFE (λ h. word_of (cond h.measurement.frozen h.measurement.kept (view_of h.stored.values h.measurement).shown))
    ∷ row 0xFF (λ h. h.targets.second)
    ∷ []

abbrev pub Shows : Row → Type 0
Shows r = (h : Head) (word v : ℕ) → Fits (reads_at r.address h word v) → meant_of (reads_at r.address h word v) h ≡ Value (r.shows h) ∷ []

abbrev pub AllShow : List Row → Type 0
AllShow [] = Unit {0}
AllShow (r ∷ rs) = Shows r × AllShow rs

-- ---- what a write is answered with, by the head and the value
abbrev pub Writes : ℕ → (Head → ℕ → List Reading) → Type 0
Writes p means = (h : Head) (word v : ℕ) → Fits (writes_at p h word v) → meant_of (writes_at p h word v) h ≡ means h v

-- check 7: a value from low to high, below it 01 82, above it 02 82
abbrev pub within : ℕ → ℕ → ℕ → Reading → List Reading
within low high v otherwise = cond (ltb v low) (Error 0x0182 ∷ []) (cond (ltb high v) (Error 0x0282 ∷ []) (otherwise ∷ []))

-- of a number with a sign
abbrev pub within_signed : ℤ → ℤ → ℕ → List Reading
within_signed low high v = cond (lt_z (number_of v) low) (Error 0x0182 ∷ []) (cond (lt_z high (number_of v)) (Error 0x0282 ∷ []) (Value v ∷ []))

-- a write of one of the 39: locked 03 85, then check 7
abbrev pub unlocked : (ℕ → List Reading) → Head → ℕ → List Reading
unlocked means h v = cond (locked h) (Error 0x0385 ∷ []) (means v)

-- the limits of those that take every number between them, and none below 0: all but 1Eh, 1Fh and 3Eh
pub record Limit : Type 0 where
  pub address : ℕ
  pub low : ℕ
  pub high : ℕ

abbrev limit : ℕ → ℕ → ℕ → Limit
limit a low high = record { address = a; low = low; high = high }

abbrev pub limits : List Limit
limits =
    limit 0x00 1 127
    ∷ limit 0x01 0 2
    ∷ limit 0x02 0 20
    ∷ limit 0x03 0 2
    ∷ limit 0x04 1 60
    ∷ limit 0x05 0 1
    ∷ limit 0x06 0 1
    ∷ limit 0x07 0 1
    ∷ limit 0x08 0 1
    ∷ limit 0x09 0 1
    ∷ limit 0x0A 0 4
    ∷ limit 0x0B 0 3
    ∷ limit 0x0C 0 2
    ∷ limit 0x0D 0 1
    ∷ limit 0x0E 0 1
    ∷ limit 0x0F 0 99999
    ∷ limit 0x1B 0 1
    ∷ limit 0x1C 1 65535
    ∷ limit 0x20 0 9999
    ∷ limit 0x21 0 2
    ∷ limit 0x22 0 9999
    ∷ limit 0x28 0 3
    ∷ limit 0x30 0 1
    ∷ limit 0x31 0 9999
    ∷ limit 0x32 0 1
    ∷ limit 0x33 0 2
    ∷ limit 0x34 0 1
    ∷ limit 0x35 0 0
    ∷ limit 0x39 0 1
    ∷ limit 0x3A 0 1
    ∷ limit 0x3B 0 1
    ∷ limit 0x3C 0 1
    ∷ limit 0x3D 0 1
    ∷ limit 0x3F 0 8
    ∷ limit 0x40 0 1
    ∷ limit 0xD0 0 20
    ∷ []

abbrev pub Takes : Limit → Type 0
Takes l = Writes l.address (unlocked (λ v. within l.low l.high v (Value v)))

abbrev pub AllTake : List Limit → Type 0
AllTake [] = Unit {0}
AllTake (l ∷ ls) = Takes l × AllTake ls

-- the answer to a write of FFh by 03h: the set point, the current value as FEh would show it unfrozen, or the differential value, after the write
abbrev pub aimed : Head → ℕ → ℕ
aimed h v =
    cond (eqb (setting h 3) 1) (word_of (view_of h.stored.values h.measurement).shown)
    (cond (eqb (setting h 3) 2) (word_of (difference_of h.stored.values h.measurement v)) v)

-- ---- the access groups
abbrev pub the39 : List ℕ
the39 =
    0x00 ∷ 0x01 ∷ 0x02 ∷ 0x03 ∷ 0x04 ∷ 0x05 ∷ 0x06 ∷ 0x07 ∷ 0x08 ∷ 0x09 ∷ 0x0A ∷ 0x0B ∷ 0x0C ∷ 0x0D ∷ 0x0E ∷ 0x0F ∷ 0x1B ∷ 0x1C ∷ 0x1E ∷ 0x1F ∷ 0x20 ∷ 0x21 ∷ 0x22 ∷ 0x28 ∷ 0x30 ∷ 0x31 ∷ 0x32 ∷ 0x33 ∷ 0x34 ∷ 0x35 ∷ 0x39 ∷ 0x3A ∷ 0x3B ∷ 0x3C ∷ 0x3D ∷ 0x3E ∷ 0x3F ∷ 0x40 ∷ 0xD0 ∷ []

abbrev pub read_only : List ℕ
read_only =
    0x65 ∷ 0x67 ∷ 0x80 ∷ 0x81 ∷ 0x82 ∷ 0x83 ∷ 0x84 ∷ 0x85 ∷ 0x86 ∷ 0x87 ∷ 0x88 ∷ 0x89 ∷ 0x8A ∷ 0x96 ∷ 0xFA ∷ 0xFC ∷ 0xFD ∷ 0xFE ∷ []

abbrev pub write_only : List ℕ
write_only = 0xA0 ∷ 0xA7 ∷ 0xA8 ∷ 0xAA ∷ 0xD2 ∷ []

abbrev pub group_at : ℕ → Access
group_at p =
    cond (among the39 p) ReadWrite
    (cond (eqb p 0xFB || eqb p 0xFF) ReadWrite
    (cond (among read_only p) ReadOnly (cond (among write_only p) WriteOnly Unknown)))

pub record ByAddress : Type 0 where
  -- a read of one of the 39 shows the value at its place; of the others what their rows say
  pub keeps : (r : ℕ) → r < 39 → Shows (row (get_or the39 r 0) (λ h. setting h r))
  pub reads : AllShow shown
  -- 96h takes its number in the first data byte and returns it there: 0 gives the count, n the nth oldest code
  pub inputs : (h : Head) (word v : ℕ) → Fits (reads_at 0x96 h word v)
      → let n = byte0 v in
      meant_of (reads_at 0x96 h word v) h
      ≡ cond (ltb h.faults.inputs.count n) (Error 0x0282 ∷ [])
      (Value (cond (eqb n 0) h.faults.inputs.count (n * 16777216 + get_or (entries h.faults.inputs) (n - 1) 0)) ∷ [])
  -- A7h (1), A8h (0, 1), AAh (1), which are never locked; A0h (1, 2, 5, 7, 8, 9), which is
  pub calibrates : Writes 0xA7 (λ h v. within 1 1 v (Value v))
  pub unlocks : Writes 0xA8 (λ h v. within 0 1 v (Value v))
  pub freezes : Writes 0xAA (λ h v. within 1 1 v (Value v))
  pub orders : Writes 0xA0 (λ h v.
      cond (locked h) (Error 0x0385 ∷ []) (within 1 9 v (cond (among (3 ∷ 4 ∷ 6 ∷ []) v) (Error 0x0082) (Value v))))
  -- any parameter: unknown 00 83; a write to read only 01 84; a read of write only 02 84
  pub unknown : (p : ℕ) → group_at p ≡ Unknown → (h : Head) (word v : ℕ)
      → (Fits (reads_at p h word v) → meant_of (reads_at p h word v) h ≡ Error 0x0083 ∷ [])
      × (Fits (writes_at p h word v) → meant_of (writes_at p h word v) h ≡ Error 0x0083 ∷ [])
  pub unwritable : (p : ℕ) → group_at p ≡ ReadOnly → Writes p (λ h v. Error 0x0184 ∷ [])
  pub unreadable : (p : ℕ) → group_at p ≡ WriteOnly → (h : Head) (word v : ℕ) → Fits (reads_at p h word v)
      → meant_of (reads_at p h word v) h ≡ Error 0x0284 ∷ []
  -- a write of one of the 39, three of them by themselves; of FBh and FFh: any 32 bits, never locked
  pub sets : AllTake limits
  pub sets_1_e : Writes 0x1E (unlocked (within_signed (minus 19999) (pos 19999)))
  pub sets_1_f : Writes 0x1F (unlocked (within_signed (minus 19999) (pos 99999)))
  pub sets_3_e : Writes 0x3E (unlocked (λ v. within 0 2 v (cond (eqb v 1) (Error 0x0082) (Value v))))
  pub aims1 : Writes 0xFB (λ h v. Value v ∷ [])
  pub aims2 : Writes 0xFF (λ h v. Value (aimed h v) ∷ [])
  -- of D2h: silence where it is taken (document 02, request (ii)), 00 85 where the number in force is not 31
  pub assigns : Writes 0xD2 (λ h v.
      cond (eqb h.stored.number 31) (cond (ltb v 1) (Error 0x0182 ∷ []) (cond (ltb 31 v) (Error 0x0282 ∷ []) [])) (Error 0x0085 ∷ []))
