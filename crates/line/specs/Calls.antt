-- The calls on a line and their refusals (document 01, "The line, and calls refused"; keys, sheets, serial numbers and older heads: document
-- 02, requests (ii), (vii), (xi) and (xii)).
-- Assumes nothing.
use Rattle.std.specs.Prelude.{ℕ, ◌+◌, Bool, true, false, cond, not, ◌&&◌, List, [], ◌∷◌, leb, ltb, ℤ, length, get_or, set, replicate, Ok, Err, Result, ⊤}
use Rattle.rows.specs.Among.{among}
use Rattle.state.specs.declared.parts.Head.{Head}
use Rattle.effects.specs.Restart.{fresh_of}
use Rattle.head.specs.declared.refusal.Refusal.{Refusal}
use Rattle.head.specs.declared.refusal.Refusal.TheVariants.{Node, Full, NoHead, Space, Malformed, SerialTaken}
use Rattle.head.specs.declared.calls.Called as alone
use Rattle.head.specs.declared.calls.Fed as lent
use Rattle.head.specs.Calls as head
use Rattle.head.specs.Calls.{Tests, guarded, factory_of, node_fits, laid_on_of}
use Rattle.line.specs.declared.calls.Line.{Line}
use Rattle.line.specs.declared.calls.Called.{Called}
use Rattle.line.specs.declared.calls.Fed.{Fed}
use Rattle.line.specs.Serials.{serials_of, all_differ}
use Rattle.line.specs.Round.{each, all_pass_of, stepped_by, ticked_at, replies_of}

-- a call that was done, and one that was refused: the line is as it was
abbrev pub done_with : Line → Called
done_with l = record { line = l; answer = Ok tt }

abbrev pub refused_with : Line → Refusal → Called
refused_with l why = record { line = l; answer = Err why }

abbrev pub unfed : Line → Refusal → Fed
unfed l why = record { line = l; heard = Err why }

-- a line with no head; what stands in a place past the count does not matter
unfoldable pub empty_of : Line
empty_of = record { heads = replicate 32 (factory_of 0); count = 0 }

-- the serial numbers of its heads
abbrev pub serials_at : Line → List ℕ
serials_at l = serials_of l.count l.heads

-- refusal 20: over 32 heads, or of those below the count one that its test does not let pass or two with one serial number. The test of each head is the
-- old one where the call brings a head over, so that older heads are brought over one after another
unfoldable pub fits_by : Bool → Line → Bool
fits_by bringing l = leb l.count 32 && (all_pass_of bringing l.count l.heads && all_differ (serials_at l))

abbrev pub fits_of : Line → Bool
fits_of l = fits_by false l

abbrev pub head_at : Line → ℕ → Head
head_at l i = get_or l.heads i (factory_of 0)

-- a head put at a place
unfoldable pub placed_of : Line → ℕ → Head → Line
placed_of l i h = record { heads = set l.heads i h; count = l.count }

-- grown by a head: 20, then 2 for the thirty-third head, then 1 for a node number not 1..127, then 17 for a serial number that is on the line
abbrev pub grown_by : Line → ℕ → ℕ → Line
grown_by l node serial = record { heads = set l.heads l.count (fresh_of node serial); count = l.count + 1 }

abbrev pub grow_tests : Line → ℕ → ℕ → Tests
grow_tests l node serial =
    (fits_of l, Malformed) ∷ (ltb l.count 32, Full) ∷ (node_fits node, Node) ∷ (not (among (serials_at l) serial), SerialTaken) ∷ []

unfoldable pub grow_of : Line → ℕ → ℕ → Called
grow_of l node serial = guarded (refused_with l) (grow_tests l node serial) (done_with (grown_by l node serial))

-- a byte: 20, then 6; else every head has heard it, and the answer is the number of replies
abbrev pub replies_at : Line → ℕ → ℕ → List (List ℕ)
replies_at l b at = replies_of l.count l.heads b at

abbrev pub heard_by : Line → ℕ → ℕ → Line
heard_by l b at = record { heads = each (stepped_by b at) l.count l.heads; count = l.count }

unfoldable pub byte_of : Line → ℕ → ℕ → ℕ → Fed
byte_of l b at room =
    cond (fits_of l)
    (cond (ltb room 10) (unfed l Space)
    (record { line = heard_by l b at; heard = Ok (length (replies_at l b at)) }))
    (unfed l Malformed)

-- exactly one reply stands in the first ten bytes and the rest is unchanged; otherwise no byte changes
abbrev pub laid_by_of : List (List ℕ) → List ℕ → List ℕ
laid_by_of [] space = space
laid_by_of (r ∷ []) space = laid_on_of space r
laid_by_of (r ∷ (q ∷ rs)) space = space

unfoldable pub byte_space_of : Line → ℕ → ℕ → List ℕ → List ℕ
byte_space_of l b at space =
    cond (fits_of l) (cond (ltb (length space) 10) space (laid_by_of (replies_at l b at) space)) space

-- a tick reaches every head
unfoldable pub tick_of : Line → ℕ → Called
tick_of l at =
    cond (fits_of l) (done_with (record { heads = each (ticked_at at) l.count l.heads; count = l.count })) (refused_with l Malformed)

-- a call that names a head: 20, by the test that it is told, then 3 for a head number not below the count; then it is the call on that head alone, c, with its own refusals
-- and its answer. That head becomes what it becomes alone, and no other changes
abbrev pub put_back : Line → ℕ → alone.Called → Called
put_back l i c = record { line = placed_of l i c.head; answer = c.answer }

abbrev pub named_by : Bool → Line → ℕ → Tests
named_by bringing l i = (fits_by bringing l, Malformed) ∷ (ltb i l.count, NoHead) ∷ []

abbrev pub named_tests : Line → ℕ → Tests
named_tests l i = named_by false l i

unfoldable pub named_of : Bool → Line → ℕ → alone.Called → Called
named_of bringing l i c = guarded (refused_with l) (named_by bringing l i) (put_back l i c)

unfoldable pub measure_of : Line → ℕ → ℤ → Called
measure_of l i m = named_of false l i (head.measure_of (head_at l i) m)

-- a key state of one head, with the space that is lent: the same, and the space is as that head alone leaves it
abbrev pub put_back_fed : Line → ℕ → lent.Fed → Fed
put_back_fed l i f = record { line = placed_of l i f.head; heard = f.heard }

unfoldable pub keys_of : Line → ℕ → ℕ → ℕ → Fed
keys_of l i state room = guarded (unfed l) (named_tests l i) (put_back_fed l i (head.keys_of (head_at l i) state room))

unfoldable pub keys_space_of : Line → ℕ → ℕ → List ℕ → List ℕ
keys_space_of l i state space = guarded (λ why. space) (named_tests l i) (head.keys_space_of (head_at l i) state space)

unfoldable pub power_of : Line → ℕ → Called
power_of l i = named_of false l i (head.power_of (head_at l i))

-- an older head is brought over, whatever other older heads there are
unfoldable pub bring_of : Line → ℕ → Called
bring_of l i = named_of true l i (head.bring_of (head_at l i))

-- the last non-zero exclusive-or of one head: it names the head too, and hands back no line
unfoldable pub last_hit_of : Line → ℕ → Result ℕ Refusal
last_hit_of l i = guarded Err (named_tests l i) (head.last_hit_of (head_at l i))

-- the serial number of one head: so does this
unfoldable pub serial_number_of : Line → ℕ → Result ℕ Refusal
serial_number_of l i = guarded Err (named_tests l i) (head.serial_number_of (head_at l i))

-- a sheet is loaded into one head
unfoldable pub load_of : Line → ℕ → List ℕ → Called
load_of l i s = named_of false l i (head.load_of (head_at l i) s)

-- the settings of one head are written on a sheet: it hands back no line, and the space is as that head alone leaves it
unfoldable pub save_of : Line → ℕ → ℕ → Result ⊤ Refusal
save_of l i room = guarded Err (named_tests l i) (head.save_of (head_at l i) room)

unfoldable pub save_space_of : Line → ℕ → List ℕ → List ℕ
save_space_of l i space = guarded (λ why. space) (named_tests l i) (head.save_space_of (head_at l i) space)
