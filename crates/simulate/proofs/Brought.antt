-- The bytes of a send, of a load and of a rack: handed on, and just those that stand in the line.
-- Assumes nothing.
use Rattle.std.proofs.Common.{◌≡◌, ℕ, List, length, ap, ◌∙◌}
use native.Mathlib.Nat.{min-eq_left}
use Rattle.line.specs.Calls.{load_of}
use Rattle.text.specs.Lines.{bare_of}
use Rattle.text.specs.Numbers.{bytes_of}
use Rattle.script.specs.declared.Command.TheVariants as command
use Rattle.script.specs.Words.{words_of}
use Rattle.script.specs.Meaning.{meaning_of, read}
use Rattle.script.proofs.Gathered.{as_many, read_at}
use Rattle.script.proofs.Carried.{chars_at, load_bytes, load_within, rack_bytes, rack_within}
use Rattle.simulate.specs.declared.desk.Desk.{Desk}
use Rattle.simulate.specs.Feeding.{nth_of}
use Rattle.simulate.specs.Desk.{room_of, left_of, called_of, feed_of, racked_of, obeyed_of}
use Rattle.simulate.proofs.Bytes.{fed_alike}

-- bytes that were read are fed as those they were read as
pub sends : (d : Desk) (f : ℕ → ℕ) (time : ℕ) {n m : ℕ} {bytes : List ℕ} {x : Desk} → x ≡ feed_of d (nth_of bytes) time (length bytes)
    → bytes ≡ read f n → n ≡ m → x ≡ feed_of d f time m
unfolding feed_of
sends d f time {n} {m} fed is e =
    fed
    ∙ ap (λ (bs : List ℕ). feed_of d (nth_of bs) time (length bs)) is
    ∙ ap (feed_of d (nth_of (read f n)) time) (as_many f n)
    ∙ ap (left_of d) (fed_alike time d.line (nth_of (read f n)) f (room_of d.space) n (read_at f n))
    ∙ ap (feed_of d f time) e

-- a line that means a `Load` loads just the bytes of its third word, and none where there is no such word: they never are more than there is room for
pub loads : (d : Desk) (line : List ℕ) {at from count : ℕ} → meaning_of line ≡ command.Load at from count
    → obeyed_of d line ≡ called_of d (load_of d.line at (bytes_of (chars_at 2 (words_of (bare_of line)))))
unfolding obeyed_of
loads d line e = rw (e, min-eq_left (load_within line e), load_bytes line e)

-- so does a line that means a `Rack`, with its fourth word
pub racks : (d : Desk) (line : List ℕ) {time place from count : ℕ} → meaning_of line ≡ command.Rack time place from count
    → obeyed_of d line ≡ racked_of d time place (bytes_of (chars_at 3 (words_of (bare_of line))))
unfolding obeyed_of
racks d line e = rw (e, min-eq_left (rack_within line e), rack_bytes line e)
