-- Demand 2: each telegram gets the answer, or the silence, that the manual and document 01 give it, and the head then stands as they say; each
-- telegram a head sends passes its own check. The definitions of a telegram's way through a head are those of the crates judge (the seven
-- checks, what is done), effects (what each deed does), reply (the answer, with its status word) and head; here they are tied to the public byte
-- call. What the other calls do to a head is in Alone, and what a line's calls are to its heads in Lines.
-- Assumes nothing.
use Rattle.std.specs.Prelude.{ℕ, ◌<◌, ◌≤◌, ◌≡◌, true, false, List, ◌++◌, ℤ, length, take, drop, Ok, is_some}
use Rattle.wire.specs.Check.{hit_of}
use Rattle.wire.specs.Telegram.{ten_in}
use Rattle.judge.specs.declared.deed.Deed.TheVariants.{Restart}
use Rattle.judge.specs.declared.verdict.Standing.{Standing}
use Rattle.judge.specs.declared.verdict.Verdict.TheVariants.{Obeyed}
use Rattle.judge.specs.Commands.{changes_of}
use Rattle.judge.specs.Judged.{judged_of}
use Rattle.state.specs.declared.parts.Head.{Head}
use Rattle.state.specs.declared.parts.ErrorList.{ErrorList}
use Rattle.state.specs.Errors.{remembered_of}
use Rattle.state.specs.Wellformed.{wellformed_of}
use Rattle.reply.specs.Reply.{reply_of}
use Rattle.head.specs.Hear.{standing_of, gathered_of, told_of}
use Rattle.head.specs.Outcome as alone
use Rattle.line.specs.declared.calls.Line.{Line}
use Rattle.line.specs.Calls.{head_at}
use Rattle.demands.specs.Calls.{Ask}
use Rattle.demands.specs.Run.{System, with_ear, alone_of}
use Rattle.demands.specs.Alone.{Taken, entries, entered, Restarted, Ticked, Measured, adopts, Keyed, Adopted, Announced, Brought, New}
use Rattle.demands.specs.Every.{Every}
use Rattle.demands.specs.Bits.{Bits}
use Rattle.demands.specs.Views.{Views}
use Rattle.demands.specs.Lines.{Fits, FitsFor, heard_alone, all_replies, Only, ToOne, Unused, Grown}

pub record Demand2 (m : System) : Type 0 where
  -- a byte that ends no telegram is gathered; no reply, no byte of the space changed, nothing else of the head
  pub gathers : (h : Head) (b t : ℕ) (space : List ℕ) → Taken h space → is_some (gathered_of h.ear b t).ten ≡ false
      → (m.on_head.byte h b t (length space) ≡ record { head = with_ear h (gathered_of h.ear b t).ear; heard = Ok 0 })
      × (m.on_head.space h b t space ≡ space)
  -- a byte that ends a telegram: the head stands as the telegram's way through it says
  pub obeys : (h : Head) (b t : ℕ) (space : List ℕ) → Taken h space → is_some (gathered_of h.ear b t).ten ≡ true
      → let j = judged_of (ten_in (gathered_of h.ear b t).ten) (standing_of h) in (m.on_head.byte h b t (length space)).head ≡ told_of j h t
  -- and it is answered as that way says, by the head before and the head after: the reply in the first ten bytes, the rest unchanged
  pub answers : (h : Head) (b t : ℕ) (space : List ℕ) → Taken h space → is_some (gathered_of h.ear b t).ten ≡ true
      → let j = judged_of (ten_in (gathered_of h.ear b t).ten) (standing_of h) in is_some (reply_of j h (told_of j h t)) ≡ true
      → ((m.on_head.byte h b t (length space)).heard ≡ Ok 1)
      × (m.on_head.space h b t space ≡ ten_in (reply_of j h (told_of j h t)) ++ drop 10 space)
  -- or stays silent, and no byte of the space changes
  pub keeps_silent : (h : Head) (b t : ℕ) (space : List ℕ) → Taken h space → is_some (gathered_of h.ear b t).ten ≡ true
      → let j = judged_of (ten_in (gathered_of h.ear b t).ten) (standing_of h) in is_some (reply_of j h (told_of j h t)) ≡ false
      → ((m.on_head.byte h b t (length space)).heard ≡ Ok 0) × (m.on_head.space h b t space ≡ space)
  -- each telegram that a head sends, alone or on a line, passes its own check
  pub head_sound : (h : Head) (b t : ℕ) (space : List ℕ) → (m.on_head.byte h b t (length space)).heard ≡ Ok 1
      → hit_of (take 10 (m.on_head.space h b t space)) ≡ 0
  pub line_sound : (l : Line) (b t : ℕ) (space : List ℕ) → (m.on_line_of.byte l b t (length space)).heard ≡ Ok 1
      → hit_of (take 10 (m.on_line_of.space l b t space)) ≡ 0
  -- what holds of every telegram: what a reply copies, its status word, and what is left as it was; the bits of that word; and what a head goes by and shows
  pub every : Every m
  pub bits : (h : Head) → Bits h
  pub views : (h : Head) → Views h
  -- a telegram that is judged to restart the head leaves it as power does, and an obeyed write or broadcast of A0h 9 is judged so
  pub restarts : (h : Head) (b t : ℕ) (space : List ℕ) → Taken h space → is_some (gathered_of h.ear b t).ten ≡ true
      → (judged_of (ten_in (gathered_of h.ear b t).ten) (standing_of h)).deed ≡ Restart
      → (m.on_head.byte h b t (length space)).head ≡ (m.on_head.ask alone.power h).head
  pub nine_restarts : (ten : List ℕ) (s : Standing)
      → let j = judged_of ten s in j.verdict ≡ Obeyed → changes_of j.command ≡ true → j.telegram.parameter ≡ 0xA0 → j.telegram.value ≡ 9
      → j.deed ≡ Restart
  -- ---- the other calls on a head, where they are done (Demand1 says when): each part of the head by its sentence of document 01
  pub makes : (node serial : ℕ) → (m.on_head.make node serial).answer ≡ (Ok tt) → New (m.on_head.make node serial).head node
  pub powers : (h : Head) → (m.on_head.ask alone.power h).answer ≡ (Ok tt) → Restarted h (m.on_head.ask alone.power h).head
  pub ticks : (h : Head) (t : ℕ) → (m.on_head.ask (alone.tick t) h).answer ≡ (Ok tt) → Ticked h (m.on_head.ask (alone.tick t) h).head t
  pub measures : (h : Head) (x : ℤ) → (m.on_head.ask (alone.measure x) h).answer ≡ (Ok tt) → Measured h (m.on_head.ask (alone.measure x) h).head x
  -- an older head brought over
  pub brings : (h : Head) → (m.on_head.ask alone.bring h).answer ≡ (Ok tt) → Brought h (m.on_head.ask alone.bring h).head
  -- a key state that adopts no number, with the space lent: no reply, and no byte of the space changed
  pub presses : (h : Head) (state : ℕ) (space : List ℕ) → Taken h space → state ≤ 7 → adopts h state ≡ false
      → Keyed h (m.on_head.keys h state (length space)).head state
      × ((m.on_head.keys h state (length space)).heard ≡ Ok 0)
      × (m.on_head.key_space h state space ≡ space)
  -- one that does: it is told in the first ten bytes, with the status word of before the call, and the rest is unchanged
  pub adopting : (h : Head) (state : ℕ) (space : List ℕ) → Taken h space → state ≤ 7 → adopts h state ≡ true
      → Adopted h (m.on_head.keys h state (length space)).head state
      × ((m.on_head.keys h state (length space)).heard ≡ Ok 1)
      × Announced h space (m.on_head.key_space h state space)
  -- what the last damaged telegram was hit by: what the head keeps of it
  pub shows : (h : Head) → wellformed_of h ≡ true → m.on_head.hit h ≡ Ok h.faults.hit
  -- its serial number: what the head was made with
  pub tells : (h : Head) → wellformed_of h ≡ true → m.on_head.serial h ≡ Ok h.stored.serial
  -- an error list with one code more: of at most ten, in ten places
  pub remembers : (l : ErrorList) (code : ℕ) → length l.codes ≡ 10 → l.count ≤ 10 → entries (remembered_of l code) ≡ entered (entries l) code
  -- ---- a byte on a line that fits, with ten bytes of space: each head then stands as it does alone, and as many are there as before
  pub line_hears : (l : Line) (b t : ℕ) (space : List ℕ) → Fits l → 10 ≤ length space
      → ((k : ℕ) → k < l.count → head_at (m.on_line_of.byte l b t (length space)).line k ≡ (heard_alone m.on_head l b t space k).head)
      × ((m.on_line_of.byte l b t (length space)).line.count ≡ l.count)
  -- where no head replies the answer is 0, and no byte of the space changes
  pub line_silent : (l : Line) (b t : ℕ) (space : List ℕ) → Fits l → 10 ≤ length space
      → ((k : ℕ) → k < l.count → (heard_alone m.on_head l b t space k).heard ≡ Ok 0)
      → ((m.on_line_of.byte l b t (length space)).heard ≡ Ok 0) × (m.on_line_of.space l b t space ≡ space)
  -- where head k replies and no other, the answer is 1, and the space is as that head alone leaves it
  pub line_answers_lem : (l : Line) (b t : ℕ) (space : List ℕ) → Fits l → 10 ≤ length space → (k : ℕ) → Only m.on_head l b t space k
      → ((m.on_line_of.byte l b t (length space)).heard ≡ Ok 1)
      × (m.on_line_of.space l b t space ≡ m.on_head.space (head_at l k) b t space)
  -- where two or more reply the answer is their number, and no byte of the space changes
  pub line_collides : (l : Line) (b t : ℕ) (space : List ℕ) → Fits l → 10 ≤ length space → 2 ≤ all_replies m.on_head l b t space
      → ((m.on_line_of.byte l b t (length space)).heard ≡ Ok (all_replies m.on_head l b t space)) × (m.on_line_of.space l b t space ≡ space)
  -- ---- the other calls on a line that fits: a tick reaches every head, the others the head that they name, as the same call on it alone
  pub line_ticks : (l : Line) (t : ℕ) → Fits l
      → ((k : ℕ) → k < l.count → head_at (m.on_line_of.tick l t).line k ≡ (m.on_head.ask (alone.tick t) (head_at l k)).head)
      × ((m.on_line_of.tick l t).answer ≡ (Ok tt))
      × ((m.on_line_of.tick l t).line.count ≡ l.count)
  pub line_asks : (l : Line) (i : ℕ) (a : Ask) → FitsFor a l → i < l.count
      → ToOne l i (m.on_line_of.ask a l i).line (m.on_head.ask (alone_of a) (head_at l i)).head
      × ((m.on_line_of.ask a l i).answer ≡ (m.on_head.ask (alone_of a) (head_at l i)).answer)
  pub line_presses : (l : Line) (i s : ℕ) (space : List ℕ) → Fits l → i < l.count
      → ToOne l i (m.on_line_of.keys l i s (length space)).line (m.on_head.keys (head_at l i) s (length space)).head
      × ((m.on_line_of.keys l i s (length space)).heard ≡ (m.on_head.keys (head_at l i) s (length space)).heard)
      × (m.on_line_of.key_space l i s space ≡ m.on_head.key_space (head_at l i) s space)
  pub line_grows : (l : Line) (node serial : ℕ) → Fits l → l.count < 32 → Unused l serial
      → Grown l (m.on_line_of.grow l node serial) (m.on_head.make node serial)
  pub line_shows : (l : Line) (i : ℕ) → Fits l → i < l.count → m.on_line_of.hit l i ≡ m.on_head.hit (head_at l i)
  pub line_tells : (l : Line) (i : ℕ) → Fits l → i < l.count → m.on_line_of.serial l i ≡ m.on_head.serial (head_at l i)
