-- Versions that keep the wrong thing of a damaged telegram (document 02, request (i)), each as a system of its own, and that it does not meet Hits;
-- that no system whose restart leaves it, or that shows something else, meets Demand2; and that one whose head goes by what it keeps does not meet Unseen.
-- Assumes nothing.
use Rattle.std.specs.Prelude.{ℕ, ◌≡◌, cond, List, ltb, eqb, set, Ok, is_some}
use Rattle.wire.specs.Check.{xor_all}
use Rattle.wire.specs.Telegram.{fields_of, ten_in}
use Rattle.judge.specs.Judged.{judged_of}
use Rattle.state.specs.declared.parts.Head.{Head}
use Rattle.effects.specs.Restart.{restarted_of, fresh_of}
use Rattle.head.specs.Hear.{gathered_of, standing_of, restarts_of, tell_of}
use Rattle.head.specs.Calls as head
use Rattle.head.specs.Outcome as alone
use Rattle.line.specs.declared.calls.Line.{Line}
use Rattle.line.specs.Round.{each}
use Rattle.line.specs.Calls as line
use Rattle.rack.specs.Rack as rack
use Rattle.demands.specs.Run.{System, product, with_ear, ask_of}
use Rattle.demands.specs.Demand2.{Demand2}
use Rattle.demands.specs.Hits.{Hits}
use Rattle.demands.specs.Unseen.{keeping, Unseen}

-- what a head should keep of ten bytes that do not restart it
abbrev pub right : Head → List ℕ → ℕ
right h ten = cond (eqb (xor_all ten) 0) h.faults.hit (xor_all ten)

-- ten bytes heard, or a byte, on a line that fits: all is as it should be, but for what is kept, which is f of the head before and of the ten
abbrev pub told_by : (Head → List ℕ → ℕ) → Head → List ℕ → ℕ → Head
told_by f h ten t = keeping (tell_of h ten t).head (cond (restarts_of (judged_of ten (standing_of h)).deed) 0 (f h ten))

abbrev pub stepped_by : (Head → List ℕ → ℕ) → ℕ → ℕ → Head → Head
stepped_by f b t h = let g = gathered_of h.ear b t in cond (is_some g.ten) (told_by f h (ten_in g.ten) t) (with_ear h g.ear)

abbrev pub line_by : (Head → List ℕ → ℕ) → Line → ℕ → ℕ → ℕ → Line
line_by f l b t n = cond (ltb n 10) l (record { heads = each (stepped_by f b t) l.count l.heads; count = l.count })

abbrev pub keeping_by : (Head → List ℕ → ℕ) → System
keeping_by f =
    record {
      on_head = product.on_head;
      on_line_of = record {
        grow = line.grow_of;
        byte = λ l b t n. record { line = line_by f l b t n; heard = (line.byte_of l b t n).heard };
        space = line.byte_space_of;
        tick = line.tick_of;
        ask = ask_of;
        hit = line.last_hit_of;
        keys = line.keys_of;
        key_space = line.keys_space_of;
        save = line.save_of;
        sheet = line.save_space_of;
        serial = line.serial_number_of;
        rack = rack.rack_of;
        rack_space = rack.rack_space_of;
      };
    }

-- keeps a zero, so that it forgets at a sound telegram
abbrev pub zero_kept : System
zero_kept = keeping_by (λ h ten. xor_all ten)

-- misses what is not for its own number
abbrev pub others_missed : System
others_missed = keeping_by (λ h ten. cond (eqb (fields_of ten).node h.stored.number) (right h ten) h.faults.hit)

-- misses broadcasts
abbrev pub casts_missed : System
casts_missed = keeping_by (λ h ten. cond (eqb (fields_of ten).command 2) h.faults.hit (right h ten))

-- keeps the first, and not the last
abbrev pub first_kept : System
first_kept = keeping_by (λ h ten. cond (eqb h.faults.hit 0) (right h ten) h.faults.hit)

-- a yes or no after all
abbrev pub yes_kept : System
yes_kept = keeping_by (λ h ten. cond (eqb (right h ten) 0) 0 1)

-- a restart that leaves it, whatever else the calls do
abbrev pub KeptAtPower : System → Type 0
KeptAtPower m = (h : Head) → m.on_head.ask alone.power h ≡ head.done_with (keeping (restarted_of h) h.faults.hit)

-- answers no more once it keeps something
abbrev pub muted : System
muted =
    record {
      on_head = record {
        make = head.made_of;
        byte = λ h b t n.
            let f = head.byte_of h b t n in record { head = f.head; heard = cond (eqb h.faults.hit 0) f.heard (Ok 0) };
        space = head.byte_space_of;
        ask = alone.called;
        hit = head.last_hit_of;
        keys = head.keys_of;
        key_space = head.keys_space_of;
        save = head.save_of;
        sheet = head.save_space_of;
        serial = head.serial_number_of;
      };
      on_line_of = product.on_line_of;
    }

-- a line of two heads, of which the second keeps 5; what is shown of the first
abbrev pub pair : Line
pair = record { heads = set (set (line.empty_of).heads 0 (fresh_of 31 0)) 1 (keeping (fresh_of 12 1) 5); count = 2 }

pub record WrongHits : Type 0 where
  pub zero_kept_fails : Hits zero_kept → ⊥
  pub others_missed_fails : Hits others_missed → ⊥
  pub casts_missed_fails : Hits casts_missed → ⊥
  pub first_kept_fails : Hits first_kept → ⊥
  pub yes_kept_fails : Hits yes_kept → ⊥
  pub kept_at_power_fails : (m : System) → KeptAtPower m → Demand2 m → ⊥
  pub muted_fails : Unseen muted → ⊥
  -- nothing is shown of what is kept; the first head's is shown for that of the head that is named
  pub nothing_shown_fails : (m : System) → m.on_head.hit (keeping (fresh_of 31 0) 5) ≡ Ok 0 → Demand2 m → ⊥
  pub first_shown_fails : (m : System) → m.on_line_of.hit pair 1 ≡ m.on_head.hit (fresh_of 31 0) → Demand2 m → ⊥
