-- The wrong systems fail: demands 1 and 2 each by a head at 31, alone or on a line, and a byte or a call; demand 3 by the runs of Echo.
-- Assumes nothing.
use Rattle.std.specs.Prelude.{Ok, is_some}
use Prim.Native.Nat.{ℕ, ◌%◌}
use mathlib.Core.Path.{◌≡◌, refl, sym, ◌∙◌, ap}
use mathlib.Core.Bool.{true, false}
use mathlib.Core.List.{List, [], ◌∷◌, ◌++◌}
use mathlib.Core.Option.{Option, some}
use native.Mathlib.Omega.{arith}
use lib.IntN.{pos, nat_abs}
use lib.ListN.{replicate, get_or, set}
use Rattle.wire.specs.Telegram.{ten_in}
use Rattle.judge.specs.declared.judged.Judged.{Judged}
use Rattle.judge.specs.Judged.{judged_of}
use Rattle.state.specs.declared.parts.Head.{Head}
use Rattle.state.specs.declared.parts.Stored.{Stored}
use Rattle.state.specs.declared.parts.Faults.{Faults}
use Rattle.state.specs.declared.parts.Monitor.{Monitor}
use Rattle.state.specs.Errors.{empty_list, remembered_of}
use Rattle.effects.specs.Restart.{fresh_of}
use Rattle.reply.specs.Reply.{reply_of}
use Rattle.head.specs.Hear.{gathered_of, standing_of, told_of}
use Rattle.head.specs.Calls.{factory_of, byte_of, byte_space_of}
use Rattle.head.specs.declared.refusal.Refusal.{Refusal}
use Rattle.head.specs.declared.calls.Fed.{Fed}
use Rattle.line.specs.declared.calls.Line.{Line}
use Rattle.line.specs.Calls as line
use Rattle.demands.specs.Calls.{measure, keys}
use Rattle.demands.specs.Cases.{split, gathered}
use Rattle.demands.specs.Run.{OnLine, System, product}
use Rattle.demands.specs.Lines.{Fits, Only}
use Rattle.demands.specs.Demand1.{Demand1}
use Rattle.demands.specs.Alone.{Taken}
use Rattle.demands.specs.Demand2.{Demand2}
use Rattle.demands.specs.Wrong.{refusing, unchanging, counting, respoken, head_saying, parroting, altered, inventing, zeroing, IdlePower, IdleTick, BaudOfNode, Forgets, FirstToo, FourForFive, SevenMade, Wrong}
use Rattle.demands.proofs.Computing.{computing}
use Rattle.demands.proofs.Echo.{echoing_fails, hasty_fails}

-- ---- a head at 31, and others made of it: with an error remembered and one replied; with a key down; with 02h 1 and the monitor running since
-- 0; with nine bytes of a telegram gathered. Ten bytes of space
abbrev pub new : Head
new = fresh_of 31 0

abbrev like : Stored → Faults → Monitor → ℕ → Head
like s f m k =
    record { stored = s; faults = f; measurement = new.measurement; targets = new.targets; monitor = m; ear = new.ear; keys = k }

abbrev faulty : Head
faulty =
    like new.stored (record { memory = remembered_of empty_list 0x0080; inputs = remembered_of empty_list 0x0282; pending = 0; hit = 0; damaged = 0 }) new.monitor 0

abbrev pressed : Head
pressed = like new.stored new.faults new.monitor 1

abbrev watched : Head
watched =
    let s = new.stored in
    like (record { values = set s.values 2 1; number = s.number; baud = s.baud; offer = s.offer; serial = s.serial; unlocked = s.unlocked }) new.faults
    (record { running = true; since = 0 }) 0

abbrev pub space : List ℕ
space = replicate 10 0

-- ---- refuses, changes nothing, invents the count: by the first byte of a telegram
new_taken : Taken new space
unfolding computing
new_taken = record { well = refl; room = omega arith }

new_gathers : (is_some (gathered_of new.ear 0 0).ten ≡ false) × (new.ear.count ≡ 0) × ((gathered_of new.ear 0 0).ear.count ≡ 1)
unfolding computing
new_gathers = (refl, refl, refl)

refusing_fails : (why : Refusal) → Demand2 (refusing why) → ⊥
refusing_fails why d =
    let e = ap (λ (f : Fed). f.heard) (d.gathers new 0 0 space new_taken new_gathers.0).0 in
    let z : ◌≡◌ {A = ℕ} 0 1 = cc in omega arith

unchanging_fails : Demand2 unchanging → ⊥
unchanging_fails d =
    let e = ap (λ (f : Fed). f.head.ear.count) (d.gathers new 0 0 space new_taken new_gathers.0).0 in
    let z : ◌≡◌ {A = ℕ} 0 1 = sym new_gathers.1 ∙ e ∙ new_gathers.2 in omega arith

-- ---- a telegram ended by a byte: it is whole, and answered so
abbrev judged : Head → ℕ → Judged
judged h b = judged_of (ten_in (gathered_of h.ear b 0).ten) (standing_of h)

record Ends (h : Head) (b reply : ℕ) : Type 0 where
  taken : Taken h space
  ends : is_some (gathered_of h.ear b 0).ten ≡ true
  answered : is_some (reply_of (judged h b) h (told_of (judged h b) h 0)) ≡ true
  reply_is : ten_in (reply_of (judged h b) h (told_of (judged h b) h 0)) ≡ split 10 reply
  heard_is : (byte_of h b 0 10).heard ≡ Ok 1
  laid_is : byte_space_of h b 0 space ≡ split 10 reply

-- reads of 20h, 04h, 80h and 96h
abbrev pub read20 : Head
read20 = gathered new 0x001F20000000000000

record Reads : Type 0 where
  reads20 : Ends read20 0x3F 0x001F200000000000053A
  reads04 : Ends (gathered new 0x001F04000000000000) 0x1B 0x001F040000000000051E
  none80 : Ends (gathered new 0x001F80000000000000) 0x9F 0x001F800000000000009F
  one80 : Ends (gathered faulty 0x001F80000000000000) 0x9F 0x001F800000000000019E
  none96 : Ends (gathered new 0x001F96000000000000) 0x89 0x001F9600000000000089
  one96 : Ends (gathered faulty 0x001F96000000000000) 0x89 0x001F9600000000000188

reads : Reads
unfolding computing
reads =
    record {
      reads20 = record { taken = record { well = refl; room = omega arith }; ends = refl; answered = refl; reply_is = refl; heard_is = refl; laid_is = refl };
      reads04 = record { taken = record { well = refl; room = omega arith }; ends = refl; answered = refl; reply_is = refl; heard_is = refl; laid_is = refl };
      none80 = record { taken = record { well = refl; room = omega arith }; ends = refl; answered = refl; reply_is = refl; heard_is = refl; laid_is = refl };
      one80 = record { taken = record { well = refl; room = omega arith }; ends = refl; answered = refl; reply_is = refl; heard_is = refl; laid_is = refl };
      none96 = record { taken = record { well = refl; room = omega arith }; ends = refl; answered = refl; reply_is = refl; heard_is = refl; laid_is = refl };
      one96 = record { taken = record { well = refl; room = omega arith }; ends = refl; answered = refl; reply_is = refl; heard_is = refl; laid_is = refl };
    }

counting_fails : (k : ℕ) → Demand2 (counting k) → ⊥
counting_fails k d =
    let t = reads.reads20 in
    let e = ap (λ (f : Fed). f.heard) (d.gathers new 0 0 space new_taken new_gathers.0).0 in
    let f = (d.answers _ 0x3F 0 space t.taken t.ends t.answered).0 in
    let z : ◌≡◌ {A = ℕ} 0 1 = cc in omega arith

-- ---- other replies: what stands in the space is the reply
saying_is : (f : List ℕ → List ℕ) (m : OnLine) → Demand2 (record { on_head = head_saying f; on_line_of = m }) → (h : Head) (b reply : ℕ) → Ends h b reply
    → f (split 10 reply) ++ [] ≡ split 10 reply ++ []
saying_is f m d h b reply k =
    let e = (d.answers h b 0 space k.taken k.ends k.answered).1 in rw k.reply_is at (rw (k.heard_is, k.laid_is) at e)

parroting_fails : (x : List ℕ) → Demand2 (parroting x) → ⊥
parroting_fails x d =
    let e : split 10 0x001F200000000000053A ++ [] ≡ split 10 0x001F040000000000051E ++ [] =
    sym (saying_is (λ r. x) _ d _ _ _ reads.reads20) ∙ saying_is (λ r. x) _ d _ _ _ reads.reads04 in
    let z : ◌≡◌ {A = ℕ} 0x20 0x04 = ap (λ (l : List ℕ). get_or l 2 0) e in
    omega arith

-- the last data byte is that of the count, with none and with one
module _ (c : ℕ) where
  inventing_80h_fails : Demand2 (inventing 0x80 c) → ⊥
  unfolding computing
  inventing_80h_fails d =
      let p : c % 256 ≡ 0 = ap (λ (l : List ℕ). get_or l 8 0) (saying_is (altered 0x80 c) _ d _ _ _ reads.none80) in
      let q : c % 256 ≡ 1 = ap (λ (l : List ℕ). get_or l 8 0) (saying_is (altered 0x80 c) _ d _ _ _ reads.one80) in
      omega (arith, sym p ∙ q)

  inventing_96h_fails : Demand2 (inventing 0x96 c) → ⊥
  unfolding computing
  inventing_96h_fails d =
      let p : c % 256 ≡ 0 = ap (λ (l : List ℕ). get_or l 8 0) (saying_is (altered 0x96 c) _ d _ _ _ reads.none96) in
      let q : c % 256 ≡ 1 = ap (λ (l : List ℕ). get_or l 8 0) (saying_is (altered 0x96 c) _ d _ _ _ reads.one96) in
      omega (arith, sym p ∙ q)

-- a line of that one head
abbrev lone : Line
lone = record { heads = read20 ∷ replicate 31 (factory_of 0); count = 1 }

lone_fits : Fits lone
unfolding computing
lone_fits = record { fits = refl; places = refl }

zeroing_fails : Demand2 zeroing → ⊥
zeroing_fails d =
    let t = reads.reads20 in
    let o : Only product.on_head lone 0x3F 0 space 0 = record { there = omega arith; speaks = t.heard_is; others = λ j p n. absurd (n (omega arith)) } in
    let e = d.line_answers_lem lone 0x3F 0 space lone_fits (omega arith) 0 o in
    let s : respoken (λ r. replicate 10 0) (Ok 1) (line.byte_space_of lone 0x3F 0 space) ≡ split 10 0x001F200000000000053A = rw e.0 at (e.1 ∙ t.laid_is) in
    let z : ◌≡◌ {A = ℕ} 0 31 = ap (λ (l : List ℕ). get_or l 1 0) s in
    omega arith

-- two heads
abbrev two : Line
two = record { heads = new ∷ fresh_of 31 1 ∷ replicate 30 new; count = 2 }

two_fits : Fits two
unfolding computing
two_fits = record { fits = refl; places = refl }

-- ---- one call wrong: it is said to be done, and what it leaves is not what its sentence says
module _ (m : System) where
  idle_power_fails : IdlePower m → Demand2 m → ⊥
  idle_power_fails e d = let z : ◌≡◌ {A = ℕ} 1 0 = rw (e pressed) at (d.powers pressed (rw (e pressed))).keys in omega arith

  idle_tick_fails : IdleTick m → Demand2 m → ⊥
  unfolding computing
  idle_tick_fails e d = let z : ◌≡◌ {A = ℕ} 0 0x81 = rw (e watched 100) at (d.ticks watched 100 (rw (e watched 100))).pending in omega arith

  baud_of_node_fails : BaudOfNode m → Demand2 m → ⊥
  unfolding computing
  baud_of_node_fails e d = let z : ◌≡◌ {A = ℕ} 31 1 = rw (e new) at (d.powers new (rw (e new))).baud in omega arith

  forgetting_fails : Forgets m → Demand2 m → ⊥
  unfolding computing
  forgetting_fails e d =
      let z : ◌≡◌ {A = ℕ} 6 5 = ap (λ (l : List ℕ). get_or l 4 0) (rw (e new) at (d.powers new (rw (e new))).values) in omega arith

  first_too_fails : FirstToo m → Demand2 m → ⊥
  unfolding computing
  first_too_fails e d =
      let a = measure (pos 2) in
      let t = (d.line_asks two 1 a (record { takes = two_fits.fits; places = two_fits.places }) (omega arith)).0 in
      let z : ◌≡◌ {A = ℕ} 2 0 = ap (λ (h : Head). nat_abs h.measurement.m) (rw (e a two 1) at (t.others 0 (λ i. omega arith))) in
      omega arith

  four_for_five_fails : FourForFive m → Demand1 m → ⊥
  unfolding computing
  four_for_five_fails e d =
      let k : ◌≡◌ {A = Option ℕ} (some 4) (some 5) = rw (e two 0 10) at (d.line_number (keys 0 8 10) two) in
      let z : ◌≡◌ {A = ℕ} 4 5 = cc in
      omega arith

  seven_made_fails : SevenMade m → Demand1 m → ⊥
  unfolding computing
  seven_made_fails e d =
      let z : ◌≡◌ {A = ℕ} 7 31 = ap (λ (h : Head). h.stored.number) (rw e at (d.made_factory 0 0 1 (rw e)).0) in omega arith

pub wrong : Wrong
wrong =
    record {
      refusing_fails = refusing_fails;
      unchanging_fails = unchanging_fails;
      parroting_fails = parroting_fails;
      counting_fails = counting_fails;
      inventing_80h_fails = inventing_80h_fails;
      inventing_96h_fails = inventing_96h_fails;
      zeroing_fails = zeroing_fails;
      idle_power_fails = idle_power_fails;
      idle_tick_fails = idle_tick_fails;
      baud_of_node_fails = baud_of_node_fails;
      forgetting_fails = forgetting_fails;
      first_too_fails = first_too_fails;
      four_for_five_fails = four_for_five_fails;
      seven_made_fails = seven_made_fails;
      echoing_fails = echoing_fails;
      hasty_fails = hasty_fails;
    }
