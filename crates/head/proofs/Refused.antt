-- A refused call changes nothing; a refused telegram changes only what document 01 lists, the last non-zero exclusive-or (document 02, request (i)) and,
-- where it is an offer out of range, the offer (request (ii)); a call on a well-formed head is never refused with 20.
-- Assumes nothing.
use Rattle.std.specs.Prelude.{⊤}
use Rattle.std.proofs.Common.{◌≡◌, ℕ, Bool, true, false, cond, not, ltb, ◌≢◌, List, [], ◌∷◌, ◌++◌, length, sym, refl, ◌∙◌, arith, Ok, Err, Result}
use mathlib.Core.Option.{none, some}
use Rattle.wire.specs.Check.{hit_of}
use Rattle.wire.specs.Telegram.{fields_of}
use Rattle.wire.specs.declared.fault.Fault.{Fault}
use Rattle.judge.specs.declared.judged.Judged.{Judged}
use Rattle.judge.specs.declared.verdict.Verdict.{Verdict}
use Rattle.judge.specs.declared.verdict.Verdict.TheVariants.{Silent, Obeyed, Refused}
use Rattle.judge.specs.declared.deed.Deed.TheVariants.{Nothing, Withdraw}
use Rattle.judge.specs.Judged.{judged_as, judged_of}
use Rattle.judge.specs.Verdicts.{verdict_of}
use Rattle.judge.specs.Deeds.{refused_by, deed_of}
use Rattle.judge.proofs.Offers.{drops}
use Rattle.state.specs.declared.parts.Head.{Head}
use Rattle.state.specs.Settings.{value_at, mode_place}
use Rattle.state.specs.Wellformed.{wellformed_of}
use Rattle.state.specs.With.{with_offer}
use Rattle.effects.specs.Stored.{stored_by}
use Rattle.effects.specs.Faults.{counted_of, complained_of, faults_by}
use Rattle.effects.specs.Measured.{measurement_by}
use Rattle.effects.specs.Aimed.{targets_by}
use Rattle.effects.proofs.Turns.{turned_same}
use Rattle.effects.specs.Restart.{empty_ear}
use Rattle.sheet.specs.declared.refusal.Refusal as sheet
use Rattle.head.specs.declared.refusal.Refusal.{Refusal}
use Rattle.head.specs.declared.refusal.Refusal.TheVariants.{Keys, Space, Sheet, Malformed}
use Rattle.head.specs.Hear.{standing_of, restarts_of, started_of, told_of, step_of}
use Rattle.head.specs.Moves.{keyed_of}
use Rattle.head.specs.Calls.{Tests, lent_tests, keys_tests, byte_of, byte_space_of, keys_of, keys_space_of}
use Rattle.head.specs.Outcome.{Ask, tick, measure, keys, power, load, bring, called, brings, own, Call, byte, asked, of_answer, refusal_by, head_after, lent_by, space_after}
use Rattle.head.proofs.Tests.{failed}
use Rattle.head.proofs.Asked.{passes, called_same, called_refusal, lent_refusal, lent_same}

-- ---- a refused call changes no head and no byte of the space
pub record Unchanged (c : Call) (h : Head) : Type 0 where
  pub head : head_after c h ≡ h
  pub space : space_after c h ≡ lent_by c

never : {A : Type 0} {why : Refusal} → none ≡ some why → A
never e = absurd (let z : ◌≡◌ {A = ℕ} 0 1 = cc in omega arith)

pub refused_nothing : (c : Call) (h : Head) {why : Refusal} → refusal_by c h ≡ some why → Unchanged c h
unfolding byte_of byte_space_of keys_of keys_space_of
refused_nothing (byte b at space) h e =
    let ts = lent_tests h [] (length space) in
    let u = lent_same h (step_of h b at) ts space (sym (lent_refusal h (step_of h b at) ts) ∙ e) in record { head = u.0; space = u.1 }
refused_nothing (keys k space) h e =
    let ts = lent_tests h (keys_tests k) (length space) in
    let u = lent_same h (keyed_of h k) ts space (sym (lent_refusal h (keyed_of h k) ts) ∙ e) in record { head = u.0; space = u.1 }
refused_nothing (asked a) h {why} e = record { head = called_same a h why (go (called a h).answer e); space = refl }
  where
    go : (x : Result ⊤ Refusal) → of_answer x ≡ some why → x ≡ Err why
    go (Ok tt) e = never e
    go (Err w) e = cc

-- ---- a refused telegram, or one that is not for this head, changes only the count of damaged ones with error 0080h and its list, the last
-- non-zero exclusive-or, the input list, the monitor, and the bytes gathered; and a write of D2h that is refused for its range drops the offer
abbrev untold : Bool → Verdict → ℕ → Head → ℕ → Head
untold dropped v hit h at =
    record {
      stored = cond dropped (with_offer h.stored 0) h.stored;
      faults = complained_of v (counted_of hit h.faults);
      measurement = h.measurement;
      targets = h.targets;
      monitor = started_of hit at h.monitor;
      ear = empty_ear at;
      keys = h.keys;
    }

-- the telegram is not obeyed
pub data Unheeded : Verdict → Type 0 where
  silent : Unheeded Silent
  refused : {f : Fault} → Unheeded (Refused f)

idle : (j : Judged) (h : Head) (at : ℕ) (dropped : Bool) → j.deed ≡ cond dropped Withdraw Nothing
    → told_of j h at ≡ untold dropped j.verdict j.hit h at
unfolding told_of stored_by faults_by measurement_by targets_by restarts_of
idle j h at true e = rw (e, turned_same (value_at h.stored.values mode_place) h.targets)
idle j h at false e = rw (e, turned_same (value_at h.stored.values mode_place) h.targets)

pub unheeded_only : (h : Head) (ten : List ℕ) (at : ℕ) → let j = judged_of ten (standing_of h) in
    Unheeded j.verdict → told_of j h at ≡ untold (drops j.verdict (fields_of ten).parameter) j.verdict j.hit h at
unfolding judged_of deed_of refused_by
unheeded_only h ten at u =
    idle (judged_of ten (standing_of h)) h at (drops (verdict_of (hit_of ten) (fields_of ten) (standing_of h)) (fields_of ten).parameter)
    (quiet (verdict_of (hit_of ten) (fields_of ten) (standing_of h)) u)
  where
    quiet : (v : Verdict) → Unheeded v → (judged_as (fields_of ten) ten v).deed ≡ cond (drops v (fields_of ten).parameter) Withdraw Nothing
    quiet Silent silent = refl
    quiet Obeyed u = elim u [ ]
    quiet (Refused f) refused = refl

-- ---- 20 never comes for a well-formed head
-- none of these tests gives 20
abbrev Others : Tests → Type 0
Others [] = Unit
Others (t ∷ ts) = (t.1 ≢ Malformed) × Others ts

other : {A : Type 0} (ts : Tests) → Others ts → failed ts ≡ some Malformed → A
other [] o e = never e
other ((true, why) ∷ ts) o e = other ts o.1 e
other ((false, why) ∷ ts) o e = absurd (o.0 (cc))

sheet_other : {why : sheet.Refusal} → Sheet why ≢ Malformed
sheet_other e = let z : ◌≡◌ {A = ℕ} 0 1 = cc in omega arith

own_others : (a : Ask) → Others (own a)
unfolding own
own_others (tick at) = tt
own_others (measure m) = (λ e. let z : ◌≡◌ {A = ℕ} 0 1 = cc in omega arith, tt)
own_others power = tt
own_others (load s) = (sheet_other, (sheet_other, (sheet_other, tt)))
own_others bring = tt

space_other : Space ≢ Malformed
space_other e = let z : ◌≡◌ {A = ℕ} 0 1 = cc in omega arith

keys_other : Keys ≢ Malformed
keys_other e = let z : ◌≡◌ {A = ℕ} 0 1 = cc in omega arith

pub never_malformed : (c : Call) (h : Head) → wellformed_of h ≡ true → refusal_by c h ≡ some Malformed → ⊥
unfolding byte_of keys_of
never_malformed (byte b at space) h w e =
    other ((not (ltb (length space) 10), Space) ∷ []) (space_other, tt) (rw w at (sym (lent_refusal h (step_of h b at) (lent_tests h [] (length space))) ∙ e))
never_malformed (keys k space) h w e =
    other (keys_tests k ++ ((not (ltb (length space) 10), Space) ∷ [])) (keys_other, (space_other, tt))
    (rw w at (sym (lent_refusal h (keyed_of h k) (lent_tests h (keys_tests k) (length space))) ∙ e))
never_malformed (asked a) h w e = other (own a) (own_others a) (rw (passes (brings a) h w) at (sym (called_refusal a h) ∙ e))
