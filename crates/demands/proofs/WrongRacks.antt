-- The wrong racks fail: what the byte calls give, computed, is another answer.
-- Assumes nothing.
use Rattle.std.specs.Prelude.{Ok, Err, Result}
use Prim.Native.Nat.{ℕ}
use mathlib.Core.Path.{◌≡◌, refl, ap}
use mathlib.Core.List.{List, [], ◌++◌}
use mathlib.Core.Option.{Option, none, some}
use native.Mathlib.Omega.{arith}
use lib.ListN.{get_or, set, replicate}
use Rattle.state.specs.declared.parts.Head.{Head}
use Rattle.line.specs.declared.calls.Line.{Line}
use Rattle.line.specs.Calls.{empty_of, head_at}
use Rattle.demands.specs.Cases.{split}
use Rattle.demands.specs.WrongSerials.{in_row}
use Rattle.demands.specs.WrongStretches as gathered
use Rattle.demands.specs.Turns.{taken}
use Rattle.demands.specs.WrongRacks.{with_keys, WrongRacks}
use Rattle.demands.proofs.Computing.{computing}
use Rattle.demands.proofs.Turns.{is_taken}
use Rattle.head.specs.declared.refusal.Refusal.{Refusal}
use Rattle.rack.specs.declared.Tally.{Tally}

-- so many heads at 31, with no bytes gathered; a read of 20h at 31
abbrev heads : ℕ → Line
heads n = record { heads = in_row 1 32; count = n }

abbrev read : List ℕ
read = split 10 0x001F200000000000003F

-- a read of 04h; a head with its left key down
abbrev read_again : List ℕ
read_again = split 10 0x001F040000000000001B

abbrev pressed : Line
pressed = record { heads = set (in_row 1 32) 0 (with_keys (head_at (heads 1) 0) 1); count = 1 }

abbrev number_in : Option ℕ → ℕ
number_in none = 0
number_in (some n) = n

abbrev replies_in : Result Tally Refusal → ℕ
replies_in (Ok counts) = counts.replies
replies_in (Err why) = 0

abbrev collisions_in : Result Tally Refusal → ℕ
collisions_in (Ok counts) = counts.collisions
collisions_in (Err why) = 0

pub wrong_racks : WrongRacks
unfolding computing taken
wrong_racks =
    record {
      lazy_fails = λ d.
          let z : ◌≡◌ {A = ℕ} 9 0 = ((d.drops gathered.one 0 (record { fits = refl; places = refl })).1 0 (omega arith)).none in absurd (omega (arith, z));
      releasing_fails = λ d.
          let z : ◌≡◌ {A = ℕ} 0 1 = ap (λ (h : Head). h.keys) ((d.drops pressed 0 (record { fits = refl; places = refl })).1 0 (omega arith)).rest in
          absurd (omega (arith, z));
      later_fails = λ d.
          let k = is_taken (heads 1) (read ++ read) 20 0 (record { fits = refl; places = refl }) refl in
          let z : ◌≡◌ {A = ℕ} 1 0 = ap (λ (l : Line). (head_at l 0).monitor.since) (d.feeds (heads 1) (read ++ read) 0 20 0 k) in absurd (omega (arith, z));
      reversed_fails = λ d.
          let k = is_taken (heads 1) (read ++ read_again) 20 0 (record { fits = refl; places = refl }) refl in
          let z : ◌≡◌ {A = ℕ} 4 32 = ap (λ (s : List ℕ). get_or s 2 0) (d.lays (heads 1) (read ++ read_again) 0 (replicate 20 7) 0 k) in absurd (omega (arith, z));
      uncounted_fails = λ d.
          let k = is_taken (heads 2) read 10 0 (record { fits = refl; places = refl }) refl in
          let z : ◌≡◌ {A = ℕ} 0 1 = ap collisions_in (d.answers (heads 2) read 0 10 0 k) in absurd (omega (arith, z));
      swapped_fails = λ d.
          let k = is_taken (heads 2) read 10 0 (record { fits = refl; places = refl }) refl in
          let z : ◌≡◌ {A = ℕ} 1 0 = ap replies_in (d.answers (heads 2) read 0 10 0 k) in absurd (omega (arith, z));
      past_fails = λ d.
          let k = is_taken gathered.one [] 0 0 (record { fits = refl; places = refl }) refl in
          let z : ◌≡◌ {A = ℕ} 5 0 = ap (λ (h : Head). h.ear.at) (d.spares gathered.one [] 5 0 0 1 k (omega arith)) in absurd (omega (arith, z));
      from_start_fails = λ d.
          let z : ◌≡◌ {A = ℕ} 0 7 = ap (λ (s : List ℕ). get_or s 0 0) (d.lays (heads 1) read 0 (replicate 20 7) 10 (is_taken (heads 1) read 20 10 (record { fits = refl; places = refl }) refl)) in absurd (omega (arith, z));
      laying_all_fails = λ d.
          let z : ◌≡◌ {A = ℕ} 1 0 = ap replies_in (d.answers (heads 2) read 0 10 0 (is_taken (heads 2) read 10 0 (record { fits = refl; places = refl }) refl)) in absurd (omega (arith, z));
      counting_heads_fails = λ d.
          let z : ◌≡◌ {A = ℕ} 3 1 = ap collisions_in (d.answers (heads 3) read 0 10 0 (is_taken (heads 3) read 10 0 (record { fits = refl; places = refl }) refl)) in absurd (omega (arith, z));
      keeping_fails = λ d.
          let z : ◌≡◌ {A = ℕ} 9 0 = ((d.drops gathered.one 0 (record { fits = refl; places = refl })).1 0 (omega arith)).none in absurd (omega (arith, z));
      ending_fails = λ d.
          let z : ◌≡◌ {A = ℕ} 0 7 = ap (λ (s : List ℕ). get_or s 10 0) (d.lays (heads 1) read 0 (replicate 11 7) 0 (is_taken (heads 1) read 11 0 (record { fits = refl; places = refl }) refl)) in absurd (omega (arith, z));
      overlaying_fails = λ d.
          let z : ◌≡◌ {A = ℕ} 7 0 = ap (λ (s : List ℕ). get_or s 10 0) (d.lays (heads 1) (read ++ read) 0 (replicate 20 7) 0 (is_taken (heads 1) (read ++ read) 20 0 (record { fits = refl; places = refl }) refl)) in absurd (omega (arith, z));
      dropping_first_fails = λ d.
          let z : ◌≡◌ {A = ℕ} 0 9 = ap (λ (l : Line). (head_at l 0).ear.count) (d.rack_same gathered.one read 0 [] 0 16 refl).0 in absurd (omega (arith, z));
      space_first_fails = λ d.
          let z : ◌≡◌ {A = ℕ} 16 15 = ap number_in (d.line_rack empty_of (replicate 11 0) 0 0 0) in absurd (omega (arith, z));
      one_byte_more_fails = λ d.
          let z : ◌≡◌ {A = ℕ} 0 15 = ap number_in (d.line_rack empty_of (replicate 641 0) 0 641 0) in absurd (omega (arith, z));
      one_more_fails = λ d.
          let z : ◌≡◌ {A = ℕ} 0 15 = ap number_in (d.line_rack empty_of (replicate 650 0) 0 650 0) in absurd (omega (arith, z));
      whole_space_fails = λ d.
          let z : ◌≡◌ {A = ℕ} 0 16 = ap number_in (d.line_rack empty_of (replicate 10 0) 0 10 1) in absurd (omega (arith, z));
      beyond_fails = λ d.
          let z : ◌≡◌ {A = ℕ} 0 16 = ap number_in (d.line_rack empty_of [] 0 0 1) in absurd (omega (arith, z));
    }
