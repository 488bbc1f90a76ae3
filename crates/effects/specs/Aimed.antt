-- What happens to the set points, the static bit and the acknowledgements (document 01, FBh, FFh and FAh of "What each one does", bit 4 of "Position and
-- status"; alpha-numeric display: document 02, request (ix)).
-- Assumes nothing.
use Rattle.std.specs.Prelude.{ℕ, Bool, false, cond, not, ◌&&◌, ◌||◌, List}
use Rattle.judge.specs.declared.deed.Deed.{Deed}
use Rattle.judge.specs.declared.deed.Deed.TheVariants.{Nothing, Store, Reset, Restart, Calibrate, Forget, Unlock, Freeze, Aim1, Aim2, ClearStatic, Release, Offer, Withdraw}
use Rattle.state.specs.declared.parts.Measurement.{Measurement}
use Rattle.state.specs.declared.parts.Targets.{Targets}
use Rattle.state.specs.Bits.{bit_set}
use Rattle.state.specs.Mode.{is_display, display_of}
use Rattle.state.specs.Status.{within_of}

-- set points 0 and invalid, taken control word 0, static bit cleared, nothing acknowledged
unfoldable pub no_targets : Targets
no_targets =
    record {
      first = 0;
      valid1 = false;
      second = 0;
      valid2 = false;
      word = 0;
      reached = false;
      acknowledged1 = false;
      acknowledged2 = false;
    }

-- the static bit is set at a measurement or an FFh write after which bit 5 holds, and not in alpha-numeric display
unfoldable pub settled_of : List ℕ → Measurement → Targets → Targets
settled_of vs g t =
    record {
      first = t.first;
      valid1 = t.valid1;
      second = t.second;
      valid2 = t.valid2;
      word = t.word;
      reached = t.reached || within_of vs g t;
      acknowledged1 = t.acknowledged1;
      acknowledged2 = t.acknowledged2;
    }

-- FBh takes the control word: bit 2 is the validity, bit 4 clears the static bit; set point 1 is no longer acknowledged
unfoldable pub first_aimed : ℕ → ℕ → Targets → Targets
first_aimed value word t =
    record {
      first = value;
      valid1 = bit_set word 2;
      second = t.second;
      valid2 = t.valid2;
      word = word;
      reached = t.reached && not (bit_set word 4);
      acknowledged1 = false;
      acknowledged2 = t.acknowledged2;
    }

-- FFh takes the control word: bit 9 is the validity, bit 4 clears the static bit, before the write may set it; set point 2 is no longer acknowledged
unfoldable pub second_aimed : ℕ → ℕ → Targets → Targets
second_aimed value word t =
    record {
      first = t.first;
      valid1 = t.valid1;
      second = value;
      valid2 = bit_set word 9;
      word = word;
      reached = t.reached && not (bit_set word 4);
      acknowledged1 = t.acknowledged1;
      acknowledged2 = false;
    }

-- then, in alpha-numeric display, bits 10 and 6 acknowledge set points 1 and 2 where they are valid; in any other mode nothing is acknowledged
unfoldable pub given_of : Bool → ℕ → Targets → Targets
given_of display word t =
    record {
      first = t.first;
      valid1 = t.valid1;
      second = t.second;
      valid2 = t.valid2;
      word = t.word;
      reached = t.reached;
      acknowledged1 = display && (t.acknowledged1 || (bit_set word 10 && t.valid1));
      acknowledged2 = display && (t.acknowledged2 || (bit_set word 6 && t.valid2));
    }

-- by a key: a valid set point lacks its acknowledgement; all valid ones get it
unfoldable pub lacking_of : Targets → Bool
lacking_of t = (t.valid1 && not t.acknowledged1) || (t.valid2 && not t.acknowledged2)

unfoldable pub all_given_of : Targets → Targets
all_given_of t =
    record {
      first = t.first;
      valid1 = t.valid1;
      second = t.second;
      valid2 = t.valid2;
      word = t.word;
      reached = t.reached;
      acknowledged1 = t.acknowledged1 || t.valid1;
      acknowledged2 = t.acknowledged2 || t.valid2;
    }

-- a read of FAh clears the static bit
unfoldable pub cleared_of : Targets → Targets
cleared_of t =
    record {
      first = t.first;
      valid1 = t.valid1;
      second = t.second;
      valid2 = t.valid2;
      word = t.word;
      reached = false;
      acknowledged1 = t.acknowledged1;
      acknowledged2 = t.acknowledged2;
    }

-- 28h before and after a write, a reset or a sheet: alpha-numeric display is neither entered nor left; 3 over 3 is no change, nor is any other over any other
unfoldable pub stays_of : ℕ → ℕ → Bool
stays_of before after = cond (is_display before) (is_display after) (not (is_display after))

-- entering or leaving it makes both set points invalid and unacknowledged and clears the static bit; the values of the set points and the taken control word
-- stay
unfoldable pub turned_of : ℕ → ℕ → Targets → Targets
turned_of before after t =
    record {
      first = t.first;
      valid1 = stays_of before after && t.valid1;
      second = t.second;
      valid2 = stays_of before after && t.valid2;
      word = t.word;
      reached = stays_of before after && t.reached;
      acknowledged1 = stays_of before after && t.acknowledged1;
      acknowledged2 = stays_of before after && t.acknowledged2;
    }

-- what a deed does to them; what one that changes 28h does comes after (`turned_of`)
unfoldable pub targets_by : Deed → List ℕ → Measurement → Targets → Targets
targets_by Nothing vs g t = t
targets_by (Store i word) vs g t = t
targets_by (Reset command) vs g t = t
targets_by Restart vs g t = t
targets_by Calibrate vs g t = t
targets_by Forget vs g t = t
targets_by (Unlock b) vs g t = t
targets_by Freeze vs g t = t
targets_by (Aim1 value word) vs g t = given_of (display_of vs) word (first_aimed value word t)
targets_by (Aim2 value word) vs g t = settled_of vs g (given_of (display_of vs) word (second_aimed value word t))
targets_by ClearStatic vs g t = cleared_of t
targets_by Release vs g t = t
targets_by (Offer n) vs g t = t
targets_by Withdraw vs g t = t
