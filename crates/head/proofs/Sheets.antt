-- A sheet loaded into a head, and one written from it: what the sheet's own check answers is what the call's tests give, in their order.
-- Assumes nothing.
use Rattle.std.proofs.Common.{◌≡◌, ℕ, Bool, true, false, ltb, List, length, refl}
use Rattle.state.specs.declared.parts.Head.{Head}
use Rattle.state.specs.Settings.{value_at, mode_place}
use Rattle.state.specs.Wellformed.{wellformed_of}
use Rattle.state.specs.With.{with_stored, with_targets, with_values}
use Rattle.effects.specs.Aimed.{turned_of}
use Rattle.effects.proofs.Turns.{turned_same}
use Rattle.sheet.specs.Format.{well_formed_of}
use Rattle.sheet.specs.Loading.{all_known_of, all_fitting_of, check_of}
use Rattle.sheet.specs.Loading as loading
use Rattle.sheet.specs.Writing.{whole, write_of, written_on}
use Rattle.head.specs.declared.calls.Called.{Called}
use Rattle.head.specs.Calls.{loaded_of, load_of, told_of, save_of, save_space_of}

-- the head that the code makes, and what it answers
abbrev pub loaded_by : Head → List ℕ → Called
loaded_by h s =
    let vs = (loading.load_of h.stored.values s).values in
    record {
      head = with_targets (with_stored h (with_values h.stored vs)) (turned_of (value_at h.stored.values mode_place) (value_at vs mode_place) h.targets);
      answer = told_of (check_of s);
    }

pub load_told : (h : Head) (s : List ℕ) → wellformed_of h ≡ true → load_of h s ≡ loaded_by h s
unfolding load_of loaded_of loading.load_of check_of
load_told h s f = go (well_formed_of s) refl (all_known_of s) refl (all_fitting_of s) refl
  where
    still : turned_of (value_at h.stored.values mode_place) (value_at h.stored.values mode_place) h.targets ≡ h.targets
    still = turned_same (value_at h.stored.values mode_place) h.targets

    go : (a : Bool) → well_formed_of s ≡ a → (b : Bool) → all_known_of s ≡ b → (c : Bool) → all_fitting_of s ≡ c → load_of h s ≡ loaded_by h s
    go true p true q true r = rw (f, p, q, r)
    go true p true q false r = rw (f, p, q, r, still)
    go true p false q c r = rw (f, p, q, still)
    go false p b q c r = rw (f, p, still)

-- and so for one that is written
module _ (h : Head) where
  pub save_told : (room : ℕ) → wellformed_of h ≡ true → save_of h room ≡ told_of (write_of room)
  unfolding save_of write_of
  save_told room f = go (ltb room whole) refl
    where
      go : (t : Bool) → ltb room whole ≡ t → save_of h room ≡ told_of (write_of room)
      go true e = rw (f, e)
      go false e = rw (f, e)

  pub space_told : (space : List ℕ) → wellformed_of h ≡ true → save_space_of h space ≡ written_on h.stored.values space
  unfolding save_space_of written_on
  space_told space f = go (ltb (length space) whole) refl
    where
      go : (t : Bool) → ltb (length space) whole ≡ t → save_space_of h space ≡ written_on h.stored.values space
      go true e = rw (f, e)
      go false e = rw (f, e)
