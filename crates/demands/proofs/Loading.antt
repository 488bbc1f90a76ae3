-- A sheet loaded, as the account has it: it is accepted where the head's own tests hold, and then it leaves in each place what the last row that touches
-- it gives.
-- Assumes nothing.
use Rattle.std.specs.Prelude.{Some, None}
use Rattle.std.specs.declared.option.Option as option
use Prim.Native.Nat.{ℕ, zero, suc, ◌<◌}
use mathlib.Core.Path.{◌≡◌, refl, sym, ◌∙◌}
use mathlib.Core.Bool.{Bool, true, false, cond, ◌&&◌}
use mathlib.Core.List.{List}
use mathlib.Core.Option.{Option, none, some}
use native.Mathlib.Omega.{arith}
use lib.ListN.{length, get_or}
use Rattle.rows.specs.Among.{among}
use Rattle.rows.specs.Table.{place_of, is_at}
use Rattle.rows.specs.Access.{stored}
use Rattle.rows.proofs.Groups.{stored_at}
use Rattle.state.specs.declared.parts.Head.{Head}
use Rattle.sheet.specs.Each.{each}
use Rattle.sheet.specs.Format.{count_of, address_of, well_formed_of}
use Rattle.sheet.specs.Loading.{meant_of, known_of, fitting_of, all_known_of, all_fitting_of, store_of, store_at, stored_rows}
use Rattle.sheet.proofs.Each.{each_at}
use Rattle.sheet.proofs.Loads.{stored_length}
use Rattle.head.specs.Calls.{guarded, sheet_tests, loaded_of}
use Rattle.demands.specs.Past.{look, gives, or_else, meant, written, storing, all_stored, all_right, loadable}
use Rattle.demands.proofs.Telegram.{Becomes, value_gives, set_gives}

-- ---- the head's tests are the account's
same_each : (f g : ℕ → Bool) → ((i : ℕ) → f i ≡ g i) → (n : ℕ) → each f n ≡ each g n
same_each f g e zero = refl
same_each f g e (suc n) = rw (same_each f g e n, e n)

module _ (s : List ℕ) where
  pub all_known_is : all_known_of s ≡ all_stored s
  unfolding known_of
  all_known_is = same_each (known_of s) (λ i. among stored (address_of s i)) (λ i. sym (stored_at (address_of s i))) (count_of s)

  pub all_fitting_is : all_fitting_of s ≡ all_right s
  unfolding fitting_of meant_of
  all_fitting_is = refl

  pub guarded_is : {A : Type 0} (x y : A) → guarded (λ why. x) (sheet_tests s) y ≡ cond (loadable s) y x
  unfolding loadable
  guarded_is x y = rw (all_known_is, all_fitting_is) (go (well_formed_of s) (all_stored s) (all_right s))
    where
      go : (a b c : Bool) → cond a (cond b (cond c y x) x) x ≡ cond (a && (b && c)) y x
      go true true c = refl
      go true false c = refl
      go false b c = refl

-- ---- what the rows leave
look_else : {A : Type 0} (o p : Option A) (v : A) → look (or_else o p) v ≡ look o (look p v)
unfolding look
look_else (some w) p v = refl
look_else none p v = refl

module _ (h : Head) (full : length h.stored.values ≡ 39) (s : List ℕ) where
  row_stored : (n r : ℕ) → is_at (place_of (address_of s n)) ≡ true → r < 39
      → get_or (stored_rows h.stored.values s (suc n)) r 0 ≡ look (gives (address_of s n) (meant s n) r) (get_or (stored_rows h.stored.values s n) r 0)
  unfolding store_of meant_of
  row_stored n r k lt = go (place_of (address_of s n)) refl k
    where
      go : (p : option.Option ℕ) → place_of (address_of s n) ≡ p → is_at p ≡ true
          → get_or (store_at p (stored_rows h.stored.values s n) (meant s n)) r 0
          ≡ look (gives (address_of s n) (meant s n) r) (get_or (stored_rows h.stored.values s n) r 0)
      go (Some i) e k =
          rw (value_gives (meant s n) (address_of s n) i r e lt)
          (set_gives (stored_rows h.stored.values s n) i (meant s n) r (omega (arith, stored_length h.stored.values s n, full)))
      go None e k = absurd (let z : ◌≡◌ {A = ℕ} 0 1 = cc in omega arith)

  rows_stored : (n r : ℕ) → ((i : ℕ) → i < n → known_of s i ≡ true) → r < 39
      → get_or (stored_rows h.stored.values s n) r 0 ≡ look (written s n r) (get_or h.stored.values r 0)
  unfolding look known_of
  rows_stored zero r k lt = refl
  rows_stored (suc n) r k lt =
      row_stored n r (k n (omega arith)) lt
      ∙ rw (rows_stored n r (λ i p. k i (omega arith)) lt) (sym (look_else (gives (address_of s n) (meant s n) r) (written s n r) (get_or h.stored.values r 0)))

  pub loaded_becomes : all_known_of s ≡ true → Becomes h.stored (storing s) (loaded_of h s).stored
  unfolding loaded_of look
  loaded_becomes k =
      record {
        size = stored_length h.stored.values s (count_of s);
        vals = λ r lt. rows_stored (count_of s) r (each_at (known_of s) (count_of s) k) lt;
        force = refl;
        lock = refl;
        offer = refl;
      }
