-- Tests in their order: what they refuse, and what holds of a call that is guarded by them.
-- Assumes nothing.
use Rattle.std.proofs.Common.{◌≡◌, true, false, cond, [], ◌∷◌, refl}
use mathlib.Core.Option.{Option, none, some}
use Rattle.head.specs.declared.refusal.Refusal.{Refusal}
use Rattle.head.specs.Calls.{Tests, guarded}

-- the refusal of the first test that fails
abbrev pub failed : Tests → Option Refusal
failed [] = none
failed (t ∷ ts) = cond t.0 (failed ts) (some t.1)

abbrev pub Hold : Tests → Type 0
Hold [] = Unit
Hold (t ∷ ts) = (t.0 ≡ true) × Hold ts

-- what holds where a call is refused, and where it is done as all tests hold, holds of the call
pub either : {C : Type 0} (P : C → Type 0) (f : Refusal → C) (x : C) (ts : Tests)
    → ((why : Refusal) → P (f why)) → (Hold ts → P x) → P (guarded f ts x)
either P f x [] r d = d tt
either P f x ((true, why) ∷ ts) r d = either P f x ts r (λ h. d (refl, h))
either P f x ((false, why) ∷ ts) r d = r why

-- a part of a call that is guarded is that part, guarded
pub part : {C D : Type 0} (g : C → D) (f : Refusal → C) (x : C) (ts : Tests) → g (guarded f ts x) ≡ guarded (λ why. g (f why)) ts (g x)
part g f x [] = refl
part g f x ((true, why) ∷ ts) = part g f x ts
part g f x ((false, why) ∷ ts) = refl

-- what a call says of itself: nothing where it is done, its reason where it is refused
pub says : {C : Type 0} (o : C → Option Refusal) (f : Refusal → C) (x : C) (ts : Tests)
    → ((why : Refusal) → o (f why) ≡ some why) → o x ≡ none → o (guarded f ts x) ≡ failed ts
says o f x [] r d = d
says o f x ((true, why) ∷ ts) r d = says o f x ts r d
says o f x ((false, why) ∷ ts) r d = r why

-- a call that no test refused: all of them hold, and whatever else they guard is what it is without them
pub passed : {B C : Type 0} (P : B → Type 0) (g : Refusal → B) (x : B) (f : Refusal → C) (y : C) (ts : Tests)
    → ((why : Refusal) → P (g why) → ⊥) → P (guarded g ts x) → P x × (guarded f ts y ≡ y) × Hold ts
passed P g x f y [] never p = (p, refl, tt)
passed P g x f y ((true, why) ∷ ts) never p = let z = passed P g x f y ts never p in (z.0, z.1, (refl, z.2))
passed P g x f y ((false, why) ∷ ts) never p = absurd (never why p)
