-- Where a part of a head alone is another, and each telegram does the same, so does the byte call.
-- Assumes nothing.
use Prim.Native.Nat.{ℕ}
use mathlib.Core.Path.{◌≡◌, refl, sym, subst}
use mathlib.Core.Bool.{Bool, true, false, cond}
use mathlib.Core.List.{List}
use lib.Dec.{ltb}
use Rattle.std.specs.Prelude.{is_some}
use Rattle.wire.specs.Telegram.{ten_in}
use Rattle.state.specs.declared.parts.Head.{Head}
use Rattle.state.specs.declared.parts.Ear.{Ear}
use Rattle.state.specs.Wellformed.{wellformed_of}
use Rattle.state.specs.With.{with_ear}
use Rattle.head.specs.declared.hear.Gathered.{Gathered}
use Rattle.head.specs.declared.hear.Stepped.{Stepped}
use Rattle.head.specs.Hear.{gathered_of, tell_of, step_by, step_of}
use Rattle.head.specs.Calls.{byte_of, byte_space_of}
use Rattle.head.proofs.Passes.{unanswered}

-- ---- a byte: the same reply, and heads that are alike, of whatever that says
abbrev pub Steps : (Head → Head → Type 0) → Stepped → Stepped → Type 0
Steps Alike s r = (is_some s.reply ≡ is_some r.reply) × (ten_in s.reply ≡ ten_in r.reply) × Alike s.head r.head

module _ (Alike : Head → Head → Type 0) (k h : Head) where
  abbrev Same : Stepped → Stepped → Type 0
  Same = Steps Alike

  pub steps : k.ear ≡ h.ear → ((e : Ear) → Alike (with_ear k e) (with_ear h e)) → ((ten : List ℕ) (t : ℕ) → Same (tell_of k ten t) (tell_of h ten t))
      → (b t : ℕ) → Same (step_of k b t) (step_of h b t)
  unfolding step_of
  steps same idle tells b t = subst (λ (e : Ear). Same (step_by k (gathered_of e b t) t) (step_of h b t)) (sym same) (go (gathered_of h.ear b t))
    where
      go : (g : Gathered) → Same (step_by k g t) (step_by h g t)
      go g =
          elim (is_some g.ten) as (λ w. Same (cond w (tell_of k (ten_in g.ten) t) (unanswered (with_ear k g.ear))) (cond w (tell_of h (ten_in g.ten) t) (unanswered (with_ear h g.ear))))
          [ true ↦ tells (ten_in g.ten) t | false ↦ (refl, refl, idle g.ear) ]

  module _ (alike : Alike k h) (well : wellformed_of k ≡ wellformed_of h) (b t : ℕ) (s : Same (step_of k b t) (step_of h b t)) where
    pub hears : (n : ℕ) → let f = byte_of k b t n in let g = byte_of h b t n in (f.heard ≡ g.heard) × Alike f.head g.head
    unfolding byte_of
    hears n = go (wellformed_of h) (ltb n 10) refl refl
      where
        go : (w r : Bool) → wellformed_of h ≡ w → ltb n 10 ≡ r → ((byte_of k b t n).heard ≡ (byte_of h b t n).heard) × Alike (byte_of k b t n).head (byte_of h b t n).head
        go true true p q = rw (well, p, q) (refl, alike)
        go true false p q = rw (well, p, q, s.0) (refl, s.2)
        go false r p q = rw (well, p) (refl, alike)

    pub lays : (space : List ℕ) → byte_space_of k b t space ≡ byte_space_of h b t space
    unfolding byte_space_of
    lays space = rw (well, s.0, s.1)
