-- What is asked of a master leaves nothing open: two that do it build the same of all fields, and read the same in all bytes.
-- Assumes nothing.
use Rattle.std.specs.Prelude.{Ok, Err, Result, ⊤}
use Prim.Native.Nat.{ℕ}
use mathlib.Core.Path.{◌≡◌, refl, sym, ◌∙◌}
use mathlib.Core.Bool.{Bool, true, false, true≢false}
use mathlib.Core.Logic.{◌⊎◌, inl, inr}
use mathlib.Core.List.{List}
use native.Mathlib.Omega.{arith}
use borrow.Author.Tests.{eqb-true, eqb-false, leb-true, leb-false}
use lib.Dec.{eqb, leb}
use lib.ListN.{get_or}
use Rattle.wire.specs.declared.telegram.Telegram.{Telegram}
use Rattle.master.specs.declared.Refusal.TheVariants.{Outside}
use Rattle.master.specs.Demand.{Master, number_of, May, Belongs, ReadsErrors, Demanded}
use Rattle.master.proofs.Demands.{belongs_all, belongs, all_hold}
use Rattle.master.specs.declared.Refusal.{Refusal}

-- 10 is one refusal
one_ten : (a : Result ⊤ Refusal) → number_of a ≡ 10 → a ≡ Err Outside
one_ten (Ok tt) e = absurd (omega (arith, e))
one_ten (Err Outside) e = refl

may_either : (q : Telegram) → May q ⊎ (May q → ⊥)
may_either q = go (leb q.command 2) refl (leb q.node 127) refl
  where
    go : (a : Bool) → leb q.command 2 ≡ a → (b : Bool) → leb q.node 127 ≡ b → May q ⊎ (May q → ⊥)
    go true e true f = inl (record { command = leb-true q.command 2 e; node = leb-true q.node 127 f })
    go true e false f = inr (λ m. omega (arith, m.node, leb-false q.node 127 f))
    go false e b f = inr (λ m. omega (arith, m.command, leb-false q.command 2 e))

belongs_either : (q : Telegram) (x : List ℕ) → Belongs q x ⊎ (Belongs q x → ⊥)
belongs_either q x = go (belongs_all q x) refl
  where
    go : (b : Bool) → belongs_all q x ≡ b → Belongs q x ⊎ (Belongs q x → ⊥)
    go true e = inl (belongs q x e)
    go false e = inr (λ b. true≢false (sym (all_hold q x b) ∙ e))

reads_either : (q : Telegram) → ReadsErrors q ⊎ (ReadsErrors q → ⊥)
reads_either q = go (eqb q.command 0) refl (eqb q.parameter 0xFD) refl
  where
    go : (a : Bool) → eqb q.command 0 ≡ a → (b : Bool) → eqb q.parameter 0xFD ≡ b → ReadsErrors q ⊎ (ReadsErrors q → ⊥)
    go true e true f = inl (eqb-true q.command 0 e, eqb-true q.parameter 0xFD f)
    go true e false f = inr (λ r. eqb-false q.parameter 0xFD f r.1)
    go false e b f = inr (λ r. eqb-false q.command 0 e r.0)

module _ (m n : Master) (dm : Demanded m) (dn : Demanded n) where
  pub only_built : (q : Telegram) → m.build q ≡ n.build q
  only_built q = go (may_either q)
    where
      go : May q ⊎ (May q → ⊥) → m.build q ≡ n.build q
      go (inl k) =
          let a = dm.builds q k in
          let b = dn.builds q k in
          rw (a.done ∙ sym b.done, a.bytes ∙ sym b.bytes)
      go (inr k) =
          let a = dm.refuses q k in
          let b = dn.refuses q k in
          rw (one_ten (m.build q).answer a.number ∙ sym (one_ten (n.build q).answer b.number), a.nothing ∙ sym b.nothing)

  pub only_read : (q : Telegram) (x : List ℕ) → m.read q x ≡ n.read q x
  only_read q x = go (belongs_either q x) (eqb (get_or x 2 0) 0xFD) refl (reads_either q)
    where
      go : Belongs q x ⊎ (Belongs q x → ⊥) → (fd : Bool) → eqb (get_or x 2 0) 0xFD ≡ fd → ReadsErrors q ⊎ (ReadsErrors q → ⊥) → m.read q x ≡ n.read q x
      go (inr b) fd e r = dm.foreign q x b ∙ sym (dn.foreign q x b)
      go (inl b) true e (inr r) = let fd = eqb-true (get_or x 2 0) 0xFD e in dm.error q x b fd r ∙ sym (dn.error q x b fd r)
      go (inl b) true e (inl r) = dm.value q x b (inr r) ∙ sym (dn.value q x b (inr r))
      go (inl b) false e r = let fd = inl (eqb-false (get_or x 2 0) 0xFD e) in dm.value q x b fd ∙ sym (dn.value q x b fd)
