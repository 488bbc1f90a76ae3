-- Both ends of the wire, proved of the product and of any master that does what is asked of one: ten bytes in time are one telegram told to the head (Heads),
-- what it says is read as it was meant (Asked), who is silent is known from the question (Silence), and a line lays what its one speaker sends (OnLine).
-- Assumes nothing.
use Rattle.std.specs.Prelude.{Ok, is_some}
use Prim.Native.Nat.{ℕ, ◌<◌}
use mathlib.Core.Path.{◌≡◌, refl, sym, ◌∙◌, ap}
use mathlib.Core.Bool.{Bool, true, false, cond, not, or-true, true≢false}
use mathlib.Core.Logic.{◌≢◌, ◌⊎◌, inl, inr, ⊎_elim}
use mathlib.Core.List.{List, [], ◌∷◌, map}
use native.Mathlib.Omega.{arith}
use borrow.Author.Tests.{eqb-true, eqb-false, ne_eqb, lt-ltb, le-ltb}
use lib.Dec.{eqb, ltb}
use lib.ListN.{length, take}
use Rattle.wire.specs.declared.telegram.Telegram.{Telegram}
use Rattle.wire.specs.Telegram.{bytes_of}
use Rattle.state.specs.declared.parts.Head.{Head}
use Rattle.state.proofs.Laws.{told, stored_told}
use Rattle.head.specs.Hear.{tell_of}
use Rattle.head.specs.Calls.{node_fits, byte_of, byte_space_of}
use Rattle.head.proofs.Nodes.{node_within}
use Rattle.line.specs.declared.calls.Line.{Line}
use Rattle.line.specs.Round.{said_by}
use Rattle.line.specs.Calls.{head_at}
use Rattle.demands.specs.Calls.{Calls, Bytes}
use Rattle.demands.specs.Past.{count, value, in_force}
use Rattle.demands.specs.Run.{product, built, head_in}
use Rattle.demands.specs.Alone.{Taken}
use Rattle.demands.proofs.Whole.{said}
use Rattle.demands.proofs.Back.{now_sent}
use Rattle.demands.proofs.Sim.{sim}
use Rattle.demands.proofs.Range.{well_at, value_small}
use Rattle.master.specs.declared.Reading.{Reading}
use Rattle.master.specs.declared.Reading.TheVariants.{Value, Foreign}
use Rattle.master.specs.Demand as master
use Rattle.master.specs.Demand.{Master, May, Demanded}
use Rattle.master.proofs.Demands.{demanded}
use Rattle.exchange.specs.Meant.{meant_of, unanswered}
use Rattle.exchange.specs.Exchange.{Asks, Ready, Given, Quiet, drawn, asks_for, line_answers, Exchange}
use Rattle.exchange.proofs.Asked.{value_read, told_read}
use Rattle.exchange.proofs.Silence.{replied_is}
use Rattle.exchange.proofs.Heads.{in_time, drawn_is, sent_node}
use Rattle.exchange.proofs.OnLine.{no_reply_lem, line_said}

opposite : (b : Bool) → not b ≡ false → b ≡ true
opposite true e = refl
opposite false e = absurd (true≢false e)

-- of two numbers that differ one is not the third
not_both : (m n k : ℕ) → m ≢ n → (m ≢ k) ⊎ (n ≢ k)
not_both m n k differ = go (eqb m k) refl
  where
    go : (x : Bool) → eqb m k ≡ x → (m ≢ k) ⊎ (n ≢ k)
    go true x = inr (λ s. differ (eqb-true m k x ∙ sym s))
    go false x = inl (eqb-false m k x)

module _ (e : Master) (does : Demanded e) where
  module _ (q : Telegram) (a : Asks q) where
    sent : (e.build q).ten ≡ bytes_of q
    sent = (does.builds q a.may).bytes

    -- a telegram told to a head that does not answer it
    nothing_said : (h : Head) (t : ℕ) → unanswered q h ≡ true → said_by (tell_of h (bytes_of q) t) ≡ []
    nothing_said h t u = let e : is_some (tell_of h (bytes_of q) t).reply ≡ false = replied_is q a.fits a.may h t ∙ rw u in rw e

    module _ (τ : ℕ → ℕ) (space : List ℕ) (h : Head) (g : Given τ space) (r : Ready h) where
      drawn_told : drawn product e q τ space h ≡ said_by (tell_of h (bytes_of q) (τ 9))
      drawn_told = rw sent (drawn_is q τ h g.steady r space g.room)

      read_back : map (e.read q) (drawn product e q τ space h) ≡ meant_of q h
      read_back = rw drawn_told (told_read e does q a.fits h r.typed (τ 9))

      none_drawn : unanswered q h ≡ true → drawn product e q τ space h ≡ []
      none_drawn u = drawn_told ∙ nothing_said h (τ 9) u

      unanswered_is : drawn product e q τ space h ≡ [] → unanswered q h ≡ true
      unanswered_is n = opposite _ (sym (replied_is q a.fits a.may h (τ 9)) ∙ no_reply_lem (tell_of h (bytes_of q) (τ 9)) (sym drawn_told ∙ n))

    -- a head whose number in force is not the question's does not answer, and says nothing
    others_silent : (h : Head) → h.stored.number ≢ q.node → unanswered q h ≡ true
    others_silent h n = rw (ne_eqb q.node h.stored.number (λ s. n (sym s))) (or-true (eqb q.command 2))

    others_say : (τ : ℕ → ℕ) (space : List ℕ) (h : Head) → Given τ space → Ready h → h.stored.number ≢ q.node → said (bytes_of q) τ 0 h ≡ []
    others_say τ space h g r n = in_time q τ h g.steady r ∙ nothing_said h (τ 9) (others_silent h n)

    -- ---- on a line whose heads differ in their numbers
    module _ (τ : ℕ → ℕ) (space : List ℕ) (l : Line) (g : Given τ space) (quiet : Quiet l) where
      line_told : (k : ℕ) → ((j : ℕ) → j < l.count → j ≢ k → (head_at l j).stored.number ≢ q.node)
          → line_answers product.on_line_of (e.build q).ten τ 0 l space ≡ cond (ltb k l.count) (said (bytes_of q) τ 0 (head_at l k)) []
      line_told k others =
          rw sent (line_said space g.room τ (bytes_of q) 0 l quiet.fits k (λ j p n. others_say τ space (head_at l j) g (quiet.ready j p) (others j p n)))

      on_line : (k : ℕ) → k < l.count → (head_at l k).stored.number ≡ q.node
          → map (e.read q) (line_answers product.on_line_of (e.build q).ten τ 0 l space) ≡ meant_of q (head_at l k)
      on_line k p own =
          rw (
            line_told k (λ j i n same. quiet.differ j k i p n (same ∙ sym own)),
            lt-ltb k l.count p,
            in_time q τ (head_at l k) g.steady (quiet.ready k p),
          )
          (told_read e does q a.fits (head_at l k) (quiet.ready k p).typed (τ 9))

      nobody : ((k : ℕ) → k < l.count → (head_at l k).stored.number ≢ q.node) → line_answers product.on_line_of (e.build q).ten τ 0 l space ≡ []
      nobody other = line_told l.count (λ j p n. other j p) ∙ rw (le-ltb l.count l.count (omega arith))

  -- a reply of a head whose number in force is not the question's is none to it
  foreign : (q : Telegram) (h : Head) (b t : ℕ) (space : List ℕ) → Taken h space → (byte_of h b t (length space)).heard ≡ Ok 1 → h.stored.number ≢ q.node
      → e.read q (take 10 (byte_space_of h b t space)) ≡ Foreign
  foreign q h b t space k replied n =
      does.foreign q (take 10 (byte_space_of h b t space)) (λ belongs. n (sym (sent_node h b t space k replied) ∙ belongs.node))

  -- a number in force may be asked
  may_ask : (cs : Calls) (k r word value' : ℕ) → k < count cs → May (asks_for (in_force cs k) r word value')
  unfolding node_fits
  may_ask cs k r word value' p =
      let w = stored_told (head_in cs k).stored (told (head_in cs k) (well_at cs k p)).stored in
      record { command = omega arith; node = rw (sim cs k p).force_is at (node_within (head_in cs k).stored.number w.number).1 }

  kept : (cs : Calls) (k r word value' : ℕ) (τ : ℕ → ℕ) (space : List ℕ) → Bytes cs → k < count cs → r < 39 → Given τ space
      → let q = asks_for (in_force cs k) r word value' in
      map (e.read q) (drawn product e q τ space (built.emptied (head_in cs k))) ≡ Value (value cs k r) ∷ []
  kept cs k r word value' τ space bytes p lt g =
      let q = asks_for (in_force cs k) r word value' in
      let x = now_sent cs k r bytes p lt τ word value' space g.steady g.room in
      rw ((does.builds q (may_ask cs k r word value' p)).bytes, x.1)
      (ap (λ (y : Reading). y ∷ []) (value_read e does q (λ z. omega arith) x.0 (value cs k r) (value_small cs bytes k r lt) (λ fd. refl)))

  pub exchanged : Exchange product e
  exchanged =
      record {
        read_back = λ q τ space h a g r. read_back q a τ space h g r;
        silent = λ q τ space h a g r. (unanswered_is q a τ space h g r, none_drawn q a τ space h g r);
        one = λ q τ σ space room h k a g r f s differ.
            ⊎_elim (λ n. inl (none_drawn q a τ space h g r (others_silent q a h n))) (λ n. inr (none_drawn q a σ room k f s (others_silent q a k n))) (not_both _ _ q.node differ);
        apart = λ q b t c u space room h k taken seized said replied differ.
            ⊎_elim (λ n. inl (foreign q h b t space taken said n)) (λ n. inr (foreign q k c u room seized replied n)) (not_both _ _ q.node differ);
        on_line = λ q τ space l a g quiet k p own. on_line q a τ space l g quiet k p own;
        nobody = λ q τ space l a g quiet other. nobody q a τ space l g quiet other;
        kept = kept;
      }

-- the head's end and the master's, as they are built
pub proved : Exchange product master.product
proved = exchanged master.product demanded
