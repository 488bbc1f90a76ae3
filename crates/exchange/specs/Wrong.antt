-- Wrong ends of the wire: heads that are wrong with the right master, and masters that are wrong with the right heads. With none of them is what is sent
-- read back as it was meant (proofs/Wrongs). What a wrong master builds, and reads in bytes that no head sends, is the crate master's own (Wrong there).
-- Assumes nothing.
use Rattle.std.specs.Prelude.{◌+◌, cond, eqb}
use Rattle.wire.specs.declared.telegram.Telegram.{Telegram}
use Rattle.wire.specs.Telegram.{fields_of, bytes_of}
use Rattle.head.specs.declared.refusal.Refusal.{Refusal}
use Rattle.demands.specs.Run.{System, product}
use Rattle.demands.specs.Wrong.{refusing, counting, head_saying, line_saying, inventing, zeroing}
use Rattle.master.specs.Demand as master
use Rattle.master.specs.Wrong.{any_node, no_errors, always_error, never_error, value_to_write, value_to_read}
use Rattle.exchange.specs.Exchange.{Exchange}

-- sends other replies: f of each
abbrev pub saying : (Telegram → Telegram) → System
saying f = record { on_head = head_saying (λ x. bytes_of (f (fields_of x))); on_line_of = line_saying (λ x. bytes_of (f (fields_of x))) }

-- under the node that follows its own; an error under parameter 0, and not under FDh; data one too high
abbrev pub next_node : Telegram → Telegram
next_node x = record { command = x.command; node = x.node + 1; parameter = x.parameter; word = x.word; value = x.value }

abbrev pub error_at_zero : Telegram → Telegram
error_at_zero x = record { command = x.command; node = x.node; parameter = cond (eqb x.parameter 0xFD) 0 x.parameter; word = x.word; value = x.value }

abbrev pub one_more_of : Telegram → Telegram
one_more_of x = record { command = x.command; node = x.node; parameter = x.parameter; word = x.word; value = x.value + 1 }

abbrev pub WithMaster : System → Type 0
WithMaster m = Exchange m master.product

abbrev pub WithHeads : master.Master → Type 0
WithHeads e = Exchange product e

pub record Wrong : Type 0 where
  -- refuses every byte; says that it replied at every byte
  pub refusing_fails : (why : Refusal) → WithMaster (refusing why) → ⊥
  pub counting_fails : WithMaster (counting 1) → ⊥
  -- sends other replies; an invented count at 80h
  pub next_node_fails : WithMaster (saying next_node) → ⊥
  pub error_at_zero_fails : WithMaster (saying error_at_zero) → ⊥
  pub one_more_fails : WithMaster (saying one_more_of) → ⊥
  pub inventing_fails : WithMaster (inventing 0x80 7) → ⊥
  -- heads that are right on a line that lays ten bytes of 0
  pub zeroing_fails : WithMaster zeroing → ⊥
  -- takes a reply of another node; no error at all; FDh always for an error, never, as a value to a write, as a value to any read
  pub any_node_fails : WithHeads any_node → ⊥
  pub no_errors_fails : WithHeads no_errors → ⊥
  pub always_error_fails : WithHeads always_error → ⊥
  pub never_error_fails : WithHeads never_error → ⊥
  pub value_to_write_fails : WithHeads value_to_write → ⊥
  pub value_to_read_fails : WithHeads value_to_read → ⊥
