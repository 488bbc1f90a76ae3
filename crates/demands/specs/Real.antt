-- The calls that a program makes are the product's: what the contract of each call allows is what the system has for it. The demands speak of a
-- system (Run); this ties it to the code, so that no call can promise something else than the definition that the demands are proved of.
-- Assumes nothing.
use Rattle.std.specs.Prelude.{ℕ, ◌≡◌, List, [], ◌∷◌, ℤ, map, length, take, drop}
use seplogic.Ra.Ura.{Ura}
use base.Logic.{SProp, emp}
use prog.Memory.{Memory}
use prog.Routine.{Routine}
use types.Logic.{Logic}
use contract.Lifetimes.{Lfts}
use contract.Monad.{Fun, fact}
use denote.Struct.Field.{u32-field, u64-field}
use denote.Triple.Entry.{Args}
use denote.Triple.Clauses.{Lasts, AtExit, at_exit}
use borrow.Fn.Kinds.{ParamKind, ResultKind, Dens, res_t, ended_of, In, Out}
use mir.Syntax.{Ty, w32, w64, ty_int}
use Rattle.state.specs.declared.parts.Head.{Head}
use Rattle.head.specs.Refusals.{refusal_of}
use Rattle.head.specs.Outcome as alone
use Rattle.line.specs.declared.calls.Line.{Line}
use Rattle.line.specs.Calls.{empty_of, fits_of}
use Rattle.line.specs.Stretch.{until_of, until_space_of}
use Rattle.head.proofs.calls as head-calls
use Rattle.head.proofs.refusal as head-refusal
use Rattle.line.proofs.calls as line-calls
use Rattle.line.specs.contracts.round as line-round
use Rattle.line.specs.declared.round.Replies.{Replies}
use Rattle.line.specs.Round.{tally, replies_by}
use Rattle.head.specs.Hear.{tell_of}
use Rattle.rack.proofs as rack
use Rattle.sheet.specs.declared.reader.SheetReader.{SheetReader}
use Rattle.sheet.specs.declared.reader.Reading.{Reading}
use Rattle.sheet.specs.Refusals as sheet
use Rattle.sheet.specs.Format.{well_formed_of, read_of}
use Rattle.sheet.specs.Reader.{new_of, advanced_of}
use Rattle.sheet.specs.Loading as loading
use Rattle.sheet.specs.Writing as writing
use Rattle.sheet.proofs.format as sheet-format
use Rattle.sheet.proofs.load as sheet-load
use Rattle.sheet.specs.contracts.reader as sheet-reader
use Rattle.sheet.proofs.refusal as sheet-refusal
use Rattle.sheet.proofs.write as sheet-write
use Rattle.order_form.specs.declared.row.Row.{Row}
use Rattle.order_form.specs.declared.answer.Answer.{Answer}
use Rattle.order_form.specs.Check as form
use Rattle.order_form.specs.Held.{blank_of, add_of, check_of, add_all}
use Rattle.order_form.specs.contracts as order_form
use Rattle.order_form.proofs.form as order_form-form
use Rattle.order_form.specs.contracts.row as form-row
use Rattle.order_form.proofs.answer as order_form-answer
use Rattle.free_number.specs.declared.map.Map.{Map}
use Rattle.free_number.specs.Used as free
use Rattle.free_number.specs.Demand.{Keeper}
use Rattle.free_number.specs.contracts.map as free_number-fields
use Rattle.free_number.proofs.map as free_number-map
use Rattle.free_number.proofs.answer as free_number-answer
use Rattle.master.specs.Demand.{Master}
use Rattle.master.proofs as master
use Rattle.engine.specs.declared.Answered.{Answered}
use Rattle.engine.proofs as engine
use Rattle.demands.specs.Calls as calls
use Rattle.demands.specs.Run.{System, after, alone_of}

-- whatever the arguments a: what the contract allows of the result, and of the arguments as they are left, is so
abbrev pub Says : {n : ℕ} (ps : List (ParamKind n)) (r : ResultKind n) → Out n ps r
    → ((κs : Lfts n) → Dens κs ps → (res_t r κs).Denot → AtExit (ended_of n ps r) κs → Type 0) → Type 0
Says {n} ps r post P =
    (κs : Lfts n) (a : Dens κs ps) (y : (res_t r κs).Denot) (u : Lasts (ended_of n ps r) κs a) → post κs a y (at_exit (ended_of n ps r) κs a u)
    → P κs a y (at_exit (ended_of n ps r) κs a u)

-- a result that it allows is f of the arguments
abbrev pub Gives : {n : ℕ} (ps : List (ParamKind n)) (r : ResultKind n) → Out n ps r → ((κs : Lfts n) → Dens κs ps → (res_t r κs).Denot) → Type 0
Gives ps r post f = Says ps r post (λ κs a y s. y ≡ f κs a)

-- the contract asks nothing of the arguments: the call is for all of them
abbrev pub AsksNothing : {n : ℕ} (ps : List (ParamKind n)) → In n ps → Type 0
AsksNothing {n} ps asked = (κs : Lfts n) (a : Dens κs ps) → asked κs a

pub record Real (m : System) : Type 0 where
  -- no call of a head, of a line or of a rack asks anything of its arguments: what it refuses, it answers
  pub factory_asks : AsksNothing head-calls.factory.Kinds.ps head-calls.factory.Reads.Asked
  pub make_asks : AsksNothing head-calls.make.Kinds.ps head-calls.make.Reads.Asked
  pub byte_asks : AsksNothing head-calls.byte.Kinds.ps head-calls.byte.Reads.Asked
  pub tick_asks : AsksNothing head-calls.tick.Kinds.ps head-calls.tick.Reads.Asked
  pub measure_asks : AsksNothing head-calls.measure.Kinds.ps head-calls.measure.Reads.Asked
  pub keys_asks : AsksNothing head-calls.keys.Kinds.ps head-calls.keys.Reads.Asked
  pub power_asks : AsksNothing head-calls.power.Kinds.ps head-calls.power.Reads.Asked
  pub bring_asks : AsksNothing head-calls.bring.Kinds.ps head-calls.bring.Reads.Asked
  pub last_hit_asks : AsksNothing head-calls.last_hit.Kinds.ps head-calls.last_hit.Reads.Asked
  pub serial_number_asks : AsksNothing head-calls.serial_number.Kinds.ps head-calls.serial_number.Reads.Asked
  pub load_asks : AsksNothing head-calls.load.Kinds.ps head-calls.load.Reads.Asked
  pub save_asks : AsksNothing head-calls.save.Kinds.ps head-calls.save.Reads.Asked
  pub number_asks : AsksNothing head-refusal.Refusal.number.Kinds.ps head-refusal.Refusal.number.Reads.Asked
  pub number_in_force_asks : AsksNothing head-calls.number_in_force.Kinds.ps head-calls.number_in_force.Reads.Asked
  pub baud_in_force_asks : AsksNothing head-calls.baud_in_force.Kinds.ps head-calls.baud_in_force.Reads.Asked
  pub line_count_asks : AsksNothing line-calls.count.Kinds.ps line-calls.count.Reads.Asked
  pub line_fits_asks : AsksNothing line-calls.fits.Kinds.ps line-calls.fits.Reads.Asked
  pub line_grow_asks : AsksNothing line-calls.grow.Kinds.ps line-calls.grow.Reads.Asked
  pub line_byte_asks : AsksNothing line-calls.byte.Kinds.ps line-calls.byte.Reads.Asked
  pub line_until_reply_asks : AsksNothing line-calls.until_reply.Kinds.ps line-calls.until_reply.Reads.Asked
  pub line_tick_asks : AsksNothing line-calls.tick.Kinds.ps line-calls.tick.Reads.Asked
  pub line_measure_asks : AsksNothing line-calls.measure.Kinds.ps line-calls.measure.Reads.Asked
  pub line_keys_asks : AsksNothing line-calls.keys.Kinds.ps line-calls.keys.Reads.Asked
  pub line_power_asks : AsksNothing line-calls.power.Kinds.ps line-calls.power.Reads.Asked
  pub line_bring_asks : AsksNothing line-calls.bring.Kinds.ps line-calls.bring.Reads.Asked
  pub line_last_hit_asks : AsksNothing line-calls.last_hit.Kinds.ps line-calls.last_hit.Reads.Asked
  pub line_serial_number_asks : AsksNothing line-calls.serial_number.Kinds.ps line-calls.serial_number.Reads.Asked
  pub line_load_asks : AsksNothing line-calls.load.Kinds.ps line-calls.load.Reads.Asked
  pub line_save_asks : AsksNothing line-calls.save.Kinds.ps line-calls.save.Reads.Asked
  pub rack_asks : AsksNothing rack.rack.Kinds.ps rack.rack.Reads.Asked
  -- a head alone
  pub factory : Gives head-calls.factory.Kinds.ps head-calls.factory.Kinds.r head-calls.factory.Reads.Post (λ κs a. (m.on_head.make 31 a.0).head)
  pub make : Gives head-calls.make.Kinds.ps head-calls.make.Kinds.r head-calls.make.Reads.Post (λ κs a. m.on_head.make a.0 a.1.0)
  -- a byte: the result, and the lent space as it is left
  pub byte : Says head-calls.byte.Kinds.ps head-calls.byte.Kinds.r head-calls.byte.Reads.Post (λ κs a y s.
      (y ≡ m.on_head.byte a.0 a.1.0 a.1.1.0 (length a.1.1.1.0.now))
      × (s.1.1.1.0.now ≡ m.on_head.space a.0 a.1.0 a.1.1.0 a.1.1.1.0.now))
  pub tick : Gives head-calls.tick.Kinds.ps head-calls.tick.Kinds.r head-calls.tick.Reads.Post (λ κs a. m.on_head.ask (alone.tick a.1.0) a.0)
  pub measure : Gives head-calls.measure.Kinds.ps head-calls.measure.Kinds.r head-calls.measure.Reads.Post (λ κs a. m.on_head.ask (alone.measure a.1.0) a.0)
  -- a key state: the result, and the lent space as it is left
  pub keys : Says head-calls.keys.Kinds.ps head-calls.keys.Kinds.r head-calls.keys.Reads.Post (λ κs a y s.
      (y ≡ m.on_head.keys a.0 a.1.0 (length a.1.1.0.now))
      × (s.1.1.0.now ≡ m.on_head.key_space a.0 a.1.0 a.1.1.0.now))
  pub power : Gives head-calls.power.Kinds.ps head-calls.power.Kinds.r head-calls.power.Reads.Post (λ κs a. m.on_head.ask alone.power a.0)
  pub bring : Gives head-calls.bring.Kinds.ps head-calls.bring.Kinds.r head-calls.bring.Reads.Post (λ κs a. m.on_head.ask alone.bring a.0)
  -- a sheet loaded; a sheet written: the result, and the lent space as it is left
  pub load : Gives head-calls.load.Kinds.ps head-calls.load.Kinds.r head-calls.load.Reads.Post (λ κs a. m.on_head.ask (alone.load a.1.0.now) a.0)
  pub save : Says head-calls.save.Kinds.ps head-calls.save.Kinds.r head-calls.save.Reads.Post (λ κs a y s.
      (y ≡ m.on_head.save a.0 (length a.1.0.now)) × (s.1.0.now ≡ m.on_head.sheet a.0 a.1.0.now))
  -- what a driver asks: the number and the baud setting in force; what the bench asks, the last non-zero exclusive-or; the serial number; the number of a refusal
  pub number_in_force_lem : Gives head-calls.number_in_force.Kinds.ps head-calls.number_in_force.Kinds.r head-calls.number_in_force.Reads.Post (λ κs a. a.0.stored.number)
  pub baud_in_force_lem : Gives head-calls.baud_in_force.Kinds.ps head-calls.baud_in_force.Kinds.r head-calls.baud_in_force.Reads.Post (λ κs a. a.0.stored.baud)
  pub last_hit_lem : Gives head-calls.last_hit.Kinds.ps head-calls.last_hit.Kinds.r head-calls.last_hit.Reads.Post (λ κs a. m.on_head.hit a.0)
  pub serial_number_lem : Gives head-calls.serial_number.Kinds.ps head-calls.serial_number.Kinds.r head-calls.serial_number.Reads.Post (λ κs a. m.on_head.serial a.0)
  pub number : Gives head-refusal.Refusal.number.Kinds.ps head-refusal.Refusal.number.Kinds.r head-refusal.Refusal.number.Reads.Post (λ κs a. refusal_of a.0)
  -- a line
  pub empty : Gives line-calls.empty.Kinds.ps line-calls.empty.Kinds.r line-calls.empty.Reads.Post (λ κs a. empty_of)
  pub count : Gives line-calls.count.Kinds.ps line-calls.count.Kinds.r line-calls.count.Reads.Post (λ κs a. a.0.count)
  pub fits : Gives line-calls.fits.Kinds.ps line-calls.fits.Kinds.r line-calls.fits.Reads.Post (λ κs a. fits_of a.0)
  pub grow : Gives line-calls.grow.Kinds.ps line-calls.grow.Kinds.r line-calls.grow.Reads.Post (λ κs a. m.on_line_of.grow a.0 a.1.0 a.1.1.0)
  pub line_byte : Says line-calls.byte.Kinds.ps line-calls.byte.Kinds.r line-calls.byte.Reads.Post (λ κs a y s.
      (y ≡ m.on_line_of.byte a.0 a.1.0 a.1.1.0 (length a.1.1.1.0.now))
      × (s.1.1.1.0.now ≡ m.on_line_of.space a.0 a.1.0 a.1.1.0 a.1.1.1.0.now))
  -- a stretch of bytes, from a place of them on: the result, and the lent space as it is left; what it is of byte calls: Stretches
  pub line_until_reply : Says line-calls.until_reply.Kinds.ps line-calls.until_reply.Kinds.r line-calls.until_reply.Reads.Post (λ κs a y s.
      let bytes = drop a.1.1.0 a.1.0.now in
      let space = a.1.1.1.1.0.now in
      (y ≡ until_of a.0 bytes a.1.1.0 a.1.1.1.0 (length space)) × (s.1.1.1.1.0.now ≡ until_space_of a.0 bytes a.1.1.1.0 space))
  pub line_tick : Gives line-calls.tick.Kinds.ps line-calls.tick.Kinds.r line-calls.tick.Reads.Post (λ κs a. m.on_line_of.tick a.0 a.1.0)
  pub line_measure : Gives line-calls.measure.Kinds.ps line-calls.measure.Kinds.r line-calls.measure.Reads.Post (λ κs a. m.on_line_of.ask (calls.measure a.1.1.0) a.0 a.1.0)
  pub line_keys : Says line-calls.keys.Kinds.ps line-calls.keys.Kinds.r line-calls.keys.Reads.Post (λ κs a y s.
      (y ≡ m.on_line_of.keys a.0 a.1.0 a.1.1.0 (length a.1.1.1.0.now))
      × (s.1.1.1.0.now ≡ m.on_line_of.key_space a.0 a.1.0 a.1.1.0 a.1.1.1.0.now))
  pub line_power : Gives line-calls.power.Kinds.ps line-calls.power.Kinds.r line-calls.power.Reads.Post (λ κs a. m.on_line_of.ask calls.power a.0 a.1.0)
  pub line_bring : Gives line-calls.bring.Kinds.ps line-calls.bring.Kinds.r line-calls.bring.Reads.Post (λ κs a. m.on_line_of.ask calls.bring a.0 a.1.0)
  pub line_last_hit : Gives line-calls.last_hit.Kinds.ps line-calls.last_hit.Kinds.r line-calls.last_hit.Reads.Post (λ κs a. m.on_line_of.hit a.0 a.1.0)
  pub line_serial_number : Gives line-calls.serial_number.Kinds.ps line-calls.serial_number.Kinds.r line-calls.serial_number.Reads.Post (λ κs a. m.on_line_of.serial a.0 a.1.0)
  pub line_load : Gives line-calls.load.Kinds.ps line-calls.load.Kinds.r line-calls.load.Reads.Post (λ κs a. m.on_line_of.ask (calls.load a.1.1.0.now) a.0 a.1.0)
  pub line_save : Says line-calls.save.Kinds.ps line-calls.save.Kinds.r line-calls.save.Reads.Post (λ κs a y s.
      (y ≡ m.on_line_of.save a.0 a.1.0 (length a.1.1.0.now)) × (s.1.1.0.now ≡ m.on_line_of.sheet a.0 a.1.0 a.1.1.0.now))
  -- a rack of telegrams: the result, and the lent space as it is left
  pub line_rack : Says rack.rack.Kinds.ps rack.rack.Kinds.r rack.rack.Reads.Post (λ κs a y s.
      let bytes = a.1.0.now in
      let space = a.1.1.1.0.now in
      let place = a.1.1.1.1.0 in
      (y ≡ m.on_line_of.rack a.0 bytes a.1.1.0 (length space) place) × (s.1.1.1.0.now ≡ m.on_line_of.rack_space a.0 bytes a.1.1.0 space place))

-- What Run makes of a system, said clause by clause: the line after a call is the one that the call hands back, refused or not, and what is asked of a head on a line
-- is asked of it alone. The demands speak of these, so that neither can be another without being seen here.
pub record Plain (m : System) : Type 0 where
  pub grown : (node serial : ℕ) (l : Line) → after m.on_line_of (calls.new_head node serial) l ≡ (m.on_line_of.grow l node serial).line
  pub heard : (b t s : ℕ) (l : Line) → after m.on_line_of (calls.byte b t s) l ≡ (m.on_line_of.byte l b t s).line
  pub ticked : (t : ℕ) (l : Line) → after m.on_line_of (calls.tick t) l ≡ (m.on_line_of.tick l t).line
  pub asked : (j : ℕ) (a : calls.Ask) (l : Line) → after m.on_line_of (calls.named j a) l ≡ (m.on_line_of.ask a l j).line
  pub pressed : (j s n : ℕ) (l : Line) → after m.on_line_of (calls.keys j s n) l ≡ (m.on_line_of.keys l j s n).line
  pub emptied : (t : ℕ) (l : Line) → after m.on_line_of (calls.dropped t) l ≡ (m.on_line_of.rack l [] t 0 0).line
  pub measured : (x : ℤ) → alone_of (calls.measure x) ≡ alone.measure x
  pub powered : alone_of calls.power ≡ alone.power
  pub loaded : (s : List ℕ) → alone_of (calls.load s) ≡ alone.load s
  pub brought : alone_of calls.bring ≡ alone.bring

-- Of a sheet, by the definitions that the promises about sheets speak of (Sheets `Formed`, `Functions`; the crate sheet, `HandsOut`, `Steps`): any bytes may be tested, read,
-- checked and loaded, and any space be written on.
pub record RealSheet : Type 2 where
  pub formed_asks : AsksNothing sheet-format.well_formed.Kinds.ps sheet-format.well_formed.Reads.Asked
  pub check_asks : AsksNothing sheet-load.check.Kinds.ps sheet-load.check.Reads.Asked
  pub load_asks : AsksNothing sheet-load.load.Kinds.ps sheet-load.load.Reads.Asked
  pub write_asks : AsksNothing sheet-write.write.Kinds.ps sheet-write.write.Reads.Asked
  pub number_asks : AsksNothing sheet-refusal.Refusal.number.Kinds.ps sheet-refusal.Refusal.number.Reads.Asked
  pub formed : Gives sheet-format.well_formed.Kinds.ps sheet-format.well_formed.Kinds.r sheet-format.well_formed.Reads.Post (λ κs a. well_formed_of a.0.now)
  pub check : Gives sheet-load.check.Kinds.ps sheet-load.check.Kinds.r sheet-load.check.Reads.Post (λ κs a. loading.check_of a.0.now)
  pub load : Gives sheet-load.load.Kinds.ps sheet-load.load.Kinds.r sheet-load.load.Reads.Post (λ κs a. loading.load_of a.0 a.1.0.now)
  pub write : Says sheet-write.write.Kinds.ps sheet-write.write.Kinds.r sheet-write.write.Reads.Post (λ κs a y s.
      (y ≡ writing.write_of (length a.1.0.now)) × (s.1.0.now ≡ writing.written_on a.0 a.1.0.now))
  -- the number of a refusal
  pub sheet_number : Gives sheet-refusal.Refusal.number.Kinds.ps sheet-refusal.Refusal.number.Kinds.r sheet-refusal.Refusal.number.Reads.Post (λ κs a. sheet.refusal_of a.0)
  -- a reader, which holds the sheet by reference: a new one, and a call, which hands out a row and leaves the reader at the next
  pub new_asks : {M : Type 1} {𝓤 : Ura M} (𝓛 : Logic 𝓤) (mem : Memory → SProp 𝓤) (run : Routine → Fun 𝓤) (κs : Lfts 1)
      (a : Args sheet-reader.SheetReader.new.signature κs) (g : (sheet-reader.SheetReader.new.clauses 𝓛 mem run κs a).ghost)
      → (sheet-reader.SheetReader.new.clauses 𝓛 mem run κs a).requires g ≡ emp 𝓤
  pub new : {M : Type 1} {𝓤 : Ura M} (𝓛 : Logic 𝓤) (mem : Memory → SProp 𝓤) (run : Routine → Fun 𝓤) (κs : Lfts 1)
      (a : Args sheet-reader.SheetReader.new.signature κs) (g : (sheet-reader.SheetReader.new.clauses 𝓛 mem run κs a).ghost) (y : SheetReader)
      (e : AtExit sheet-reader.SheetReader.new.ended κs)
      → (sheet-reader.SheetReader.new.clauses 𝓛 mem run κs a).ensures g y e ≡ fact 𝓤 (y ≡ new_of a.0)
  pub next_asks : {M : Type 1} {𝓤 : Ura M} (𝓛 : Logic 𝓤) (mem : Memory → SProp 𝓤) (run : Routine → Fun 𝓤) (κs : Lfts 2)
      (a : Args sheet-reader.SheetReader.next.signature κs) (g : (sheet-reader.SheetReader.next.clauses 𝓛 mem run κs a).ghost)
      → (sheet-reader.SheetReader.next.clauses 𝓛 mem run κs a).requires g ≡ emp 𝓤
  pub next : {M : Type 1} {𝓤 : Ura M} (𝓛 : Logic 𝓤) (mem : Memory → SProp 𝓤) (run : Routine → Fun 𝓤) (κs : Lfts 2)
      (a : Args sheet-reader.SheetReader.next.signature κs) (g : (sheet-reader.SheetReader.next.clauses 𝓛 mem run κs a).ghost) (y : Reading)
      (e : AtExit sheet-reader.SheetReader.next.ended κs)
      → (sheet-reader.SheetReader.next.clauses 𝓛 mem run κs a).ensures g y e
      ≡ fact 𝓤 ((y ≡ read_of a.0.now.sheet.now a.0.now.row) × (e.0.now ≡ advanced_of a.0.now))

-- What a rack's call is made of, which reads and writes lent heads (line::round): it asks nothing, and each of the heads is told the telegram.
pub record RealRound : Type 2 where
  pub asks_nothing : {M : Type 1} {𝓤 : Ura M} (𝓛 : Logic 𝓤) (mem : Memory → SProp 𝓤) (run : Routine → Fun 𝓤) (κs : Lfts 1)
      (a : Args line-round.told.signature κs) (g : (line-round.told.clauses 𝓛 mem run κs a).ghost) → (line-round.told.clauses 𝓛 mem run κs a).requires g ≡ emp 𝓤
  pub told : {M : Type 1} {𝓤 : Ura M} (𝓛 : Logic 𝓤) (mem : Memory → SProp 𝓤) (run : Routine → Fun 𝓤) (κs : Lfts 1)
      (a : Args line-round.told.signature κs) (g : (line-round.told.clauses 𝓛 mem run κs a).ghost) (y : Replies) (e : AtExit line-round.told.ended κs)
      → (line-round.told.clauses 𝓛 mem run κs a).ensures g y e
      ≡ fact 𝓤 ((y ≡ tally (replies_by (λ h. tell_of h a.1.0 a.1.1.0) (length a.0.now) a.0.now)) × (e.0.now ≡ map (λ h. (tell_of h a.1.0 a.1.1.0).head) a.0.now))

-- The check of an order form that a program calls is the one that the demands on it are proved of (the crate order_form, Demand).
pub record RealForm (check : List Row → Answer) : Type 2 where
  -- a row is two words of 32 bits, its serial and then its number
  pub words : (form-row.Row.struct).parts ≡ u32-field ∷ u32-field ∷ []
  pub in_order : (r : Row) → (form-row.Row.struct).as_values r ≡ (r.serial, (r.node, tt))
  -- rows that are lent: the contract asks nothing of them, and says of the result just that it is the check of all of them
  pub asks_nothing : {M : Type 1} {𝓤 : Ura M} (𝓛 : Logic 𝓤) (mem : Memory → SProp 𝓤) (run : Routine → Fun 𝓤) (κs : Lfts 1)
      (a : Args order_form.check_rows.signature κs) (g : (order_form.check_rows.clauses 𝓛 mem run κs a).ghost) → (order_form.check_rows.clauses 𝓛 mem run κs a).requires g ≡ emp 𝓤
  pub rows : {M : Type 1} {𝓤 : Ura M} (𝓛 : Logic 𝓤) (mem : Memory → SProp 𝓤) (run : Routine → Fun 𝓤) (κs : Lfts 1)
      (a : Args order_form.check_rows.signature κs) (g : (order_form.check_rows.clauses 𝓛 mem run κs a).ghost) (y : Answer) (e : AtExit order_form.check_rows.ended κs)
      → (order_form.check_rows.clauses 𝓛 mem run κs a).ensures g y e ≡ fact 𝓤 (y ≡ check a.0.now)
  -- a form held by value: rows added one by one to a blank one, and its check
  pub blank : Gives order_form-form.blank.Kinds.ps order_form-form.blank.Kinds.r order_form-form.blank.Reads.Post (λ κs a. blank_of)
  pub add : Gives order_form-form.add.Kinds.ps order_form-form.add.Kinds.r order_form-form.add.Reads.Post (λ κs a. add_of a.0 a.1.0)
  pub check_held : Gives order_form-form.check.Kinds.ps order_form-form.check.Kinds.r order_form-form.check.Reads.Post (λ κs a. check_of a.0)
  pub held : (rows : List Row) → check_of (add_all blank_of rows) ≡ check rows
  -- the number of a refusal, by which the demands tell 7 from 8
  pub form_number : Gives order_form-answer.Refusal.number.Kinds.ps order_form-answer.Refusal.number.Kinds.r order_form-answer.Refusal.number.Reads.Post (λ κs a. form.refusal_of a.0)

-- The map of used numbers that a program calls is the one that the demands on it are proved of (the crate free_number, Demand).
pub record RealMap (k : Keeper) : Type 2 where
  -- a map is two words of 64 bits, the lower and then the upper
  pub words : (free_number-fields.Map.struct).parts ≡ u64-field ∷ u64-field ∷ []
  pub in_order : (m : Map) → (free_number-fields.Map.struct).as_values m ≡ (m.low, (m.high, tt))
  -- any two words are a map, and any number may be named
  pub empty_asks : AsksNothing free_number-map.empty.Kinds.ps free_number-map.empty.Reads.Asked
  pub add_asks : AsksNothing free_number-map.add.Kinds.ps free_number-map.add.Reads.Asked
  pub remove_asks : AsksNothing free_number-map.remove.Kinds.ps free_number-map.remove.Reads.Asked
  pub lowest_asks : AsksNothing free_number-map.lowest_free.Kinds.ps free_number-map.lowest_free.Reads.Asked
  pub count_asks : AsksNothing free_number-map.count.Kinds.ps free_number-map.count.Reads.Asked
  pub empty : Gives free_number-map.empty.Kinds.ps free_number-map.empty.Kinds.r free_number-map.empty.Reads.Post (λ κs a. k.empty)
  pub add : Gives free_number-map.add.Kinds.ps free_number-map.add.Kinds.r free_number-map.add.Reads.Post (λ κs a. k.add a.0 a.1.0)
  pub remove : Gives free_number-map.remove.Kinds.ps free_number-map.remove.Kinds.r free_number-map.remove.Reads.Post (λ κs a. k.remove a.0 a.1.0)
  pub lowest : Gives free_number-map.lowest_free.Kinds.ps free_number-map.lowest_free.Kinds.r free_number-map.lowest_free.Reads.Post (λ κs a. k.lowest a.0)
  pub count : Gives free_number-map.count.Kinds.ps free_number-map.count.Kinds.r free_number-map.count.Reads.Post (λ κs a. k.count a.0)
  -- the number of a refusal, by which the demands tell 7 from 9
  pub number_asks : AsksNothing free_number-answer.Refusal.number.Kinds.ps free_number-answer.Refusal.number.Reads.Asked
  pub map_number : Gives free_number-answer.Refusal.number.Kinds.ps free_number-answer.Refusal.number.Kinds.r free_number-answer.Refusal.number.Reads.Post (λ κs a. free.refusal_of a.0)

-- The master that a program calls is the one that the demands on it are proved of (the crate master, Demand).
pub record RealMaster (m : Master) : Type 0 where
  -- any fields may be built of, and any bytes read as the reply to any question
  pub build_asks : AsksNothing master.build.Kinds.ps master.build.Reads.Asked
  pub read_asks : AsksNothing master.read.Kinds.ps master.read.Reads.Asked
  pub number_asks : AsksNothing master.Refusal.number.Kinds.ps master.Refusal.number.Reads.Asked
  pub build : Gives master.build.Kinds.ps master.build.Kinds.r master.build.Reads.Post (λ κs a. m.build a.0)
  pub read : Gives master.read.Kinds.ps master.read.Kinds.r master.read.Reads.Post (λ κs a. m.read a.0 a.1.0.now)
  -- the number of its one refusal
  pub master_number : Gives master.Refusal.number.Kinds.ps master.Refusal.number.Kinds.r master.Refusal.number.Reads.Post (λ κs a. 10)

-- The engine that a program calls is the one that is proved to agree with the byte-fed head (the crate agreement): any head, ten bytes and time of 32 bits may be handed in.
pub record RealEngine (e : Head → List ℕ → ℕ → Answered) : Type 0 where
  pub answer_asks : AsksNothing engine.answer.Kinds.ps engine.answer.Reads.Asked
  pub number_asks : AsksNothing engine.Refusal.number.Kinds.ps engine.Refusal.number.Reads.Asked
  pub answer : Gives engine.answer.Kinds.ps engine.answer.Kinds.r engine.answer.Reads.Post (λ κs a. e a.0 a.1.0 a.1.1.0)
  -- the number of its one refusal
  pub engine_number : Gives engine.Refusal.number.Kinds.ps engine.Refusal.number.Kinds.r engine.Refusal.number.Reads.Post (λ κs a. 20)

-- the types of a call's parameters
abbrev pub tys_of : {n : ℕ} → List (ParamKind n) → List Ty
tys_of [] = []
tys_of (k ∷ ks) = k.is.ty ∷ tys_of ks

-- A serial number is one of 32 bits, any of them: so the calls that make a head take it, after the node number where they take one.
pub record RealSerial : Type 0 where
  pub made_of_lem : tys_of head-calls.make.Kinds.ps ≡ ty_int w32 ∷ ty_int w32 ∷ []
  pub grown_of : drop 1 (tys_of line-calls.grow.Kinds.ps) ≡ ty_int w32 ∷ ty_int w32 ∷ []
  pub factory_of_lem : tys_of head-calls.factory.Kinds.ps ≡ ty_int w32 ∷ []

-- The time of a rack is one of 32 bits, and its place one of 64, any of them.
pub record RealRack : Type 0 where
  pub time_of : take 1 (drop 2 (tys_of rack.rack.Kinds.ps)) ≡ ty_int w32 ∷ []
  pub place_of : drop 4 (tys_of rack.rack.Kinds.ps) ≡ ty_int w64 ∷ []
