-- Two outcomes that a contract allows are equal: one statement for each public function, over its contract itself. `Reads.Post` is what the
-- check makes of the function's `ensures`: the fact that is proved of the arguments, the result and what is lent, as it is left.
-- tools/outcomes sees that each public function has its field, and that it cites its own contract.
-- Assumes nothing.
use Rattle.std.specs.Prelude.{ℕ, ◌≡◌, List}
use mir.Syntax.{w64}
use mir.Val.{Fits}
use contract.Lifetimes.{Lfts}
use denote.Triple.Clauses.{Lasts, at_exit}
use borrow.Fn.Kinds.{ParamKind, ResultKind, Dens, res_t, ended_of, Out}
use Rattle.wire.proofs.check as wire-check
use Rattle.wire.proofs.fault as wire-fault
use Rattle.wire.proofs.telegram as wire-telegram
use Rattle.wire.proofs.word as wire-word
use Rattle.master.proofs as master
use Rattle.signed.proofs as signed
use Rattle.rows.proofs.access as rows-access
use Rattle.rows.proofs.kind as rows-kind
use Rattle.rows.proofs.range as rows-range
use Rattle.rows.proofs.resets as rows-resets
use Rattle.rows.proofs.table as rows-table
use Rattle.sheet.proofs.format as sheet-format
use Rattle.sheet.proofs.load as sheet-load
use Rattle.sheet.proofs.reader as sheet-reader
use Rattle.sheet.proofs.refusal as sheet-refusal
use Rattle.sheet.proofs.write as sheet-write
use Rattle.judge.proofs.command as judge-command
use Rattle.judge.proofs.deed as judge-deed
use Rattle.judge.proofs.judged as judge-judged
use Rattle.judge.proofs.verdict as judge-verdict
use Rattle.state.proofs.errors as state-errors
use Rattle.state.proofs.position as state-position
use Rattle.state.proofs.control as state-control
use Rattle.state.proofs.mode as state-mode
use Rattle.state.proofs.older as state-older
use Rattle.state.proofs.status as state-status
use Rattle.state.proofs.wellformed as state-wellformed
use Rattle.engine.proofs as engine
use Rattle.effects.proofs.aim as effects-aim
use Rattle.effects.proofs.errors as effects-errors
use Rattle.effects.proofs.measure as effects-measure
use Rattle.effects.proofs.restart as effects-restart
use Rattle.effects.proofs.store as effects-store
use Rattle.head.proofs.calls as head-calls
use Rattle.head.proofs.hear as head-hear
use Rattle.head.proofs.moves as head-moves
use Rattle.head.proofs.refusal as head-refusal
use Rattle.reply.proofs as reply
use Rattle.line.proofs.calls as line-calls
use Rattle.line.proofs.round as line-round
use Rattle.rack.proofs as rack
use Rattle.order_form.proofs as order_form
use Rattle.order_form.proofs.answer as order_form-answer
use Rattle.order_form.proofs.form as order_form-form
use Rattle.free_number.proofs.answer as free_number-answer
use Rattle.free_number.proofs.map as free_number-map
use Rattle.text.proofs.keeping as text-keeping
use Rattle.text.proofs.laying as text-laying
use Rattle.text.proofs.lines as text-lines
use Rattle.text.proofs.numbers as text-numbers
use Rattle.script.proofs as script
use Rattle.script.proofs.telegrams as script-telegrams
use Rattle.form_text.proofs as form_text
use Rattle.hex_digits.proofs as hex_digits

-- whatever the arguments a, with two results y and z, and two contents u and v of all that is lent at the return (nothing, where none is lent
-- to be written): if the contract allows both, the results are equal and so are the contents
abbrev pub One : {n : ℕ} (ps : List (ParamKind n)) (r : ResultKind n) → Out n ps r → Type 0
One {n} ps r post =
    (κs : Lfts n) (a : Dens κs ps) (y z : (res_t r κs).Denot) (u v : Lasts (ended_of n ps r) κs a)
    → post κs a y (at_exit (ended_of n ps r) κs a u) → post κs a z (at_exit (ended_of n ps r) κs a v) → (y ≡ z) × (u ≡ v)

pub record Outcomes : Type 0 where
  pub wire_check_hit : One wire-check.hit.Kinds.ps wire-check.hit.Kinds.r wire-check.hit.Reads.Post
  pub wire_fault_code : One wire-fault.Fault.code.Kinds.ps wire-fault.Fault.code.Kinds.r wire-fault.Fault.code.Reads.Post
  pub wire_telegram_fields : One wire-telegram.fields.Kinds.ps wire-telegram.fields.Kinds.r wire-telegram.fields.Reads.Post
  pub wire_telegram_bytes : One wire-telegram.bytes.Kinds.ps wire-telegram.bytes.Kinds.r wire-telegram.bytes.Reads.Post
  pub wire_word_half : One wire-word.half.Kinds.ps wire-word.half.Kinds.r wire-word.half.Reads.Post
  pub wire_word_whole : One wire-word.whole.Kinds.ps wire-word.whole.Kinds.r wire-word.whole.Reads.Post
  pub wire_word_first : One wire-word.first.Kinds.ps wire-word.first.Kinds.r wire-word.first.Reads.Post
  pub wire_word_second : One wire-word.second.Kinds.ps wire-word.second.Kinds.r wire-word.second.Reads.Post
  pub wire_word_third : One wire-word.third.Kinds.ps wire-word.third.Kinds.r wire-word.third.Reads.Post
  pub wire_word_fourth : One wire-word.fourth.Kinds.ps wire-word.fourth.Kinds.r wire-word.fourth.Reads.Post
  pub wire_word_high : One wire-word.high.Kinds.ps wire-word.high.Kinds.r wire-word.high.Reads.Post
  pub wire_word_low : One wire-word.low.Kinds.ps wire-word.low.Kinds.r wire-word.low.Reads.Post
  pub master_number : One master.Refusal.number.Kinds.ps master.Refusal.number.Kinds.r master.Refusal.number.Reads.Post
  pub master_build : One master.build.Kinds.ps master.build.Kinds.r master.build.Reads.Post
  pub master_read : One master.read.Kinds.ps master.read.Kinds.r master.read.Reads.Post
  pub signed_number : One signed.number.Kinds.ps signed.number.Kinds.r signed.number.Reads.Post
  pub signed_word : One signed.word.Kinds.ps signed.word.Kinds.r signed.word.Reads.Post
  pub signed_size : One signed.size.Kinds.ps signed.size.Kinds.r signed.size.Reads.Post
  pub signed_distance : One signed.distance.Kinds.ps signed.distance.Kinds.r signed.distance.Reads.Post
  pub signed_divisor : One signed.divisor.Kinds.ps signed.divisor.Kinds.r signed.divisor.Reads.Post
  pub signed_rounded : One signed.rounded.Kinds.ps signed.rounded.Kinds.r signed.rounded.Reads.Post
  pub signed_difference : One signed.difference.Kinds.ps signed.difference.Kinds.r signed.difference.Reads.Post
  pub signed_differential : One signed.differential.Kinds.ps signed.differential.Kinds.r signed.differential.Reads.Post
  pub signed_absolute : One signed.absolute.Kinds.ps signed.absolute.Kinds.r signed.absolute.Reads.Post
  pub rows_access_access_of : One rows-access.access_of.Kinds.ps rows-access.access_of.Kinds.r rows-access.access_of.Reads.Post
  pub rows_access_broadcast : One rows-access.broadcast.Kinds.ps rows-access.broadcast.Kinds.r rows-access.broadcast.Reads.Post
  pub rows_kind_kind_of : One rows-kind.kind_of.Kinds.ps rows-kind.kind_of.Kinds.r rows-kind.kind_of.Reads.Post
  pub rows_range_is_signed : One rows-range.is_signed.Kinds.ps rows-range.is_signed.Kinds.r rows-range.is_signed.Reads.Post
  pub rows_range_reading : One rows-range.reading.Kinds.ps rows-range.reading.Kinds.r rows-range.reading.Reads.Post
  pub rows_range_range_of : One rows-range.range_of.Kinds.ps rows-range.range_of.Kinds.r rows-range.range_of.Reads.Post
  pub rows_range_fits_at : One rows-range.fits_at.Kinds.ps rows-range.fits_at.Kinds.r rows-range.fits_at.Reads.Post
  pub rows_range_all_right : One rows-range.all_right.Kinds.ps rows-range.all_right.Kinds.r rows-range.all_right.Reads.Post
  pub rows_resets_bus : One rows-resets.bus.Kinds.ps rows-resets.bus.Kinds.r rows-resets.bus.Reads.Post
  pub rows_resets_resets : One rows-resets.resets.Kinds.ps rows-resets.resets.Kinds.r rows-resets.resets.Reads.Post
  pub rows_table_row_of : One rows-table.row_of.Kinds.ps rows-table.row_of.Kinds.r rows-table.row_of.Reads.Post
  pub rows_table_place_of : One rows-table.place_of.Kinds.ps rows-table.place_of.Kinds.r rows-table.place_of.Reads.Post
  pub sheet_format_well_formed : One sheet-format.well_formed.Kinds.ps sheet-format.well_formed.Kinds.r sheet-format.well_formed.Reads.Post
  pub sheet_load_check : One sheet-load.check.Kinds.ps sheet-load.check.Kinds.r sheet-load.check.Reads.Post
  pub sheet_load_load : One sheet-load.load.Kinds.ps sheet-load.load.Kinds.r sheet-load.load.Reads.Post
  pub sheet_reader_new : One sheet-reader.SheetReader.new.Kinds.ps sheet-reader.SheetReader.new.Kinds.r sheet-reader.SheetReader.new.Reads.Post
  pub sheet_reader_next : One sheet-reader.SheetReader.next.Kinds.ps sheet-reader.SheetReader.next.Kinds.r sheet-reader.SheetReader.next.Reads.Post
  pub sheet_refusal_number : One sheet-refusal.Refusal.number.Kinds.ps sheet-refusal.Refusal.number.Kinds.r sheet-refusal.Refusal.number.Reads.Post
  pub sheet_write_write : One sheet-write.write.Kinds.ps sheet-write.write.Kinds.r sheet-write.write.Reads.Post
  pub judge_command_command_of : One judge-command.command_of.Kinds.ps judge-command.command_of.Kinds.r judge-command.command_of.Reads.Post
  pub judge_command_reads : One judge-command.reads.Kinds.ps judge-command.reads.Kinds.r judge-command.reads.Reads.Post
  pub judge_command_writes : One judge-command.writes.Kinds.ps judge-command.writes.Kinds.r judge-command.writes.Reads.Post
  pub judge_command_casts : One judge-command.casts.Kinds.ps judge-command.casts.Kinds.r judge-command.casts.Reads.Post
  pub judge_command_changes : One judge-command.changes.Kinds.ps judge-command.changes.Kinds.r judge-command.changes.Reads.Post
  pub judge_deed_deed_of : One judge-deed.deed_of.Kinds.ps judge-deed.deed_of.Kinds.r judge-deed.deed_of.Reads.Post
  pub judge_judged_judge : One judge-judged.judge.Kinds.ps judge-judged.judge.Kinds.r judge-judged.judge.Reads.Post
  pub judge_verdict_verdict_of : One judge-verdict.verdict_of.Kinds.ps judge-verdict.verdict_of.Kinds.r judge-verdict.verdict_of.Reads.Post
  pub state_control_bit : One state-control.bit.Kinds.ps state-control.bit.Kinds.r state-control.bit.Reads.Post
  pub state_errors_empty_list : One state-errors.empty_list.Kinds.ps state-errors.empty_list.Kinds.r state-errors.empty_list.Reads.Post
  pub state_errors_remembered : One state-errors.remembered.Kinds.ps state-errors.remembered.Kinds.r state-errors.remembered.Reads.Post
  pub state_errors_entry : One state-errors.entry.Kinds.ps state-errors.entry.Kinds.r state-errors.entry.Reads.Post
  pub state_mode_is_display : One state-mode.is_display.Kinds.ps state-mode.is_display.Kinds.r state-mode.is_display.Reads.Post
  pub state_older_passes : One state-older.passes.Kinds.ps state-older.passes.Kinds.r state-older.passes.Reads.Post
  pub state_older_brought : One state-older.brought.Kinds.ps state-older.brought.Kinds.r state-older.brought.Reads.Post
  pub state_position_position : One state-position.position.Kinds.ps state-position.position.Kinds.r state-position.position.Reads.Post
  pub state_position_view : One state-position.view.Kinds.ps state-position.view.Kinds.r state-position.view.Reads.Post
  pub state_status_aim : One state-status.aim.Kinds.ps state-status.aim.Kinds.r state-status.aim.Reads.Post
  pub state_status_status : One state-status.status.Kinds.ps state-status.status.Kinds.r state-status.status.Reads.Post
  pub state_status_within : One state-status.within.Kinds.ps state-status.within.Kinds.r state-status.within.Reads.Post
  pub state_status_difference : One state-status.difference.Kinds.ps state-status.difference.Kinds.r state-status.difference.Reads.Post
  pub state_wellformed_in_reach : One state-wellformed.in_reach.Kinds.ps state-wellformed.in_reach.Kinds.r state-wellformed.in_reach.Reads.Post
  pub state_wellformed_wellformed : One state-wellformed.wellformed.Kinds.ps state-wellformed.wellformed.Kinds.r state-wellformed.wellformed.Reads.Post
  pub engine_number : One engine.Refusal.number.Kinds.ps engine.Refusal.number.Kinds.r engine.Refusal.number.Reads.Post
  pub engine_answer : One engine.answer.Kinds.ps engine.answer.Kinds.r engine.answer.Reads.Post
  pub effects_aim_no_targets : One effects-aim.no_targets.Kinds.ps effects-aim.no_targets.Kinds.r effects-aim.no_targets.Reads.Post
  pub effects_aim_settled : One effects-aim.settled.Kinds.ps effects-aim.settled.Kinds.r effects-aim.settled.Reads.Post
  pub effects_aim_lacking : One effects-aim.lacking.Kinds.ps effects-aim.lacking.Kinds.r effects-aim.lacking.Reads.Post
  pub effects_aim_all_given : One effects-aim.all_given.Kinds.ps effects-aim.all_given.Kinds.r effects-aim.all_given.Reads.Post
  pub effects_aim_turned : One effects-aim.turned.Kinds.ps effects-aim.turned.Kinds.r effects-aim.turned.Reads.Post
  pub effects_aim_targets_by : One effects-aim.targets_by.Kinds.ps effects-aim.targets_by.Kinds.r effects-aim.targets_by.Reads.Post
  pub effects_errors_raised : One effects-errors.raised.Kinds.ps effects-errors.raised.Kinds.r effects-errors.raised.Reads.Post
  pub effects_errors_counted : One effects-errors.counted.Kinds.ps effects-errors.counted.Kinds.r effects-errors.counted.Reads.Post
  pub effects_errors_complained : One effects-errors.complained.Kinds.ps effects-errors.complained.Kinds.r effects-errors.complained.Reads.Post
  pub effects_errors_restarted : One effects-errors.restarted.Kinds.ps effects-errors.restarted.Kinds.r effects-errors.restarted.Reads.Post
  pub effects_errors_faults_by : One effects-errors.faults_by.Kinds.ps effects-errors.faults_by.Kinds.r effects-errors.faults_by.Reads.Post
  pub effects_measure_calibrated : One effects-measure.calibrated.Kinds.ps effects-measure.calibrated.Kinds.r effects-measure.calibrated.Reads.Post
  pub effects_measure_restarted : One effects-measure.restarted.Kinds.ps effects-measure.restarted.Kinds.r effects-measure.restarted.Reads.Post
  pub effects_measure_moved : One effects-measure.moved.Kinds.ps effects-measure.moved.Kinds.r effects-measure.moved.Reads.Post
  pub effects_measure_measurement_by : One effects-measure.measurement_by.Kinds.ps effects-measure.measurement_by.Kinds.r effects-measure.measurement_by.Reads.Post
  pub effects_restart_empty_ear : One effects-restart.empty_ear.Kinds.ps effects-restart.empty_ear.Kinds.r effects-restart.empty_ear.Reads.Post
  pub effects_restart_stopped_monitor : One effects-restart.stopped_monitor.Kinds.ps effects-restart.stopped_monitor.Kinds.r effects-restart.stopped_monitor.Reads.Post
  pub effects_restart_restarted : One effects-restart.restarted.Kinds.ps effects-restart.restarted.Kinds.r effects-restart.restarted.Reads.Post
  pub effects_restart_adopted : One effects-restart.adopted.Kinds.ps effects-restart.adopted.Kinds.r effects-restart.adopted.Reads.Post
  pub effects_restart_fresh : One effects-restart.fresh.Kinds.ps effects-restart.fresh.Kinds.r effects-restart.fresh.Reads.Post
  pub effects_store_locked : One effects-store.locked.Kinds.ps effects-store.locked.Kinds.r effects-store.locked.Reads.Post
  pub effects_store_restarted : One effects-store.restarted.Kinds.ps effects-store.restarted.Kinds.r effects-store.restarted.Reads.Post
  pub effects_store_stored_by : One effects-store.stored_by.Kinds.ps effects-store.stored_by.Kinds.r effects-store.stored_by.Reads.Post
  pub head_calls_factory : One head-calls.factory.Kinds.ps head-calls.factory.Kinds.r head-calls.factory.Reads.Post
  pub head_calls_node_fits : One head-calls.node_fits.Kinds.ps head-calls.node_fits.Kinds.r head-calls.node_fits.Reads.Post
  pub head_calls_make : One head-calls.make.Kinds.ps head-calls.make.Kinds.r head-calls.make.Reads.Post
  pub head_calls_lay : One head-calls.lay.Kinds.ps head-calls.lay.Kinds.r head-calls.lay.Reads.Post
  pub head_calls_byte : One head-calls.byte.Kinds.ps head-calls.byte.Kinds.r head-calls.byte.Reads.Post
  pub head_calls_tick : One head-calls.tick.Kinds.ps head-calls.tick.Kinds.r head-calls.tick.Reads.Post
  pub head_calls_measure : One head-calls.measure.Kinds.ps head-calls.measure.Kinds.r head-calls.measure.Reads.Post
  pub head_calls_keys : One head-calls.keys.Kinds.ps head-calls.keys.Kinds.r head-calls.keys.Reads.Post
  pub head_calls_power : One head-calls.power.Kinds.ps head-calls.power.Kinds.r head-calls.power.Reads.Post
  pub head_calls_bring : One head-calls.bring.Kinds.ps head-calls.bring.Kinds.r head-calls.bring.Reads.Post
  pub head_calls_last_hit : One head-calls.last_hit.Kinds.ps head-calls.last_hit.Kinds.r head-calls.last_hit.Reads.Post
  pub head_calls_serial_number : One head-calls.serial_number.Kinds.ps head-calls.serial_number.Kinds.r head-calls.serial_number.Reads.Post
  pub head_calls_load : One head-calls.load.Kinds.ps head-calls.load.Kinds.r head-calls.load.Reads.Post
  pub head_calls_save : One head-calls.save.Kinds.ps head-calls.save.Kinds.r head-calls.save.Reads.Post
  pub head_calls_number_in_force : One head-calls.number_in_force.Kinds.ps head-calls.number_in_force.Kinds.r head-calls.number_in_force.Reads.Post
  pub head_calls_baud_in_force : One head-calls.baud_in_force.Kinds.ps head-calls.baud_in_force.Kinds.r head-calls.baud_in_force.Reads.Post
  pub head_hear_elapsed : One head-hear.elapsed.Kinds.ps head-hear.elapsed.Kinds.r head-hear.elapsed.Reads.Post
  pub head_hear_gather : One head-hear.gather.Kinds.ps head-hear.gather.Kinds.r head-hear.gather.Reads.Post
  pub head_hear_standing : One head-hear.standing.Kinds.ps head-hear.standing.Kinds.r head-hear.standing.Reads.Post
  pub head_hear_tell : One head-hear.tell.Kinds.ps head-hear.tell.Kinds.r head-hear.tell.Reads.Post
  pub head_hear_step : One head-hear.step.Kinds.ps head-hear.step.Kinds.r head-hear.step.Reads.Post
  pub head_moves_ticked : One head-moves.ticked.Kinds.ps head-moves.ticked.Kinds.r head-moves.ticked.Reads.Post
  pub head_moves_measured : One head-moves.measured.Kinds.ps head-moves.measured.Kinds.r head-moves.measured.Reads.Post
  pub head_moves_keyed : One head-moves.keyed.Kinds.ps head-moves.keyed.Kinds.r head-moves.keyed.Reads.Post
  pub head_refusal_number : One head-refusal.Refusal.number.Kinds.ps head-refusal.Refusal.number.Kinds.r head-refusal.Refusal.number.Reads.Post
  pub reply_reply_to : One reply.reply_to.Kinds.ps reply.reply_to.Kinds.r reply.reply_to.Reads.Post
  pub reply_adoption : One reply.adoption.Kinds.ps reply.adoption.Kinds.r reply.adoption.Reads.Post
  pub line_calls_empty : One line-calls.empty.Kinds.ps line-calls.empty.Kinds.r line-calls.empty.Reads.Post
  pub line_calls_count : One line-calls.count.Kinds.ps line-calls.count.Kinds.r line-calls.count.Reads.Post
  pub line_calls_fits : One line-calls.fits.Kinds.ps line-calls.fits.Kinds.r line-calls.fits.Reads.Post
  pub line_calls_grow : One line-calls.grow.Kinds.ps line-calls.grow.Kinds.r line-calls.grow.Reads.Post
  pub line_calls_until_reply : One line-calls.until_reply.Kinds.ps line-calls.until_reply.Kinds.r line-calls.until_reply.Reads.Post
  pub line_calls_byte : One line-calls.byte.Kinds.ps line-calls.byte.Kinds.r line-calls.byte.Reads.Post
  pub line_calls_tick : One line-calls.tick.Kinds.ps line-calls.tick.Kinds.r line-calls.tick.Reads.Post
  pub line_calls_measure : One line-calls.measure.Kinds.ps line-calls.measure.Kinds.r line-calls.measure.Reads.Post
  pub line_calls_keys : One line-calls.keys.Kinds.ps line-calls.keys.Kinds.r line-calls.keys.Reads.Post
  pub line_calls_power : One line-calls.power.Kinds.ps line-calls.power.Kinds.r line-calls.power.Reads.Post
  pub line_calls_bring : One line-calls.bring.Kinds.ps line-calls.bring.Kinds.r line-calls.bring.Reads.Post
  pub line_calls_last_hit : One line-calls.last_hit.Kinds.ps line-calls.last_hit.Kinds.r line-calls.last_hit.Reads.Post
  pub line_calls_serial_number : One line-calls.serial_number.Kinds.ps line-calls.serial_number.Kinds.r line-calls.serial_number.Reads.Post
  pub line_calls_load : One line-calls.load.Kinds.ps line-calls.load.Kinds.r line-calls.load.Reads.Post
  pub line_calls_save : One line-calls.save.Kinds.ps line-calls.save.Kinds.r line-calls.save.Reads.Post
  pub line_round_told : One line-round.told.Kinds.ps line-round.told.Kinds.r line-round.told.Reads.Post
  pub rack_rack : One rack.rack.Kinds.ps rack.rack.Kinds.r rack.rack.Reads.Post
  pub order_form_answer_number : One order_form-answer.Refusal.number.Kinds.ps order_form-answer.Refusal.number.Kinds.r order_form-answer.Refusal.number.Reads.Post
  pub order_form_form_blank : One order_form-form.blank.Kinds.ps order_form-form.blank.Kinds.r order_form-form.blank.Reads.Post
  pub order_form_form_add : One order_form-form.add.Kinds.ps order_form-form.add.Kinds.r order_form-form.add.Reads.Post
  pub order_form_form_check : One order_form-form.check.Kinds.ps order_form-form.check.Kinds.r order_form-form.check.Reads.Post
  pub order_form_check_rows : One order_form.check_rows.Kinds.ps order_form.check_rows.Kinds.r order_form.check_rows.Reads.Post
  pub free_number_answer_number : One free_number-answer.Refusal.number.Kinds.ps free_number-answer.Refusal.number.Kinds.r free_number-answer.Refusal.number.Reads.Post
  pub free_number_map_empty : One free_number-map.empty.Kinds.ps free_number-map.empty.Kinds.r free_number-map.empty.Reads.Post
  pub free_number_map_add : One free_number-map.add.Kinds.ps free_number-map.add.Kinds.r free_number-map.add.Reads.Post
  pub free_number_map_remove : One free_number-map.remove.Kinds.ps free_number-map.remove.Kinds.r free_number-map.remove.Reads.Post
  pub free_number_map_lowest_free : One free_number-map.lowest_free.Kinds.ps free_number-map.lowest_free.Kinds.r free_number-map.lowest_free.Reads.Post
  pub free_number_map_count : One free_number-map.count.Kinds.ps free_number-map.count.Kinds.r free_number-map.count.Reads.Post
  pub text_keeping_new :
      (n : ℕ) (f : Fits w64 n)
      → One (text-keeping.Kept.new.Kinds.ps n f) (text-keeping.Kept.new.Kinds.r n f) (text-keeping.Kept.new.Reads.Post n f)
  pub text_keeping_take_in :
      (n : ℕ) (f : Fits w64 n)
      → One (text-keeping.Kept.take_in.Kinds.ps n f) (text-keeping.Kept.take_in.Kinds.r n f) (text-keeping.Kept.take_in.Reads.Post n f)
  pub text_keeping_is_empty :
      (n : ℕ) (f : Fits w64 n)
      → One (text-keeping.Kept.is_empty.Kinds.ps n f) (text-keeping.Kept.is_empty.Kinds.r n f) (text-keeping.Kept.is_empty.Reads.Post n f)
  pub text_keeping_clear :
      (n : ℕ) (f : Fits w64 n)
      → One (text-keeping.Kept.clear.Kinds.ps n f) (text-keeping.Kept.clear.Kinds.r n f) (text-keeping.Kept.clear.Reads.Post n f)
  pub text_laying_lay : One text-laying.lay.Kinds.ps text-laying.lay.Kinds.r text-laying.lay.Reads.Post
  pub text_lines_bare_length : One text-lines.bare_length.Kinds.ps text-lines.bare_length.Kinds.r text-lines.bare_length.Reads.Post
  pub text_lines_take_in : One text-lines.take_in.Kinds.ps text-lines.take_in.Kinds.r text-lines.take_in.Reads.Post
  pub text_numbers_decimal : One text-numbers.decimal.Kinds.ps text-numbers.decimal.Kinds.r text-numbers.decimal.Reads.Post
  pub text_numbers_signed : One text-numbers.signed.Kinds.ps text-numbers.signed.Kinds.r text-numbers.signed.Reads.Post
  pub text_numbers_pair : One text-numbers.pair.Kinds.ps text-numbers.pair.Kinds.r text-numbers.pair.Reads.Post
  pub text_numbers_hex_bytes : One text-numbers.hex_bytes.Kinds.ps text-numbers.hex_bytes.Kinds.r text-numbers.hex_bytes.Reads.Post
  pub script_meaning : One script.meaning.Kinds.ps script.meaning.Kinds.r script.meaning.Reads.Post
  pub script_byte_at : One script.byte_at.Kinds.ps script.byte_at.Kinds.r script.byte_at.Reads.Post
  pub script_telegrams_meaning : One script-telegrams.meaning.Kinds.ps script-telegrams.meaning.Kinds.r script-telegrams.meaning.Reads.Post
  pub form_text_entry : One form_text.entry.Kinds.ps form_text.entry.Kinds.r form_text.entry.Reads.Post
  pub hex_digits_spell : One hex_digits.spell.Kinds.ps hex_digits.spell.Kinds.r hex_digits.spell.Reads.Post
