-- The definitions of a call's way through a line, a head and the account, opened together: under `unfolding computing` a closed term computes.
-- Assumes nothing.
use Rattle.wire.specs.Check.{hit_of}
use Rattle.wire.specs.Telegram.{fields_of, bytes_of}
use Rattle.signed.specs.Number.{number_of, word_of, distance_of}
use Rattle.signed.specs.Rounding.{divisor_of, rounded_of}
use Rattle.signed.specs.Difference.{held_of, differential_of}
use Rattle.signed.specs.Position.{absolute_of}
use Rattle.rows.specs.Table.{rows, row_of, place_of}
use Rattle.rows.specs.Access.{access_of, broadcast_of}
use Rattle.rows.specs.Kinds.{other_of, kind_of}
use Rattle.rows.specs.Resets.{bus_of, resets_of}
use Rattle.rows.specs.Ranges.{fits_in, all_right_of, is_signed_of, reading_of, unlisted_of, between_of, range_in, other_row_of, range_of}
use Rattle.sheet.specs.Format.{value_of, rises, row_right, well_formed_of}
use Rattle.sheet.specs.Loading.{meant_of, known_of, fitting_of, store_of}
use Rattle.sheet.specs.Spelled.{spelled_of}
use Rattle.sheet.specs.Writing.{sheet_of}
use Rattle.judge.specs.Commands.{command_of}
use Rattle.judge.specs.Checks.{◌else◌, sum_check, node_check, command_check, parameter_check, access_check, lockable_of, lock_check, state_check, range_check, value_check, number_check, hush_of}
use Rattle.judge.specs.Verdicts.{late_of, verdict_of}
use Rattle.judge.specs.Deeds.{system_of, done_by, shown_by, refused_by, deed_of}
use Rattle.judge.specs.Judged.{judged_of}
use Rattle.state.specs.Errors.{empty_list, remembered_of, entry_of}
use Rattle.state.specs.Position.{position_of, actual_of, shown_of, view_of}
use Rattle.state.specs.Mode.{is_display}
use Rattle.state.specs.Status.{aim_of, aim_bits_of, display_bits_of, rest_bits_of, aimed_of, status_of, within_of, difference_of}
use Rattle.effects.specs.Stored.{locked_of, reset_value, reset_of, adopted_stored, restarted_stored, stored_by}
use Rattle.effects.specs.Faults.{raised_of, counted_of, complained_of, acknowledged_of, restarted_faults, faults_by}
use Rattle.effects.specs.Measured.{calibrated_of, frozen_of, released_of, moved_of, restarted_measurement, measurement_by}
use Rattle.effects.specs.Aimed.{no_targets, settled_of, first_aimed, second_aimed, given_of, lacking_of, all_given_of, cleared_of, stays_of, turned_of, targets_by}
use Rattle.effects.specs.Restart.{empty_ear, stopped, restarted_of, adopted_of, delivered_of, fresh_of}
use Rattle.reply.specs.Word.{keeps_old, carried_of}
use Rattle.reply.specs.Reply.{input_of, position_word, read_of, answer_of, silence, said, error_reply, value_reply, reply_of, adoption_of}
use Rattle.head.specs.Hear.{elapsed_of, kept_ear, gathered_of, standing_of, restarts_of, started_of, told_of, tell_of, step_of}
use Rattle.state.specs.Wellformed.{in_reach_of, offer_fits, stored_fits, faults_fit, kept_fits, measurement_fits, ear_fits, wellformed_of}
use Rattle.state.specs.Older.{is_older, retired_of, older_fits, brought_of}
use Rattle.head.specs.Moves.{overdue_of, ticked_of, measured_of, pressed_of, left_of, star_of, keyed_of}
use Rattle.head.specs.Calls as head
use Rattle.head.specs.Outcome as alone
use Rattle.line.specs.Calls as line
use Rattle.rack.specs.Rack as rack
use Rattle.demands.specs.Past.{delivered, may_add_of, grown, marked, since, gather, kept, ear_by, lockable, accepted, gives, withdrawn, hearing, loadable, loaded, pressed, change, look, next, account}
use Rattle.demands.specs.Run.{runs, after, ask_of}

unfoldable pub computing : Unit {0}
unfolding hit_of fields_of bytes_of number_of word_of distance_of divisor_of rounded_of held_of differential_of absolute_of rows row_of place_of access_of broadcast_of other_of kind_of bus_of resets_of fits_in all_right_of is_signed_of reading_of unlisted_of between_of range_in other_row_of range_of value_of rises row_right well_formed_of meant_of known_of fitting_of store_of spelled_of sheet_of command_of ◌else◌ sum_check node_check command_check parameter_check access_check lockable_of lock_check state_check range_check value_check number_check hush_of late_of verdict_of system_of done_by shown_by refused_by deed_of judged_of empty_list remembered_of entry_of position_of actual_of shown_of view_of is_display stays_of aim_of aim_bits_of display_bits_of rest_bits_of aimed_of status_of within_of difference_of locked_of adopted_stored restarted_stored stored_by raised_of counted_of complained_of acknowledged_of restarted_faults faults_by restarted_measurement measurement_by no_targets settled_of second_aimed given_of lacking_of all_given_of turned_of targets_by empty_ear stopped restarted_of adopted_of delivered_of fresh_of keeps_old carried_of input_of read_of answer_of silence said error_reply value_reply reply_of adoption_of elapsed_of kept_ear gathered_of standing_of restarts_of started_of told_of tell_of step_of in_reach_of offer_fits stored_fits faults_fit kept_fits measurement_fits ear_fits wellformed_of is_older retired_of older_fits brought_of head.factory_of head.node_fits head.laid_on_of head.byte_of head.byte_space_of head.power_of head.bring_of head.tick_of head.made_of alone.called line.empty_of line.fits_by line.grow_of line.byte_of line.byte_space_of line.measure_of line.keys_of line.keys_space_of line.power_of line.bring_of line.named_of line.placed_of head.measure_of head.keys_of head.keys_space_of head.last_hit_of line.last_hit_of head.serial_number_of line.serial_number_of head.loaded_of head.load_of head.save_of head.save_space_of line.load_of line.save_of line.save_space_of line.tick_of rack.is_rack rack.room_for rack.dropped_of rack.fed_of rack.rack_of rack.rack_space_of pressed_of left_of star_of keyed_of ticked_of measured_of overdue_of moved_of calibrated_of frozen_of released_of reset_value reset_of first_aimed cleared_of position_word delivered may_add_of grown marked since gather kept ear_by lockable accepted gives withdrawn hearing loadable loaded pressed change look next account runs after ask_of
computing = tt
