-- The calls are the product's: each contract is the equation that the product has for it.
-- Assumes nothing.
use Prim.Native.Nat.{ℕ}
use mathlib.Core.Path.{◌≡◌, ◌∙◌, refl, sym}
use Rattle.head.specs.Calls.{made_of, factory_of}
use Rattle.head.specs.Outcome.{called}
use Rattle.order_form.specs.Check.{answer_of}
use Rattle.order_form.proofs.Held.{added}
use Rattle.free_number.specs.Demand as keeper
use Rattle.master.specs.Demand as master
use Rattle.master.proofs.Laws.{refusal_ten}
use Rattle.engine.specs.Answer as engine
use Rattle.engine.proofs.Twenty.{refusal_twenty}
use Rattle.demands.specs.Run.{product, ask_of, after}
use Rattle.demands.specs.Real.{Real, Plain, RealSheet, RealForm, RealMap, RealMaster, RealEngine, RealSerial, RealRack, RealRound}
use Rattle.demands.proofs.Computing.{computing}

factory_made : (serial : ℕ) → factory_of serial ≡ (made_of 31 serial).head
unfolding computing
factory_made serial = refl

pub real : Real product
unfolding called ask_of
real =
    record {
      factory_asks = λ κs a. tt;
      make_asks = λ κs a. tt;
      byte_asks = λ κs a. tt;
      tick_asks = λ κs a. tt;
      measure_asks = λ κs a. tt;
      keys_asks = λ κs a. tt;
      power_asks = λ κs a. tt;
      bring_asks = λ κs a. tt;
      last_hit_asks = λ κs a. tt;
      serial_number_asks = λ κs a. tt;
      load_asks = λ κs a. tt;
      save_asks = λ κs a. tt;
      number_asks = λ κs a. tt;
      number_in_force_asks = λ κs a. tt;
      baud_in_force_asks = λ κs a. tt;
      line_count_asks = λ κs a. tt;
      line_fits_asks = λ κs a. tt;
      line_grow_asks = λ κs a. tt;
      line_byte_asks = λ κs a. tt;
      line_until_reply_asks = λ κs a. tt;
      line_tick_asks = λ κs a. tt;
      line_measure_asks = λ κs a. tt;
      line_keys_asks = λ κs a. tt;
      line_power_asks = λ κs a. tt;
      line_bring_asks = λ κs a. tt;
      line_last_hit_asks = λ κs a. tt;
      line_serial_number_asks = λ κs a. tt;
      line_load_asks = λ κs a. tt;
      line_save_asks = λ κs a. tt;
      rack_asks = λ κs a. tt;
      factory = λ κs a y u p. p ∙ factory_made a.0;
      make = λ κs a y u p. p;
      byte = λ κs a y u p. p;
      tick = λ κs a y u p. p;
      measure = λ κs a y u p. p;
      keys = λ κs a y u p. p;
      power = λ κs a y u p. p;
      bring = λ κs a y u p. p;
      load = λ κs a y u p. p;
      save = λ κs a y u p. p;
      number_in_force_lem = λ κs a y u p. p;
      baud_in_force_lem = λ κs a y u p. p;
      last_hit_lem = λ κs a y u p. p;
      serial_number_lem = λ κs a y u p. p;
      number = λ κs a y u p. p;
      empty = λ κs a y u p. p;
      count = λ κs a y u p. p;
      fits = λ κs a y u p. p;
      grow = λ κs a y u p. p;
      line_byte = λ κs a y u p. p;
      line_until_reply = λ κs a y u p. p;
      line_tick = λ κs a y u p. p;
      line_measure = λ κs a y u p. p;
      line_keys = λ κs a y u p. p;
      line_power = λ κs a y u p. p;
      line_bring = λ κs a y u p. p;
      line_last_hit = λ κs a y u p. p;
      line_serial_number = λ κs a y u p. p;
      line_load = λ κs a y u p. p;
      line_save = λ κs a y u p. p;
      line_rack = λ κs a y u p. p;
    }

pub plain : Plain product
unfolding after
plain =
    record {
      grown = λ node serial l. refl;
      heard = λ b t s l. refl;
      ticked = λ t l. refl;
      asked = λ j a l. refl;
      pressed = λ j s n l. refl;
      emptied = λ t l. refl;
      measured = λ x. refl;
      powered = refl;
      loaded = λ s. refl;
      brought = refl;
    }

pub real_sheet : RealSheet
real_sheet =
    record {
      formed_asks = λ κs a. tt;
      check_asks = λ κs a. tt;
      load_asks = λ κs a. tt;
      write_asks = λ κs a. tt;
      number_asks = λ κs a. tt;
      formed = λ κs a y u p. p;
      check = λ κs a y u p. p;
      load = λ κs a y u p. p;
      write = λ κs a y u p. p;
      sheet_number = λ κs a y u p. p;
      new_asks = λ 𝓛 mem run κs a g. refl;
      new = λ 𝓛 mem run κs a g y e. refl;
      next_asks = λ 𝓛 mem run κs a g. refl;
      next = λ 𝓛 mem run κs a g y e. refl;
    }

pub real_round : RealRound
real_round = record { asks_nothing = λ 𝓛 mem run κs a g. refl; told = λ 𝓛 mem run κs a g y e. refl }

pub real_form : RealForm answer_of
real_form =
    record {
      words = refl;
      in_order = λ r. refl;
      asks_nothing = λ 𝓛 mem run κs a g. refl;
      rows = λ 𝓛 mem run κs a g y e. refl;
      blank = λ κs a y u p. p;
      add = λ κs a y u p. p;
      check_held = λ κs a y u p. p;
      held = added;
      form_number = λ κs a y u p. p;
    }

pub real_map : RealMap keeper.product
real_map =
    record {
      words = refl;
      in_order = λ m. refl;
      empty_asks = λ κs a. tt;
      add_asks = λ κs a. tt;
      remove_asks = λ κs a. tt;
      lowest_asks = λ κs a. tt;
      count_asks = λ κs a. tt;
      empty = λ κs a y u p. p;
      add = λ κs a y u p. p;
      remove = λ κs a y u p. p;
      lowest = λ κs a y u p. p;
      count = λ κs a y u p. p;
      number_asks = λ κs a. tt;
      map_number = λ κs a y u p. p;
    }

pub real_master : RealMaster master.product
real_master =
    record {
      build_asks = λ κs a. tt;
      read_asks = λ κs a. tt;
      number_asks = λ κs a. tt;
      build = λ κs a y u p. p;
      read = λ κs a y u p. p;
      master_number = λ κs a y u p. p ∙ sym (refusal_ten a.0);
    }

pub real_engine : RealEngine engine.answer_of
real_engine =
    record {
      answer_asks = λ κs a. tt;
      number_asks = λ κs a. tt;
      answer = λ κs a y u p. p;
      engine_number = λ κs a y u p. p ∙ sym (refusal_twenty a.0);
    }

pub real_serial : RealSerial
real_serial = record { made_of_lem = refl; grown_of = refl; factory_of_lem = refl }

pub real_rack : RealRack
real_rack = record { time_of = refl; place_of = refl }
