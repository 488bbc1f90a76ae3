-- The definitions of the engine, opened together with those of the calls (demands, Computing): under `unfolding engine_computing` a closed term computes.
-- Assumes nothing.
use Rattle.engine.specs.Addresses.{the39, place, is_known, may_broadcast, limits_of, is_listed, number_in, default_of, is_bus}
use Rattle.engine.specs.Shows.{position, actual, current, differential, status}
use Rattle.engine.specs.Does.{with_the39, store, resets, reset, unlock, offer, calibrate, freeze, release, forget_errors, clear_static, acknowledge, aim_first, aim_second, restart}
use Rattle.engine.specs.Way.{counted, hearing, silent, reply, complain, read, system, write, obeyed, way}
use Rattle.engine.specs.Answer.{told_of, answer_of}
use Rattle.demands.proofs.Computing.{computing}

unfoldable pub engine_computing : Unit {0}
unfolding computing the39 place is_known may_broadcast limits_of is_listed number_in default_of is_bus position actual current differential status with_the39 store resets reset unlock offer calibrate freeze release forget_errors clear_static acknowledge aim_first aim_second restart counted hearing silent reply complain read system write obeyed way told_of answer_of
engine_computing = tt
