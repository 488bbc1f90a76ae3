-- `engine::keeps::reset_all` meets its contract. The loop's invariant: the values done, and the reset of those left, are the reset of all.
use Rattle.std.proofs.Common.{◌≡◌, ◌++◌, length, take, drop}
use Rattle.engine.specs.Addresses.{the39}
use Rattle.engine.specs.Does.{reset_all}
use Rattle.engine.proofs.keeps.reset_all.Given as goal

abbrev pub invariant-loop-i : goal.invariant-loop-i
invariant-loop-i l =
    record {
      long : length l.value-items ≡ 39;
      same : take l.i l.value-items ++ reset_all l.command (drop l.i the39) (drop l.i l.value-items) ≡ reset_all l.command the39 l.fn.values;
    }
