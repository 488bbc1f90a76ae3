-- Ten bytes judged: what they say, the verdict on them, and what they do.
-- Assumes nothing.
use Rattle.std.specs.Prelude.{ℕ, List}
use Rattle.wire.specs.declared.telegram.Telegram.{Telegram}
use Rattle.wire.specs.Check.{hit_of}
use Rattle.wire.specs.Telegram.{fields_of}
use Rattle.rows.specs.Kinds.{kind_of}
use Rattle.judge.specs.declared.verdict.Standing.{Standing}
use Rattle.judge.specs.declared.verdict.Verdict.{Verdict}
use Rattle.judge.specs.declared.judged.Judged.{Judged}
use Rattle.judge.specs.Commands.{command_of}
use Rattle.judge.specs.Verdicts.{verdict_of}
use Rattle.judge.specs.Deeds.{deed_of}

-- a telegram with its verdict
abbrev pub judged_as : Telegram → List ℕ → Verdict → Judged
judged_as t ten v =
    record {
      telegram = t;
      hit = hit_of ten;
      command = command_of t.command;
      kind = kind_of t.parameter;
      verdict = v;
      deed = deed_of v (command_of t.command) (kind_of t.parameter) t;
    }

unfoldable pub judged_of : List ℕ → Standing → Judged
judged_of ten s = judged_as (fields_of ten) ten (verdict_of (hit_of ten) (fields_of ten) s)
