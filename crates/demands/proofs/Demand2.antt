-- Demand 2, proved: its sentences together.
-- Assumes nothing.
use native.Mathlib.Omega.{arith}
use mathlib.Core.Path.{refl}
use lib.Dec.{ltb}
use lib.ListN.{length}
use Rattle.std.specs.Prelude.{is_some}
use Rattle.state.specs.Wellformed.{wellformed_of}
use Rattle.state.proofs.Laws.{remembers}
use Rattle.head.specs.Hear.{step_of}
use Rattle.head.proofs.Again.{nine_restarts}
use Rattle.line.specs.Calls as line
use Rattle.demands.specs.Run.{product}
use Rattle.demands.specs.Demand2.{Demand2}
use Rattle.demands.proofs.Answers.{gathers, obeys, answers, keeps_silent, head_sound, line_sound, restarts}
use Rattle.demands.proofs.Every.{every}
use Rattle.demands.proofs.Bits.{bits}
use Rattle.demands.proofs.Views.{views}
use Rattle.demands.proofs.Alone.{brings, makes, powers, ticks, measures, presses, adopting}
use Rattle.demands.proofs.Lines.{line_count, line_heads, line_counts, line_lays_not, line_silent, line_one, line_ticks, line_ticked, line_asks, line_presses, line_grows, shows, line_shows, tells, line_tells}

pub demand2 : Demand2 product
demand2 =
    record {
      gathers = gathers;
      obeys = obeys;
      answers = answers;
      keeps_silent = keeps_silent;
      head_sound = λ h b t space. head_sound h b t space (wellformed_of h) (ltb (length space) 10) (is_some (step_of h b t).reply) refl refl refl;
      line_sound = λ l b t space. line_sound l b t space (line.fits_of l) (ltb (length space) 10) refl refl;
      every = every;
      bits = bits;
      views = views;
      restarts = restarts;
      nine_restarts = nine_restarts;
      makes = makes;
      powers = powers;
      ticks = ticks;
      measures = measures;
      brings = brings;
      presses = presses;
      adopting = adopting;
      shows = shows;
      remembers = remembers;
      line_hears = λ l b t space f r. (line_heads l b t space f r, line_count l b t space f r);
      line_silent = line_silent;
      line_answers_lem = line_one;
      line_collides = λ l b t space f r two. (line_counts l b t space f r, line_lays_not l b t space f r (λ one. omega arith));
      line_ticks = λ l t f. (line_ticks l f t, (line_ticked l f t).0, (line_ticked l f t).1);
      line_asks = line_asks;
      line_presses = λ l i s space f p. line_presses l f i s space p;
      line_grows = λ l node serial f p u. line_grows l f node serial p u;
      line_shows = λ l i f p. line_shows l f i p;
      tells = tells;
      line_tells = λ l i f p. line_tells l f i p;
    }
