-- Who has what is written out has the premise.
-- Assumes nothing.
use Rattle.line.proofs.Theorems.{well_at}
use Rattle.exchange.specs.Premises.{Premises}

pub premises : Premises
premises =
    record {
      asks = λ q fits command node. record { fits = fits; may = record { command = command; node = node } };
      given = λ τ space steady room. record { steady = steady; room = room };
      ready = λ h typed well none. record { typed = typed; well = well; none = none };
      quiet = λ l fits places heads differ.
          record {
            fits = record { fits = fits; places = places };
            ready = λ k p. record { typed = (heads k p).0; well = well_at l fits k p; none = (heads k p).1 };
            differ = differ;
          };
    }
