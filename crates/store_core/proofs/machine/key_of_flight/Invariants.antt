use Rattle.std.proofs.Common.{◌≢◌, ℕ, ◌<◌}
use Rattle.std.specs.Prelude.{slice_index_or}
use Rattle.cert_check.specs.declared.flight.Flight.{Flight}
use Rattle.store_core.proofs.machine.key_of_flight.Given as goal

-- no flight so far is of the seat
abbrev pub invariant-loop-flight : goal.invariant-loop-flight
invariant-loop-flight l =
    (k : ℕ) (d : Flight) → k < l.flight-index → (slice_index_or l.flights k d).seat ≢ l.seat
