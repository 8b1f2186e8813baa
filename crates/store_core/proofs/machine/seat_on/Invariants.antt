use Rattle.store_core.proofs.FlightLemmas.{NoneOn}
use Rattle.store_core.proofs.machine.seat_on.Given as goal

abbrev pub invariant-loop-flight : goal.invariant-loop-flight
invariant-loop-flight l = NoneOn l.flights l.key l.flight-index
