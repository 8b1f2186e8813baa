use Rattle.std.proofs.Common.{◌≡◌, true, ◌∙◌}
use Rattle.store_core.proofs.FlightLemmas.{none_more}
use Rattle.store_core.proofs.machine.seat_on.Goals as goal

pub loop-flight-preserved : goal.loop-flight-preserved
loop-flight-preserved c =
    none_more c.args.flights.now c.args.key.now c.loop-flight.flight-index c.flight-item.result
    c.loop-flight.invariant c.loop-flight-test.true c.flight-item.is
    (λ same. let yes : c.equals.result ≡ true = c.equals.ensures.1 (c.get.ensures ∙ same) in
    let no = c.if-equals.false in absurd (cc))
