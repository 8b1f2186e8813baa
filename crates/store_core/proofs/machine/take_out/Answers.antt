use Rattle.std.proofs.Common.{◌≡◌, ◌==◌, not, length, arith, ap, rules}
use Rattle.std.proofs.lemmas.Fn.{filter_same}
use Rattle.cert_check.specs.declared.flight.Flight.{Flight}
use Rattle.cert_check.specs.Machine.{without}
use Rattle.store_core.proofs.FlightLemmas.{fewer}
use Rattle.store_core.proofs.machine.take_out.Goals as goal

pub returns-clause-others : goal.returns-clause-others
returns-clause-others c =
    filter_same _ (λ (f : Flight). not (f.seat == c.args.seat)) _ (λ x b f' k. search rules) _ _
    c.retain.ensures.filtered

pub returns-clause-fewer : goal.returns-clause-fewer
returns-clause-fewer c =
    let others : c.retain.new.self.items ≡ without c.args.seat c.args.flights.now.items =
    filter_same _ (λ (f : Flight). not (f.seat == c.args.seat)) _ (λ x b f' k. search rules) _ _
    c.retain.ensures.filtered in
    omega (arith, ap length others, fewer c.args.seat c.args.flights.now.items c.requires)
