use Rattle.std.proofs.Common.{sym, subst}
use Rattle.layers.specs.Layers.{joined}
use Rattle.cert_check.specs.Machine.{MayCome}
use Rattle.store_core.specs.Cores.{PlainCore, end_turn}
use Rattle.store_core.proofs.TurnLemmas.{closed_so}
use Rattle.store_core.proofs.machine.Core.close.Goals as goal

pub invariant_of-self : goal.invariant_of-self
invariant_of-self c =
    let core : PlainCore = record {
      opening = joined c.self.inside.opening;
      state = record { entries = joined c.self.inside.version; flights = c.self.inside.flights.items };
      layers = c.self.inside.version;
      events = c.self.inside.events.items;
    } in
    let may : MayCome core.state (end_turn core.state.entries c.args.seat c.args.how) =
    subst (λ (x : PlainCore). MayCome x.state (end_turn x.state.entries c.args.seat c.args.how)) (sym c.self.view_is)
    c.requires.may in (
      (closed_so c.cores_take_turns.ensures core c.args.seat c.args.how c.end_flight.new.flights.items
          c.end_flight.new.events.items c.self.invariant.0 c.requires.keeps_nothing may c.end_flight.ensures.flights
          c.end_flight.ensures.events).is_core,
      c.end_flight.ensures.room,
    )
