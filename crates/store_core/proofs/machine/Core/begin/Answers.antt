use Rattle.std.proofs.Common.{◌≡◌, ◌∷◌, [], ◌++◌, ap, rules, List, refl, subst, sym}
use Rattle.layers.specs.Layers.{joined}
use Rattle.cert_check.specs.declared.event.Event.TheVariants.{Begun}
use Rattle.cert_check.specs.declared.flight.Flight.{Flight}
use Rattle.cert_check.specs.Machine.{MayBegin, begun}
use Rattle.store_core.specs.Cores.{PlainCore}
use Rattle.store_core.proofs.TurnLemmas.{took}
use Rattle.store_core.proofs.machine.Core.begin.Goals as goal

pub invariant_of-self-2 : goal.invariant_of-self-2
invariant_of-self-2 c =
    let core : PlainCore = record {
      opening = joined c.self.inside.opening;
      state = record { entries = joined c.self.inside.version; flights = c.self.inside.flights.items };
      layers = c.self.inside.version;
      events = c.self.inside.events.items;
    } in
    let flights : c.push.new.self.items ≡ c.self.inside.flights.items
    ++ record { seat = c.args.seat; key = c.args.key.now } ∷ [] = search rules in
    let events : c.push_reserved.new.self.items ≡ c.self.inside.events.items
    ++ Begun c.args.seat c.args.key.now c.args.n ∷ [] = search rules in (
      (took (begun c.args.seat c.args.key.now c.args.n) core
          (record { entries = joined c.self.inside.version; flights = c.push.new.self.items }) c.self.inside.version
          c.push_reserved.new.self.items
          (c.cores_take_turns.ensures core (begun c.args.seat c.args.key.now c.args.n) c.self.inside.version
          c.self.invariant.0
          (subst (λ (x : PlainCore). MayBegin x.state c.args.seat c.args.key.now c.args.n) (sym c.self.view_is) c.requires)
          refl)
          (ap (λ (fs : List Flight). record { entries = joined c.self.inside.version; flights = fs }) flights)
          events).is_core,
      search rules,
    )
