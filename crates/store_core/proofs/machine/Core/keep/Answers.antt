use Rattle.std.proofs.Common.{◌≡◌, ◌∙◌, ◌∷◌, [], ◌++◌, ℕ, ap, rules, List, length, take, ◌⊎◌, subst, sym}
use Rattle.layers.specs.Layers.{joined, DecidesMore}
use Rattle.layers.specs.Halving.{AreGrown}
use Rattle.cert_check.specs.declared.entry.Entry.{Entry}
use Rattle.cert_check.specs.declared.event.Event.{Event}
use Rattle.cert_check.specs.declared.event.Event.TheVariants.{Ended}
use Rattle.cert_check.specs.declared.event.Ending.TheVariants.{Kept}
use Rattle.cert_check.specs.Machine.{MayKeep, kept, without}
use Rattle.store_core.specs.Cores.{PlainCore}
use Rattle.store_core.specs.Seen.{BeganLast}
use Rattle.store_core.specs.Steps.{Keeps}
use Rattle.store_core.proofs.SeenLemmas.{ends_with_more}
use Rattle.store_core.proofs.TurnLemmas.{TookTurn, same_state, took}
use Rattle.store_core.proofs.machine.Core.keep.Goals as goal

-- the core with the entry at its end
took_here : (c : goal.After-end_flight) → TookTurn (kept c.args.seat (length (joined c.self.inside.version)) c.args.entry)
    (record {
      opening = joined c.self.inside.opening;
      state = record { entries = joined c.self.inside.version; flights = c.self.inside.flights.items };
      layers = c.self.inside.version;
      events = c.self.inside.events.items;
    }) (record { entries = joined c.in_ok-version.version; flights = c.end_flight.new.flights.items })
    c.in_ok-version.version c.end_flight.new.events.items
took_here c =
    let core : PlainCore = record {
      opening = joined c.self.inside.opening;
      state = record { entries = joined c.self.inside.version; flights = c.self.inside.flights.items };
      layers = c.self.inside.version;
      events = c.self.inside.events.items;
    } in
    let place : c.len-place.result ≡ length (joined c.self.inside.version) = search rules in
    let entries : joined c.in_ok-version.version ≡ joined c.self.inside.version ++ c.args.entry ∷ [] = search rules in
    let events : c.end_flight.new.events.items ≡ c.self.inside.events.items
    ++ Ended c.args.seat (Kept (length (joined c.self.inside.version))) ∷ [] =
    c.end_flight.ensures.events
    ∙ ap (λ (n : ℕ). c.self.inside.events.items ++ Ended c.args.seat (Kept n) ∷ []) place in
    let grown : AreGrown c.self.inside.version c.args.entry c.in_ok-version.version = search rules in
    let may : MayKeep core.state c.args.seat (length (joined c.self.inside.version)) c.args.entry =
    subst (λ (x : PlainCore). MayKeep x.state c.args.seat (length x.state.entries) c.args.entry) (sym c.self.view_is)
    c.requires in
    took (kept c.args.seat (length (joined c.self.inside.version)) c.args.entry) core
    (record { entries = joined c.in_ok-version.version; flights = c.end_flight.new.flights.items })
    c.in_ok-version.version c.end_flight.new.events.items
    (c.cores_take_turns.ensures core (kept c.args.seat (length (joined c.self.inside.version)) c.args.entry)
    c.in_ok-version.version c.self.invariant.0 may grown)
    (same_state (joined c.in_ok-version.version) (joined c.self.inside.version ++ c.args.entry ∷ [])
    c.end_flight.new.flights.items (without c.args.seat c.self.inside.flights.items) entries
    c.end_flight.ensures.flights) events

pub add_seen-requires-clause-more : goal.add_seen-requires-clause-more
add_seen-requires-clause-more c =
    let core : PlainCore = record {
      opening = joined c.self.inside.opening;
      state = record { entries = joined c.self.inside.version; flights = c.self.inside.flights.items };
      layers = c.self.inside.version;
      events = c.self.inside.events.items;
    } in
    let seen : ℕ = c.seen_by-seen.result in
    let may : MayKeep core.state c.args.seat (length (joined c.self.inside.version)) c.args.entry =
    subst (λ (x : PlainCore). MayKeep x.state c.args.seat (length x.state.entries) c.args.entry) (sym c.self.view_is)
    c.requires in
    let began : (seen ≡ 0) ⊎ BeganLast core.events c.args.seat seen =
    subst (λ (es : List Event). (seen ≡ 0) ⊎ BeganLast es c.args.seat seen) c.deref.ensures.value
    c.seen_by-seen.ensures in
    subst (λ (ls : List (List Entry)). DecidesMore (take seen (joined ls)) c.args.entry) (sym c.get.ensures)
    (ends_with_more c.flights_begin_rightly.ensures core c.args.seat (length (joined c.self.inside.version)) seen
    c.args.entry c.self.invariant.0 began may)

pub invariant_of-self : goal.invariant_of-self
invariant_of-self c = ((took_here c).is_core, c.end_flight.ensures.room)

pub returns : goal.returns
returns c =
    let place : c.len-place.result ≡ length (joined c.self.inside.version) = search rules in
    let layers : c.in_ok-answer.answer ≡ c.in_ok-version.version = search rules in
    subst (λ (old : PlainCore). Keeps c.args.seat c.args.entry old (record {
      opening = joined c.self.inside.opening;
      state = record { entries = joined c.in_ok-version.version; flights = c.end_flight.new.flights.items };
      layers = c.in_ok-version.version;
      events = c.end_flight.new.events.items;
    }) (c.len-place.result, c.in_ok-answer.answer)) c.self.view_is
    (record {
      takes = (took_here c).takes;
      is_added = record { place = place; layers = layers; list = ap joined layers };
    })
