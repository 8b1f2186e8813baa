use Rattle.turn_lock.proofs.EndLemmas.{opens_as, rests_as}
use Rattle.turn_lock.proofs.lock.TurnLock.new.Goals as goal

pub new-requires : goal.new-requires
new-requires g c =
    opens_as g.T.Kept.origin g.T.Kept.events g.T.Kept.names c.of-first.result.value c.args.value
    c.push_reserved.new.self.items c.in-Ok.slots.items c.of-first.ensures c.requires c.in-Ok.ensures.items
    c.push_reserved.ensures.items

pub invariant_of-result-in-Ok-new : goal.invariant_of-result-in-Ok-new
invariant_of-result-in-Ok-new g c = record { is_seat = rests_as _ c.in-Ok-new.place.me c.in-Ok-new.ensures.ok.4 }
