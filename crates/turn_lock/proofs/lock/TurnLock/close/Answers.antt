use Rattle.turn_lock.proofs.EndLemmas.{closes, closes_with}
use Rattle.turn_lock.proofs.lock.TurnLock.close.Goals as goal

pub unreachable-requires : goal.unreachable-requires
unreachable-requires g c =
    let found = closes g.T.Kept.origin g.T.Kept.events g.T.Kept.names _ _ _ _ _ c.take-slot.result
    c.close_with-closed.ensures.values.2 c.requires.idle c.requires.whole c.args.seat.is_seat.has_origin
    c.take-slot.ensures.value in
    c.in_default.not-Some found.0 found.1

pub returns-clause-origin : goal.returns-clause-origin
returns-clause-origin g c = (closes_with g.T.Kept.origin g.T.Kept.events g.T.Kept.names _ _ _ _ _ c.take-slot.result
    c.in-Some.value c.close_with-closed.ensures.values.2 c.requires.idle c.requires.whole
    c.args.seat.is_seat.has_origin c.take-slot.ensures.value c.in-Some.is).0

pub returns-clause-sees_all : goal.returns-clause-sees_all
returns-clause-sees_all g c = (closes_with g.T.Kept.origin g.T.Kept.events g.T.Kept.names _ _ _ _ _ c.take-slot.result
    c.in-Some.value c.close_with-closed.ensures.values.2 c.requires.idle c.requires.whole
    c.args.seat.is_seat.has_origin c.take-slot.ensures.value c.in-Some.is).1

pub returns-clause-numbers : goal.returns-clause-numbers
returns-clause-numbers g c = (closes_with g.T.Kept.origin g.T.Kept.events g.T.Kept.names _ _ _ _ _ c.take-slot.result
    c.in-Some.value c.close_with-closed.ensures.values.2 c.requires.idle c.requires.whole
    c.args.seat.is_seat.has_origin c.take-slot.ensures.value c.in-Some.is).2
