use Rattle.turn_lock.proofs.SharingLemmas.{left_rests}
use Rattle.turn_lock.proofs.lock.TurnLock.split.Goals as goal

pub invariant_of-seat : goal.invariant_of-seat
invariant_of-seat g c = record {
  is_seat = left_rests _ _ _ _ c.args.seat.now.is_seat c.requires.two c.requires.owns c.part-place.ensures.leaves;
}
