-- Which lock a seat is of, and what a seat is known to have.
use Rattle.std.specs.Prelude.{◌≡◌}
use Rattle.turn_lock.specs.declared.view.View.{View}
use Rattle.turn_lock.specs.declared.seat.TurnSeat.{TurnSeat}
use Rattle.turn_lock.specs.declared.kept.Kept.{Ghosts}
use Rattle.turn_lock.specs.declared.lock.TurnLock.{TurnLock}

module _ {T E O : Type 0} {G : Ghosts T E O} where
  -- what a seat is known to have
  abbrev pub known : TurnSeat T E O G → View E O
  known seat = seat.place.me.0

  -- the seat is one of the lock
  abbrev pub IsOf : TurnLock T E O → TurnSeat T E O G → Type 0
  IsOf lock seat = seat.place.table_id ≡ lock.table.shared.table_id

  -- two seats of one lock
  abbrev pub OfOneLock : TurnSeat T E O G → TurnSeat T E O G → Type 0
  OfOneLock seat other = seat.place.table_id ≡ other.place.table_id
