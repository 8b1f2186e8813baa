-- What the calls of the lock require and ensure of seats and values.
use Rattle.std.specs.Prelude.{◌≡◌, ◌⊎◌, ℕ, ◌<◌, List, [], ◌∷◌, ◌++◌, length, Option, Some, None, IsSome}
use Rattle.atomic_table.specs.Table.{Me}
use Rattle.turn_lock.specs.declared.view.View.{View}
use Rattle.turn_lock.specs.declared.view.Stage.{Stage}
use Rattle.turn_lock.specs.declared.view.Stage.TheVariants.{Idle, Waits, Turn}
use Rattle.turn_lock.specs.Totals.{Begins}
use Rattle.turn_lock.specs.Views.{HasTurn, Owns, of_number, tickets_at, turns_at}

-- what a seat has in hand between two calls: with the turn the empty slot, else nothing
abbrev pub hand_at : {S : Type 0} → S → Stage → List (ℕ × S)
hand_at vacant Idle = []
hand_at vacant (Waits t) = []
hand_at vacant (Turn t) = (0, vacant) ∷ []

-- A seat between two calls: it has a share or more, as many numbers, and an origin; it has no ticket without
-- the turn.
pub record IsSeat {T E O : Type 0} (shares : ℕ) (m : Me (Option T) (View E O)) : Type 0 where
  pub some_share : 0 < shares
  pub shares_are : shares ≡ length m.0.numbers
  pub none_apart : m.0.shorter ≡ []
  pub has_origin : IsSome m.0.origin
  pub no_ticket : tickets_at m.0.stage ≡ turns_at m.0.stage
  pub hand : m.1 ≡ hand_at None m.0.stage

module _ {T E O : Type 0} (origin : T → O) (events : T → List E) (names : E → ℕ) where
  -- The turn begins: the value has the seat's origin; its events begin with what the seat had seen, hold no other
  -- events of its numbers, and are what the seat has seen from then on.
  pub record BeginsTurn (old new : View E O) (value : T) : Type 0 where
    pub turn : HasTurn new.stage
    pub numbers : new.numbers ≡ old.numbers
    pub origin_stays : new.origin ≡ old.origin
    pub origin_is : old.origin ≡ Some (origin value)
    pub sees_all : new.seen ≡ events value
    pub begins : Begins old.seen new.seen
    pub own : (k : ℕ) → Owns old k → of_number names k new.seen ≡ of_number names k old.seen

  -- The value may go back: its origin is the seat's, and its events are what the seat has seen, or one more, which
  -- names a number of the seat.
  pub record MayGive (v : View E O) (value : T) : Type 0 where
    pub origin_is : v.origin ≡ Some (origin value)
    pub gained : (events value ≡ v.seen) ⊎ ((e : E) × (events value ≡ v.seen ++ e ∷ []) × Owns v (names e))

-- The seat has the numbers of both, and has seen the longer of the two, which the other begins.
pub record JoinsTo {E O : Type 0} (v w both : View E O) : Type 0 where
  pub numbers : both.numbers ≡ v.numbers ++ w.numbers
  pub origin : both.origin ≡ v.origin
  pub idle : both.stage ≡ Idle
  pub longer : (both.seen ≡ v.seen) ⊎ (both.seen ≡ w.seen)
  pub begins : Begins v.seen both.seen
  pub other_begins : Begins w.seen both.seen
