-- What a seat is known to have: its numbers, what it has seen, its origin, and where it stands.
use Rattle.std.specs.Prelude.{◌≡◌, ℕ, zero, suc, ◌<◌, ◌==◌, List, [], ◌∷◌, filter, length, Some}
use Rattle.turn_lock.specs.declared.view.View.{View}
use Rattle.turn_lock.specs.declared.view.Stage.{Stage}
use Rattle.turn_lock.specs.declared.view.Stage.TheVariants.{Idle, Waits, Turn}
use Rattle.turn_lock.specs.Totals.{one_at, times}

-- the events that name the number k
abbrev pub of_number : {E : Type 0} → (E → ℕ) → ℕ → List E → List E
of_number names k events = filter (λ e. names e == k) events

-- so many numbers, from n on
abbrev pub numbers_from : ℕ → ℕ → List ℕ
numbers_from n zero = []
numbers_from n (suc more) = n ∷ numbers_from (suc n) more

-- the numbers of all seats of a lock
unfoldable pub all_numbers : List ℕ
all_numbers = numbers_from 0 65

-- how many tickets a seat has at a stage
abbrev pub tickets_at : Stage → ℕ
tickets_at Idle = 0
tickets_at (Waits t) = 1
tickets_at (Turn t) = 1

-- how many of them are the ticket k
abbrev pub same_tickets_at : ℕ → Stage → ℕ
same_tickets_at k Idle = 0
same_tickets_at k (Waits t) = one_at k t
same_tickets_at k (Turn t) = one_at k t

-- how many turns
abbrev pub turns_at : Stage → ℕ
turns_at Idle = 0
turns_at (Waits t) = 0
turns_at (Turn t) = 1

-- it has the turn
abbrev pub HasTurn : Stage → Type 0
HasTurn stage = turns_at stage ≡ 1

module _ {E O : Type 0} where
  -- the same of a view, and how many numbers it has, of all and of k
  abbrev pub tickets : View E O → ℕ
  tickets v = tickets_at v.stage

  abbrev pub same_tickets : ℕ → View E O → ℕ
  same_tickets k v = same_tickets_at k v.stage

  abbrev pub turns : View E O → ℕ
  turns v = turns_at v.stage

  abbrev pub share_count : View E O → ℕ
  share_count v = length v.numbers

  abbrev pub number_count : ℕ → View E O → ℕ
  number_count k v = times k v.numbers

  -- the number k is one of the view's
  abbrev pub Owns : View E O → ℕ → Type 0
  Owns v k = 0 < times k v.numbers

  -- a seat of this origin that has all numbers and has seen nothing
  abbrev pub first_view : O → View E O
  first_view origin = record { numbers = all_numbers; seen = []; shorter = []; origin = Some origin; stage = Idle }

  -- the view at another stage
  abbrev pub staged : Stage → View E O → View E O
  staged stage v = record { numbers = v.numbers; seen = v.seen; shorter = v.shorter; origin = v.origin; stage = stage }

  -- the view that has seen these events
  abbrev pub has_seen : List E → View E O → View E O
  has_seen seen v = record { numbers = v.numbers; seen = seen; shorter = v.shorter; origin = v.origin; stage = v.stage }

  -- the view with nothing beside what it has seen
  abbrev pub alone : View E O → View E O
  alone v = record { numbers = v.numbers; seen = v.seen; shorter = []; origin = v.origin; stage = v.stage }

  -- the view with these numbers
  abbrev pub numbered : List ℕ → View E O → View E O
  numbered ns v = record { numbers = ns; seen = v.seen; shorter = v.shorter; origin = v.origin; stage = v.stage }
