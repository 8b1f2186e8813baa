-- What each step tells: of the seat before, the number found, and the seat after.
use Rattle.std.specs.Prelude.{◌≡◌, ◌≢◌, ℕ, ◌%◌, ◌^◌, ◌<◌, ◌≤◌, cond, nat_lt, List, [], ◌∷◌, ◌++◌, length}
use Rattle.std.specs.Prelude.{Option, Some, None, IfSome}
use Rattle.atomic_table.specs.Table.{Me}
use Rattle.turn_lock.specs.declared.view.View.{View}
use Rattle.turn_lock.specs.declared.view.Stage.TheVariants.{Idle, Waits, Turn}
use Rattle.turn_lock.specs.Totals.{Begins, without}
use Rattle.turn_lock.specs.Views.{Owns, alone, has_seen, numbered, of_number, staged}

-- a seat: its view, and the slot in its hand
abbrev pub Seated : Type 0 → Type 0 → Type 0 → Type 0
Seated T E O = Me (Option T) (View E O)

module _ {T E O : Type 0} where
  -- the seat has drawn a ticket
  abbrev pub Draws : Seated T E O → ℕ → Seated T E O → Type 0
  Draws m found n = (t : ℕ) × (found ≡ t % 2 ^ 64) × (n ≡ (staged (Waits t) m.0, m.1))

  -- The seat has the turn of ticket t, and the slot in hand. The value has the seat's origin, and its events begin with
  -- what the seat had seen and have no other events of its numbers.
  pub record TakesTurn (origin : T → O) (events : T → List E) (names : E → ℕ) (t : ℕ) (value : T) (slot : Option T)
      (m n : Seated T E O) : Type 0 where
    pub seat : n ≡ (has_seen (events value) (staged (Turn t) m.0), (0, slot) ∷ [])
    pub same : IfSome m.0.origin (λ o. o ≡ origin value)
    pub begins : Begins m.0.seen (events value)
    pub own : (k : ℕ) → Owns m.0 k → of_number names k (events value) ≡ of_number names k m.0.seen

  -- the turn of the ticket that the seat has, with the value in hand
  abbrev pub GetsTurn : (T → O) → (T → List E) → (E → ℕ) → Seated T E O → Seated T E O → Type 0
  GetsTurn origin events names m n =
      (t : ℕ) → m.0.stage ≡ Waits t → (value : T) × TakesTurn origin events names t value (Some value) m n

  -- the seat has the turn where its ticket is the one found
  abbrev pub Looks : (T → O) → (T → List E) → (E → ℕ) → Seated T E O → ℕ → Seated T E O → Type 0
  Looks origin events names m found n = (t : ℕ) → m.0.stage ≡ Waits t
      → (found ≡ t % 2 ^ 64 → (value : T) × TakesTurn origin events names t value (Some value) m n)
      × (found ≢ t % 2 ^ 64 → n ≡ m)

  -- the seat waits with this ticket, as the words have it
  abbrev pub WaitsWith : ℕ → Seated T E O → Type 0
  WaitsWith ticket m = (t : ℕ) × (m.0.stage ≡ Waits t) × (ticket ≡ t % 2 ^ 64) × (m.1 ≡ [])

  -- the value in hand has one event beyond those seen, which names a number of the seat
  abbrev pub MayLog : (T → List E) → (E → ℕ) → Seated T E O → Type 0
  MayLog events names m = (value : T) × (e : E) × (m.1 ≡ (0, Some value) ∷ []) × (events value ≡ m.0.seen ++ e ∷ [])
      × Owns m.0 (names e) × (length (events value) < 2 ^ 64)

  -- the value in hand has the seat's origin and the events that it has seen
  abbrev pub MayPass : (T → O) → (T → List E) → Seated T E O → Type 0
  MayPass origin events m = (value : T) × (m.1 ≡ (0, Some value) ∷ []) × (m.0.origin ≡ Some (origin value))
      × (events value ≡ m.0.seen)

  -- the length of what the seat with the turn has seen
  abbrev pub Counts : Seated T E O → ℕ → Seated T E O → Type 0
  Counts m found n = (n ≡ m) × (found ≡ length m.0.seen)

  -- the seat has seen the events of the value in its hand
  abbrev pub Logs : (T → List E) → Seated T E O → Seated T E O → Type 0
  Logs events m n = (value : T) → m.1 ≡ (0, Some value) ∷ [] → n ≡ (has_seen (events value) m.0, m.1)

  -- the seat has passed on the turn and has no slot
  abbrev pub Passes : Seated T E O → Seated T E O → Type 0
  Passes m n = n ≡ (staged Idle m.0, [])

  -- what was joined to the seat is told and let go
  pub record Compares (m n : Seated T E O) : Type 0 where
    pub seat : n ≡ (alone m.0, m.1)
    pub begins : Begins m.0.shorter m.0.seen
    pub few : length m.0.numbers ≤ 65

module _ {E O : Type 0} where
  -- the view without the number k
  abbrev pub leaves : ℕ → View E O → View E O
  leaves k v = numbered (without k v.numbers) v

  -- the view of a seat with the number k alone
  abbrev pub begins_with : ℕ → View E O → View E O
  begins_with k v = numbered (k ∷ []) v

  -- the numbers of both, the longer of what they have seen, and the shorter beside it
  abbrev pub joined : View E O → View E O → View E O
  joined v w = record {
    numbers = v.numbers ++ w.numbers;
    seen = cond (nat_lt (length v.seen) (length w.seen)) w.seen v.seen;
    shorter = cond (nat_lt (length v.seen) (length w.seen)) v.seen w.seen;
    origin = v.origin;
    stage = v.stage;
  }

  -- a view that was joined into another
  abbrev pub spent : View E O
  spent = record { numbers = []; seen = []; shorter = []; origin = None; stage = Idle }
