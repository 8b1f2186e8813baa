-- What the calls of a core do.
use Rattle.std.specs.Prelude.{◌≡◌, ℕ, Option, Some, None, List, [], ◌∷◌, ◌++◌, length}
use Rattle.std.specs.List.{Any}
use Rattle.lin_model.specs.KeyAtom.{PlainKeyAtom}
use Rattle.cert_check.specs.declared.entry.Entry.{Entry}
use Rattle.cert_check.specs.declared.event.Ending.{Ending}
use Rattle.cert_check.specs.declared.event.Ending.TheVariants.{Kept as KeptAt, Unkept as UnkeptAtEnd}
use Rattle.cert_check.specs.declared.event.Ending.TheVariants.{Spent as SpentAtEnd}
use Rattle.cert_check.specs.declared.event.Ending.TheVariants.{Failed as FailedAtEnd}
use Rattle.cert_check.specs.declared.flight.Flight.{Flight}
use Rattle.cert_check.specs.Machine.{CoreState, Turn, begun, kept, unkept, spent, failed, after, event_of}
use Rattle.cert_check.specs.Machine.{IsBehind, IsJoined, MayBegin, MayCome}
use Rattle.layers.specs.Layers.{joined}
use Rattle.layers.specs.Halving.{AreGrown}
use Rattle.store_core.specs.declared.turns.Enter.{Enter}
use Rattle.store_core.specs.declared.turns.Enter.TheVariants.{Newer, Joined, Began}
use Rattle.store_core.specs.declared.turns.How.{How}
use Rattle.store_core.specs.declared.turns.How.TheVariants.{Kept, Unkept, Spent, Failed}
use Rattle.store_core.specs.Cores.{PlainCore, log_of}

-- what becomes of the layers at a turn: a kept entry is added, and else they stay
abbrev pub LayersAfter : Turn → List (List Entry) → List (List Entry) → Type 0
LayersAfter (begun seat key seen) old new = new ≡ old
LayersAfter (kept seat place entry) old new = AreGrown old entry new
LayersAfter (unkept seat) old new = new ≡ old
LayersAfter (spent seat) old new = new ≡ old
LayersAfter (failed seat) old new = new ≡ old

-- the core took one turn, which was possible, and nothing else happened
pub record TakesTurn (turn : Turn) (old new : PlainCore) : Type 0 where
  pub possible : MayCome old.state turn
  pub opening : new.opening ≡ old.opening
  pub state : new.state ≡ after old.state turn
  pub layers : LayersAfter turn old.layers new.layers
  pub events : new.events ≡ old.events ++ event_of turn ∷ []
  pub log : log_of new ≡ log_of old ++ turn ∷ []

-- some entries are unseen, and nothing changes
pub record IsNewer (n : ℕ) (old new : PlainCore) : Type 0 where
  pub behind : IsBehind old.state n
  pub same : new ≡ old

-- the other seat has a flight on the key, and nothing changes
pub record HasJoined (other : ℕ) (key : List PlainKeyAtom) (n : ℕ) (old new : PlainCore) : Type 0 where
  pub is_joined : IsJoined old.state other key n
  pub same : new ≡ old

-- a seat that has a flight on the key
abbrev pub IsOn : List Flight → List PlainKeyAtom → ℕ → Type 0
IsOn flights key other = Any (λ f. f ≡ record { seat = other; key = key }) flights

-- what each answer to a seat that enters says
abbrev pub Enters : ℕ → List PlainKeyAtom → ℕ → PlainCore → PlainCore → Enter → Type 0
Enters seat key n old new Newer = IsNewer n old new
Enters seat key n old new (Joined other) = HasJoined other key n old new
Enters seat key n old new Began = TakesTurn (begun seat key n) old new

-- memory ran out where a flight may begin, and nothing changes
pub record CannotBegin (seat : ℕ) (key : List PlainKeyAtom) (n : ℕ) (old new : PlainCore) : Type 0 where
  pub may : MayBegin old.state seat key n
  pub same : new ≡ old

-- the turn of an end, where a kept entry goes to this place
abbrev pub ending : ℕ → ℕ → How → Turn
ending seat place (Kept entry) = kept seat place entry
ending seat place Unkept = unkept seat
ending seat place Spent = spent seat
ending seat place Failed = failed seat

-- the turn of an end in this state: a kept entry goes to the end of the list
abbrev pub end_in : CoreState → ℕ → How → Turn
end_in s seat how = ending seat (length s.entries) how

-- the place of a kept entry and the new version, in whose layers the new list stands
pub record IsAdded (old new : PlainCore) (added : ℕ × List (List Entry)) : Type 0 where
  pub place : added.0 ≡ length old.state.entries
  pub layers : added.1 ≡ new.layers
  pub list : joined added.1 ≡ new.state.entries

-- the answer to the end of a flight tells these of an entry that is kept
abbrev pub IsPlaced : PlainCore → PlainCore → How → Option (ℕ × List (List Entry)) → Type 0
IsPlaced old new (Kept entry) None = ⊥
IsPlaced old new (Kept entry) (Some added) = IsAdded old new added
IsPlaced old new how placed = placed ≡ None

-- the flight ended with the entry, which went to the end of the list; its place and the new version are these
pub record Keeps (seat : ℕ) (entry : Entry) (old new : PlainCore) (added : ℕ × List (List Entry)) : Type 0 where
  pub takes : TakesTurn (kept seat (length old.state.entries) entry) old new
  pub is_added : IsAdded old new added

-- no entry is kept
abbrev pub KeepsNothing : Ending → Type 0
KeepsNothing (KeptAt place) = ⊥
KeepsNothing UnkeptAtEnd = Unit {0}
KeepsNothing SpentAtEnd = Unit {0}
KeepsNothing FailedAtEnd = Unit {0}

-- the flight of the seat ended so, and the answer tells the place of a kept entry
pub record Ends (seat : ℕ) (how : How) (old new : PlainCore) (answer : Option (ℕ × List (List Entry))) : Type 0 where
  pub takes : TakesTurn (end_in old.state seat how) old new
  pub placed : IsPlaced old new how answer

-- it ends with an entry to be kept
abbrev pub IsToKeep : How → Type 0
IsToKeep (Kept entry) = Unit {0}
IsToKeep Unkept = ⊥
IsToKeep Spent = ⊥
IsToKeep Failed = ⊥

-- memory ran out, which happens only to an entry that is to be kept, and nothing changes
pub record CannotEnd (how : How) (old new : PlainCore) : Type 0 where
  pub to_keep : IsToKeep how
  pub same : new ≡ old
