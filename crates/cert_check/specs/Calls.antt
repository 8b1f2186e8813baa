-- What one call of a seat does: it looks at entries, and takes at most one flight.
use Rattle.std.specs.Prelude.{◌≡◌, ◌⊎◌, ◌↔◌, ℕ, ◌≤◌, Bool, true, Option, Some, None, List, [], ◌∷◌}
use Rattle.lin_model.specs.KeyAtom.{PlainKeyAtom}
use Rattle.cert_check.specs.declared.entry.Entry.{Entry}
use Rattle.cert_check.specs.declared.saved.Saved.{Saved}
use Rattle.cert_check.specs.declared.saved.Saved.TheVariants.{At as SavedAt, Fault as SavedFault, Full as SavedFull}
use Rattle.cert_check.specs.declared.saved.Saved.TheVariants.{Off}
use Rattle.cert_check.specs.declared.wrote.Wrote.{Wrote}
use Rattle.cert_check.specs.declared.wrote.Wrote.TheVariants.{At, Fault, Full}
use Rattle.cert_check.specs.Machine.{Turn, begun, failed}
use Rattle.cert_check.specs.Seats.{SeatState, SeatTerms, Gains, IsSound}

-- the turns of a call that began a flight with this many entries seen, by the turn that ended it; none without a flight
abbrev pub flight_turns : ℕ → List PlainKeyAtom → ℕ → Option Turn → List Turn
flight_turns seat key began None = []
flight_turns seat key began (Some end) = begun seat key began ∷ end ∷ []

-- the write of what became of an entry in the journal, where that isn't off
abbrev pub writes_by : ℕ → Entry → Saved → List Wrote
writes_by seat entry (SavedAt at) = At seat at entry ∷ []
writes_by seat entry SavedFault = Fault seat ∷ []
writes_by seat entry SavedFull = Full seat entry ∷ []
writes_by seat entry Off = []

-- nothing is saved exactly where the journal is off
abbrev pub IsOffRightly : SeatTerms → Saved → Type 0
IsOffRightly terms saved = (saved ≡ Off) ↔ (terms.off ≡ true)

-- The call took one flight on the key at most, begun with no fewer entries seen than at the call's start and ended with
-- this turn. The seat gained its turns and these writes alone, and what the call tells to have seen lies between what
-- the seat had seen and what it has.
pub record MakesCall (key : List PlainKeyAtom) (began : ℕ) (end : Option Turn) (writes : List Wrote) (seen : ℕ)
    (old new : SeatState) : Type 0 where
  pub looked : old.seen ≤ began
  pub gains : Gains (flight_turns old.terms.number key began end) writes old new
  pub sound : IsSound new
  pub from : old.seen ≤ seen
  pub to : seen ≤ new.seen

-- the writes of a flight that failed: none, or one of its own, and none where the journal is off
pub record AreWritesInVain (off : Bool) (writes : List Wrote) : Type 0 where
  pub few : (writes ≡ []) ⊎ ((write : Wrote) × (writes ≡ write ∷ []))
  pub none_off : off ≡ true → writes ≡ []

-- memory ran out before the call began a flight
abbrev pub FailsAtOnce : SeatState → SeatState → Type 0
FailsAtOnce old new = Gains [] [] old new

-- memory ran out in a flight of the call, which has failed
pub record FailsInFlight (key : List PlainKeyAtom) (old new : SeatState) : Type 0 where
  pub began : ℕ
  pub writes : List Wrote
  pub saves : AreWritesInVain old.terms.off writes
  pub gains : Gains (flight_turns old.terms.number key began (Some (failed old.terms.number))) writes old new

-- memory ran out in a call on the key
pub record FailsInVain (key : List PlainKeyAtom) (old new : SeatState) : Type 0 where
  pub how : FailsAtOnce old new ⊎ FailsInFlight key old new
  pub sound : IsSound new
