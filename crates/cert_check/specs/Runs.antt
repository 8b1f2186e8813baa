-- What asking several keys, one after another, does to a seat.
use Rattle.std.specs.Prelude.{◌≡◌, ◌⊎◌, ℕ, ◌+◌, ◌≤◌, Bool, true, false, ◌==◌, List, [], ◌∷◌, ◌++◌, length, filter, map}
use Rattle.std.specs.List.{All, AllZip, Contains}
use Rattle.lin_model.specs.KeyAtom.{PlainKeyAtom}
use Rattle.cert_check.specs.declared.event.Event.{Event}
use Rattle.cert_check.specs.declared.event.Event.TheVariants.{Begun, Ended}
use Rattle.cert_check.specs.declared.reply.Reply.{Reply}
use Rattle.cert_check.specs.declared.reply.Reply.TheVariants.{Hit, Solved, Unkept, Spent}
use Rattle.cert_check.specs.declared.wrote.Wrote.{Wrote}
use Rattle.cert_check.specs.Machine.{Turn, event_of}
use Rattle.cert_check.specs.Replies.{Stands}
use Rattle.cert_check.specs.Seats.{SeatState, Gains, IsSound, entries_of}
use Rattle.cert_check.specs.Calls.{FailsInVain, flight_turns}
use Rattle.cert_check.specs.Asks.{AsksAll, SavesRightly, TellsStart, end_of, seen_in, writes_of}

-- the turns of these replies to these keys, in order; each flight began with some number of entries seen
abbrev pub AreTurnsOfAll : ℕ → List (List PlainKeyAtom) → List Reply → List Turn → Type 0
AreTurnsOfAll seat [] [] turns = turns ≡ []
AreTurnsOfAll seat [] (reply ∷ replies) turns = ⊥
AreTurnsOfAll seat (key ∷ keys) [] turns = ⊥
AreTurnsOfAll seat (key ∷ keys) (reply ∷ replies) turns =
    (began : ℕ) × (rest : List Turn) × (turns ≡ flight_turns seat key began (end_of seat reply) ++ rest)
    × TellsStart began reply × AreTurnsOfAll seat keys replies rest

-- the writes of these replies, in order
abbrev pub writes_of_all : ℕ → List Reply → List Wrote
writes_of_all seat [] = []
writes_of_all seat (reply ∷ replies) = writes_of seat reply ++ writes_of_all seat replies

-- the numbers of entries seen never fall: the one at the start, then those of the replies, then the one at the end
abbrev pub SeenNeverFalls : ℕ → List Reply → ℕ → Type 0
SeenNeverFalls start [] end = start ≤ end
SeenNeverFalls start (reply ∷ replies) end = (start ≤ seen_in reply) × SeenNeverFalls (seen_in reply) replies end

-- The seat gained the turns and the writes of these replies alone, and all of them stand for what it has seen in the
-- end.
pub record KeepsReplies (budget : ℕ) (keys : List (List PlainKeyAtom)) (replies : List Reply) (old new : SeatState)
    : Type 0 where
  pub own : List Turn
  pub turns : AreTurnsOfAll old.terms.number keys replies own
  pub gains : Gains own (writes_of_all old.terms.number replies) old new
  pub stand : AllZip (Stands new.log (entries_of new) old.terms.number budget) keys replies
  pub save : All (SavesRightly old.terms) replies
  pub seen : SeenNeverFalls old.seen replies new.seen
  pub sound : IsSound old → IsSound new

-- of what was left to ask nothing was, or memory ran out in the call on the first of it
abbrev pub EndsInVain : List (List PlainKeyAtom) → SeatState → SeatState → Type 0
EndsInVain [] mid new = new ≡ mid
EndsInVain (key ∷ behind) mid new = (new ≡ mid) ⊎ FailsInVain key mid new

-- Memory ran out while the keys were asked in order: the front of them has replies, and nothing else was asked but, in
-- vain, the key behind it.
pub record AsksInVain (budget : ℕ) (keys : List (List PlainKeyAtom)) (old new : SeatState) : Type 0 where
  pub front : List (List PlainKeyAtom)
  pub behind : List (List PlainKeyAtom)
  pub parts : keys ≡ front ++ behind
  pub replies : List Reply
  pub mid : SeatState
  pub asked : AsksAll budget front replies old mid
  pub last : EndsInVain behind mid new

-- the event tells that the seat began a flight
abbrev pub is_begun_by : ℕ → Event → Bool
is_begun_by number (Begun seat key n) = seat == number
is_begun_by number (Ended seat how) = false

-- how many flights the seat began, by these events
abbrev pub flights_of : ℕ → List Event → ℕ
flights_of number events = length (filter (is_begun_by number) events)

-- a reply that took a flight: each but a hit
abbrev pub is_flown : Reply → Bool
is_flown (Hit entry place n) = false
is_flown (Solved entry place n saved) = true
is_flown (Unkept entry n saved) = true
is_flown (Spent tree n) = true

-- how many replies took one
abbrev pub flown_in : List Reply → ℕ
flown_in replies = length (filter is_flown replies)

-- each reply but a hit took one flight of the seat, a hit took none, and the seat began no other
abbrev pub FlightsAreCounted : Type 0
FlightsAreCounted = (budget : ℕ) (keys : List (List PlainKeyAtom)) (replies : List Reply) (old new : SeatState)
    → KeepsReplies budget keys replies old new → flights_of old.terms.number (map event_of new.log)
    ≡ flights_of old.terms.number (map event_of old.log) + flown_in replies

-- asking keys keeps their replies
abbrev pub AskingKeepsReplies : Type 0
AskingKeepsReplies = (budget : ℕ) (keys : List (List PlainKeyAtom)) (replies : List Reply) (old new : SeatState)
    → AsksAll budget keys replies old new → KeepsReplies budget keys replies old new

-- what was asked first, and what was asked then, was asked in order
abbrev pub AsksJoin : Type 0
AsksJoin = (budget : ℕ) (keys more : List (List PlainKeyAtom)) (replies others : List Reply) (old mid new : SeatState)
    → AsksAll budget keys replies old mid → AsksAll budget more others mid new
    → AsksAll budget (keys ++ more) (replies ++ others) old new

-- what the journal did for a reply is among the writes that the seat has seen
abbrev pub HasWritten : SeatState → Reply → Type 0
HasWritten seat reply = All (λ write. Contains seat.wrotes write) (writes_of seat.terms.number reply)

-- and so it is for each reply that was kept
abbrev pub WritesAreKept : Type 0
WritesAreKept = (budget : ℕ) (keys : List (List PlainKeyAtom)) (replies : List Reply) (old new : SeatState)
    → KeepsReplies budget keys replies old new → All (HasWritten new) replies
