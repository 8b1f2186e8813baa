-- What entries, logs and replies keep.
use Rattle.std.specs.Prelude.{◌≡◌, ℕ, ℤ, ◌≤◌, Option, List, [], ◌∷◌, ◌++◌, length, take, map}
use Rattle.lin_model.specs.KeyAtom.{PlainKeyAtom}
use Rattle.lin_model.specs.Key.{KeyHolds, key_width}
use Rattle.refutation.specs.Reading.{HasNoPoint}
use Rattle.cert_check.specs.declared.entry.Entry.{Entry}
use Rattle.cert_check.specs.declared.entry.Entry.TheVariants.{Sat, Unsat}
use Rattle.cert_check.specs.declared.event.Event.{Event}
use Rattle.cert_check.specs.declared.reply.Reply.{Reply}
use Rattle.cert_check.specs.declared.reply.Reply.TheVariants.{Hit, Solved, Unkept, Spent}
use Rattle.cert_check.specs.Decides.{Decides, IsChecked, IsFirst, NoneDecides, key_of}
use Rattle.cert_check.specs.Machine.{Turn, begun, MayCome, AreApart, after, event_of}
use Rattle.cert_check.specs.Logs.{IsLegalLog, IsLogOf, entries_after, replayed, start}
use Rattle.cert_check.specs.Replies.{Stands}

-- a point with a value for each variable of the key, and perhaps more, which satisfies it
pub record IsPointOf (q : List PlainKeyAtom) (point : List ℤ) : Type 0 where
  pub wide : key_width q ≤ length point
  pub holds : KeyHolds q point

-- the entry's point is one of the key, or no point is
abbrev pub Settles : Entry → List PlainKeyAtom → Type 0
Settles (Sat e) q = IsPointOf q e.point
Settles (Unsat e) q = HasNoPoint q

-- what a reply settles: nothing where its search is open
abbrev pub SettledBy : List PlainKeyAtom → Reply → Type 0
SettledBy key (Hit entry place n) = Settles entry key
SettledBy key (Solved entry place n saved) = Settles entry key
SettledBy key (Unkept entry n saved) = Settles entry key
SettledBy key (Spent tree n) = Unit {0}

-- a checked entry settles each key that it decides
abbrev pub DecidingEntriesSettle : Type 0
DecidingEntriesSettle = (e : Entry) (q : List PlainKeyAtom) → IsChecked e → Decides e q → Settles e q

-- an entry decides its own key
abbrev pub EntriesDecideTheirKeys : Type 0
EntriesDecideTheirKeys = (e : Entry) → Decides e (key_of e)

-- some place is the first where it holds, or it holds nowhere
pub record HasFirst {X : Type 0} (P : X → Type 0) (xs : List X) : Type 0 where
  pub place : Option ℕ
  pub first : IsFirst P xs place

-- each list of entries has, for each key, a first entry that decides it, or none
abbrev pub FirstPlacesExist : Type 0
FirstPlacesExist = (entries : List Entry) (key : List PlainKeyAtom) → HasFirst (λ e. Decides e key) entries

-- opening entries and a log have one list of entries
abbrev pub LogsDetermineEntries : Type 0
LogsDetermineEntries = (opening entries others : List Entry) (log : List Turn) → IsLegalLog opening log entries
    → IsLegalLog opening log others → entries ≡ others

-- the events of a log, with the entries, determine the log
abbrev pub EventsDetermineLogs : Type 0
EventsDetermineLogs = (entries : List Entry) (events : List Event) (log other : List Turn) → IsLogOf entries events log
    → IsLogOf entries events other → log ≡ other

-- a list that begins with the other
pub record GoesOnTo {X : Type 0} (xs later : List X) : Type 0 where
  pub new : List X
  pub at_end : later ≡ xs ++ new

-- where entries come behind, a log tells what it told
abbrev pub PlacesStay : Type 0
PlacesStay = (entries later : List Entry) (events : List Event) (log : List Turn) → GoesOnTo entries later
    → IsLogOf entries events log → IsLogOf later events log

-- a legal log tells its own events: its kept entries stand at their places
abbrev pub LegalLogsTell : Type 0
LegalLogsTell = (opening entries : List Entry) (log : List Turn) → IsLegalLog opening log entries
    → IsLogOf entries (map event_of log) log

-- what one turn more leaves: a longer log, which is legal, and the state after the turn
pub record GoesOnBy (opening : List Entry) (log : List Turn) (turn : Turn) : Type 0 where
  pub leads : replayed (start opening) (log ++ turn ∷ []) ≡ after (replayed (start opening) log) turn
  pub legal : IsLegalLog opening (log ++ turn ∷ []) (after (replayed (start opening) log) turn).entries

-- each turn that may come goes on with a legal log
abbrev pub LogsGoOn : Type 0
LogsGoOn = (opening entries : List Entry) (log : List Turn) (turn : Turn) → IsLegalLog opening log entries
    → MayCome (replayed (start opening) log) turn → GoesOnBy opening log turn

-- each front of a legal log is legal
abbrev pub FrontsAreLegal : Type 0
FrontsAreLegal = (opening later : List Entry) (log more : List Turn) → IsLegalLog opening (log ++ more) later
    → IsLegalLog opening log (entries_after opening log)

-- the entries after a front of a legal log stay at the front of the list
abbrev pub EntriesStay : Type 0
EntriesStay = (opening later : List Entry) (log more : List Turn) → IsLegalLog opening (log ++ more) later
    → GoesOnTo (entries_after opening log) later

-- what a flight found when it began, by the entries at the end: those that it had seen were all, and none decided its
-- key
pub record BeganRightly (opening later : List Entry) (front : List Turn) (key : List PlainKeyAtom) (seen : ℕ) : Type 0
  where
    pub all : take seen later ≡ entries_after opening front
    pub undecided : NoneDecides (take seen later) key

-- each flight of a legal log began so
abbrev pub FlightsBeginRightly : Type 0
FlightsBeginRightly = (opening later : List Entry) (front behind : List Turn) (seat : ℕ) (key : List PlainKeyAtom)
    (seen : ℕ) → IsLegalLog opening (front ++ begun seat key seen ∷ behind) later
    → BeganRightly opening later front key seen

-- after a legal log no two flights have one seat or one key
abbrev pub FlightsStayApart : Type 0
FlightsStayApart = (opening later : List Entry) (log : List Turn) → IsLegalLog opening log later
    → AreApart (replayed (start opening) log).flights

-- a reply that stands for a front of a legal log stands for the whole
abbrev pub RepliesGoOnStanding : Type 0
RepliesGoOnStanding = (opening later : List Entry) (log more : List Turn) (seat budget : ℕ) (key : List PlainKeyAtom)
    (reply : Reply) → IsLegalLog opening (log ++ more) later
    → Stands log (entries_after opening log) seat budget key reply → Stands (log ++ more) later seat budget key reply

-- a reply with an entry settles its key
abbrev pub RepliesSettle : Type 0
RepliesSettle = (log : List Turn) (entries : List Entry) (seat budget : ℕ) (key : List PlainKeyAtom) (reply : Reply)
    → Stands log entries seat budget key reply → SettledBy key reply
