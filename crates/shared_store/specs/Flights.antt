-- What a flight of the one seat of a local store does to its core and its journal.
use Rattle.std.specs.Prelude.{◌≡◌, ◌⊎◌, ◌↔◌, ℕ, ◌+◌, true, List, ◌++◌, length}
use Rattle.std.specs.List.{All}
use Rattle.lin_model.specs.KeyAtom.{PlainKeyAtom}
use Rattle.refutation.specs.SearchTree.{IsOpenTree}
use Rattle.refutation.specs.Tree.{PlainTree}
use Rattle.cert_check.specs.declared.entry.Entry.{Entry}
use Rattle.cert_check.specs.declared.reply.Reply.{Reply}
use Rattle.cert_check.specs.declared.reply.Reply.TheVariants.{Hit, Solved, Unkept, Spent}
use Rattle.cert_check.specs.declared.saved.Saved.{Saved}
use Rattle.cert_check.specs.declared.saved.Saved.TheVariants.{Off}
use Rattle.cert_check.specs.declared.wrote.Wrote.{Wrote}
use Rattle.cert_check.specs.Calls.{AreWritesInVain, writes_by}
use Rattle.cert_check.specs.Decides.{Decides}
use Rattle.cert_check.specs.Machine.{CoreState, Turn, begun, kept, unkept, spent, failed, IsFlying}
use Rattle.cert_check.specs.Replies.{IsHit}
use Rattle.cert_check.specs.Seats.{writer_of}
use Rattle.journal.specs.Journals.{PlainJournal, origin_of}
use Rattle.store_core.specs.Cores.{PlainCore}
use Rattle.store_core.specs.Steps.{TakesTurn}
use Rattle.shared_store.specs.Solving.{IsEntryFor, IsFoundWithin}
use Rattle.shared_store.specs.declared.books.Books.{Books}

-- the number of the one seat
abbrev pub own_seat : ℕ
own_seat = 0

-- ---- the journal

-- the journal noted these writes, and its origin stays
pub record Notes {D : Type 0} (writes : List Wrote) (old new : PlainJournal D) : Type 0 where
  pub wrotes : new.wrotes ≡ old.wrotes ++ writes
  pub origin : origin_of new ≡ origin_of old

-- what the journal did for an entry of the seat is this: it is off exactly where nothing is saved
pub record SavesEntry {D : Type 0} (entry : Entry) (saved : Saved) (old new : PlainJournal D) : Type 0 where
  pub notes : Notes (writes_by own_seat entry saved) old new
  pub off : (saved ≡ Off) ↔ (old.off ≡ true)

-- memory ran out: the journal noted no write, or one of the seat's own
pub record NotesInVain {D : Type 0} (old new : PlainJournal D) : Type 0 where
  pub writes : List Wrote
  pub few : AreWritesInVain old.off writes
  pub own : All (λ w. writer_of w ≡ own_seat) writes
  pub notes : Notes writes old new

-- ---- flights

-- a flight on the key began with all entries seen, and ended with this turn
pub record Flies (key : List PlainKeyAtom) (end : Turn) (old new : PlainCore) : Type 0 where
  pub mid : PlainCore
  pub began : TakesTurn (begun own_seat key (length old.state.entries)) old mid
  pub ended : TakesTurn end mid new

-- the key was solved, and its entry was saved as said and kept at the end of the list
pub record Keeps {D : Type 0} (budget : ℕ) (key : List PlainKeyAtom) (entry : Entry) (place n : ℕ) (saved : Saved)
    (old new : Books D) : Type 0
  where
    pub entry_for : IsEntryFor budget key entry
    pub at_end : place ≡ length old.core.state.entries
    pub seen : n ≡ place + 1
    pub flies : Flies key (kept own_seat place entry) old.core new.core
    pub saves : SavesEntry entry saved old.journal new.journal

-- it was solved, its entry was saved as said, and there was no room for it in the list
pub record KeepsNot {D : Type 0} (budget : ℕ) (key : List PlainKeyAtom) (entry : Entry) (n : ℕ) (saved : Saved)
    (old new : Books D) : Type 0
  where
    pub entry_for : IsEntryFor budget key entry
    pub seen : n ≡ length old.core.state.entries
    pub flies : Flies key (unkept own_seat) old.core new.core
    pub saves : SavesEntry entry saved old.journal new.journal

-- the whole budget was spent, and the journal was left alone
pub record Spends {D : Type 0} (budget : ℕ) (key : List PlainKeyAtom) (tree : PlainTree) (n : ℕ) (old new : Books D)
    : Type 0
  where
    pub open_tree : IsOpenTree key budget tree.nodes tree.terms
    pub seen : n ≡ length old.core.state.entries
    pub flies : Flies key (spent own_seat) old.core new.core
    pub untouched : new.journal ≡ old.journal

-- an entry may end the flight of the seat: the flight is on a key that the entry decides
pub record MayLandWith (s : CoreState) (entry : Entry) : Type 0 where
  pub key : List PlainKeyAtom
  pub flying : IsFlying s own_seat key
  pub decides : Decides entry key

-- the flight ended with the entry at the end of the list
pub record LandsAt (entry given : Entry) (place n : ℕ) (old new : PlainCore) : Type 0 where
  pub same : given ≡ entry
  pub at_end : place ≡ length old.state.entries
  pub seen : n ≡ place + 1
  pub takes : TakesTurn (kept own_seat place entry) old new

-- it ended without room for the entry
pub record LandsOutside (entry given : Entry) (n : ℕ) (old new : PlainCore) : Type 0 where
  pub same : given ≡ entry
  pub seen : n ≡ length old.state.entries
  pub takes : TakesTurn (unkept own_seat) old new

-- it ended with the whole budget spent
pub record LandsOpen (tree given : PlainTree) (n : ℕ) (old new : PlainCore) : Type 0 where
  pub same : given ≡ tree
  pub seen : n ≡ length old.state.entries
  pub takes : TakesTurn (spent own_seat) old new

-- how an entry that was saved so ended it, by the reply
abbrev pub LandsWithEntry : Entry → Saved → PlainCore → PlainCore → Reply → Type 0
LandsWithEntry entry as_said old new (Hit given place n) = ⊥
LandsWithEntry entry as_said old new (Solved given place n saved) = (saved ≡ as_said) × LandsAt entry given place n old new
LandsWithEntry entry as_said old new (Unkept given n saved) = (saved ≡ as_said) × LandsOutside entry given n old new
LandsWithEntry entry as_said old new (Spent tree n) = ⊥

-- how an open tree did
abbrev pub LandsWithTree : PlainTree → PlainCore → PlainCore → Reply → Type 0
LandsWithTree tree old new (Hit entry place n) = ⊥
LandsWithTree tree old new (Solved entry place n saved) = ⊥
LandsWithTree tree old new (Unkept entry n saved) = ⊥
LandsWithTree tree old new (Spent given n) = LandsOpen tree given n old new

-- what the reply says that came of a flight
abbrev pub RepliesByFlight : {D : Type 0} → ℕ → List PlainKeyAtom → Books D → Books D → Reply → Type 0
RepliesByFlight budget key old new (Hit entry place n) = ⊥
RepliesByFlight budget key old new (Solved entry place n saved) = Keeps budget key entry place n saved old new
RepliesByFlight budget key old new (Unkept entry n saved) = KeepsNot budget key entry n saved old new
RepliesByFlight budget key old new (Spent tree n) = Spends budget key tree n old new

-- an entry that the reply's own flight made comes from a search of at most the budget's splits
abbrev pub IsSearchedWithin : ℕ → List PlainKeyAtom → Reply → Type 0
IsSearchedWithin budget key (Hit entry place n) = Unit {0}
IsSearchedWithin budget key (Solved entry place n saved) = IsFoundWithin budget key entry
IsSearchedWithin budget key (Unkept entry n saved) = IsFoundWithin budget key entry
IsSearchedWithin budget key (Spent tree n) = Unit {0}

-- what it says where some entry decides the key: the first that does, of all
abbrev pub RepliesByHit : List PlainKeyAtom → PlainCore → Reply → Type 0
RepliesByHit key core (Hit entry place n) = IsHit core.state.entries key entry place n × (n ≡ length core.state.entries)
RepliesByHit key core (Solved entry place n saved) = ⊥
RepliesByHit key core (Unkept entry n saved) = ⊥
RepliesByHit key core (Spent tree n) = ⊥

-- memory ran out in a flight, which has failed
pub record FliesInVain {D : Type 0} (key : List PlainKeyAtom) (old new : Books D) : Type 0 where
  pub flies : Flies key (failed own_seat) old.core new.core
  pub notes : NotesInVain old.journal new.journal

-- memory ran out before a flight began, or in one
abbrev pub EndsInVain : {D : Type 0} → List PlainKeyAtom → Books D → Books D → Type 0
EndsInVain key old new = (new ≡ old) ⊎ FliesInVain key old new
