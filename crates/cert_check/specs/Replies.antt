-- What a reply says, for the log that a seat has seen and the entries after it.
use Rattle.std.specs.Prelude.{◌≡◌, ◌≢◌, ℕ, ◌<◌, ◌≤◌, Bool, true, false, Option, Some, None, ℤ, List, ◌∷◌, ◌++◌, length}
use Rattle.std.specs.Prelude.{take}
use Rattle.std.specs.List.{All, slice_get}
use Rattle.lin_model.specs.KeyAtom.{PlainKeyAtom}
use Rattle.refutation.specs.Tree.{PlainTree}
use Rattle.refutation.specs.SearchTree.{IsOpenTree}
use Rattle.cert_check.specs.declared.entry.Entry.{Entry}
use Rattle.cert_check.specs.declared.entry.Entry.TheVariants.{Sat, Unsat}
use Rattle.cert_check.specs.declared.event.Event.{Event}
use Rattle.cert_check.specs.declared.reply.Reply.{Reply}
use Rattle.cert_check.specs.declared.reply.Reply.TheVariants.{Hit, Solved, Unkept, Spent}
use Rattle.cert_check.specs.Decides.{Decides, IsChecked, NoneDecides, IsFirstDeciding}
use Rattle.cert_check.specs.Logs.{IsLogOf}
use Rattle.cert_check.specs.Machine.{Turn, begun, kept, unkept, spent, seat_of, max_entries}

-- The log has a flight of the seat on the key, begun when this many entries were seen, which ended with this turn: no
-- turn of the seat stands between.
pub record HasFlown (log : List Turn) (seat : ℕ) (key : List PlainKeyAtom) (seen : ℕ) (end : Turn) : Type 0 where
  pub before : List Turn
  pub between : List Turn
  pub behind : List Turn
  pub parts : log ≡ (before ++ begun seat key seen ∷ between) ++ end ∷ behind
  pub alone : All (λ turn. seat_of turn ≢ seat) between

-- of the first n entries the one at this place is the first that decides the key
pub record IsFirstSeen (entries : List Entry) (key : List PlainKeyAtom) (place n : ℕ) : Type 0 where
  pub within : n ≤ length entries
  pub first : IsFirstDeciding (take n entries) key (Some place)

-- and it is this checked entry
pub record IsHit (entries : List Entry) (key : List PlainKeyAtom) (entry : Entry) (place n : ℕ) : Type 0 where
  pub seen : IsFirstSeen entries key place n
  pub there : slice_get entries place ≡ Some entry
  pub checked : IsChecked entry

-- A flight of the seat, where none of the entries seen at its start decides the key, kept this entry at this place.
pub record IsKeptAt (log : List Turn) (entries : List Entry) (seat : ℕ) (key : List PlainKeyAtom) (entry : Entry)
    (place n : ℕ) : Type 0 where
  pub seen : ℕ
  pub flown : HasFlown log seat key seen (kept seat place entry)
  pub undecided : NoneDecides (take seen entries) key
  pub there : slice_get entries place ≡ Some entry
  pub later : seen ≤ place
  pub counted : place < n
  pub within : n ≤ length entries

-- The same of an entry for which there was no room.
pub record IsTurnedAway (log : List Turn) (entries : List Entry) (seat : ℕ) (key : List PlainKeyAtom) (n : ℕ) : Type 0
  where
    pub seen : ℕ
    pub flown : HasFlown log seat key seen (unkept seat)
    pub undecided : NoneDecides (take seen entries) key
    pub later : seen ≤ n
    pub all : n ≡ max_entries
    pub full : length entries ≡ max_entries

-- the key was solved, and its checked entry, which decides it, was kept
pub record IsSolved (log : List Turn) (entries : List Entry) (seat : ℕ) (key : List PlainKeyAtom) (entry : Entry)
    (place n : ℕ) : Type 0 where
  pub is_kept : IsKeptAt log entries seat key entry place n
  pub decides : Decides entry key
  pub checked : IsChecked entry

-- it was solved, and there was no room for its checked entry
pub record IsUnkept (log : List Turn) (entries : List Entry) (seat : ℕ) (key : List PlainKeyAtom) (entry : Entry)
    (n : ℕ) : Type 0 where
  pub turned_away : IsTurnedAway log entries seat key n
  pub decides : Decides entry key
  pub checked : IsChecked entry

-- A flight of the seat, where none of the entries seen at its start decides the key, spent the whole budget.
pub record IsSpent (log : List Turn) (entries : List Entry) (seat budget : ℕ) (key : List PlainKeyAtom)
    (tree : PlainTree) (n : ℕ) : Type 0 where
  pub flown : HasFlown log seat key n (spent seat)
  pub within : n ≤ length entries
  pub undecided : NoneDecides (take n entries) key
  pub open_tree : IsOpenTree key budget tree.nodes tree.terms

-- the reply to the key stands, for this log with these entries, this seat and this budget
abbrev pub Stands : List Turn → List Entry → ℕ → ℕ → List PlainKeyAtom → Reply → Type 0
Stands log entries seat budget key (Hit entry place n) = IsHit entries key entry place n
Stands log entries seat budget key (Solved entry place n saved) = IsSolved log entries seat key entry place n
Stands log entries seat budget key (Unkept entry n saved) = IsUnkept log entries seat key entry n
Stands log entries seat budget key (Spent tree n) = IsSpent log entries seat budget key tree n

-- The same of the plain events of a log, with the entries after it.
pub record StandsFor (events : List Event) (entries : List Entry) (seat budget : ℕ) (key : List PlainKeyAtom)
    (reply : Reply) : Type 0 where
  pub log : List Turn
  pub is_log : IsLogOf entries events log
  pub stands : Stands log entries seat budget key reply

-- the entry of a reply; an open tree has none
abbrev pub entry_in : Reply → Option Entry
entry_in (Hit entry place n) = Some entry
entry_in (Solved entry place n saved) = Some entry
entry_in (Unkept entry n saved) = Some entry
entry_in (Spent tree n) = None

-- the point of an entry; a core has none
abbrev pub point_of_entry : Entry → Option (List ℤ)
point_of_entry (Sat e) = Some e.point
point_of_entry (Unsat e) = None

-- the entry is a core
abbrev pub is_core : Entry → Bool
is_core (Sat e) = false
is_core (Unsat e) = true

-- the point that a reply gives
abbrev pub point_in : Reply → Option (List ℤ)
point_in (Hit entry place n) = point_of_entry entry
point_in (Solved entry place n saved) = point_of_entry entry
point_in (Unkept entry n saved) = point_of_entry entry
point_in (Spent tree n) = None

-- the reply has a core, so no point satisfies its key
abbrev pub has_core : Reply → Bool
has_core (Hit entry place n) = is_core entry
has_core (Solved entry place n saved) = is_core entry
has_core (Unkept entry n saved) = is_core entry
has_core (Spent tree n) = false

-- the reply has an open tree, so its key is undecided
abbrev pub is_spent : Reply → Bool
is_spent (Hit entry place n) = false
is_spent (Solved entry place n saved) = false
is_spent (Unkept entry n saved) = false
is_spent (Spent tree n) = true
