-- The rule of the lock's table, which holds between any two steps: tickets are counted without end, and the words have
-- them modulo 2^64.
use Rattle.std.specs.Prelude.{◌≡◌, ◌⊎◌, ℕ, ◌+◌, ◌%◌, ◌^◌, ◌<◌, ◌≤◌, List, [], ◌∷◌, length, Option, Some, IfSome}
use Rattle.std.specs.List.{All}
use mathlib.Core.Option as maybe
use lib.ListN.{get_elem?}
use Rattle.atomic_table.specs.Table.{State}
use Rattle.turn_lock.specs.declared.view.View.{View}
use Rattle.turn_lock.specs.declared.view.Stage.{Stage}
use Rattle.turn_lock.specs.declared.view.Stage.TheVariants.{Idle, Waits, Turn}
use Rattle.turn_lock.specs.Totals.{Begins, total}
use Rattle.turn_lock.specs.Views.{Owns, of_number, number_count, same_tickets, share_count, tickets, tickets_at, turns}

-- the next ticket, the ticket served, and the length of the log
abbrev pub words_of : ℕ → ℕ → ℕ → List ℕ
words_of served many long = (served + many) % 2 ^ 64 ∷ served % 2 ^ 64 ∷ long ∷ []

-- the turn is that of the ticket served, and has this fact
abbrev pub OnTurn : ℕ → Type 0 → Stage → Type 0
OnTurn served fact Idle = Unit {0}
OnTurn served fact (Waits t) = Unit {0}
OnTurn served fact (Turn t) = (t ≡ served) × fact

-- What is true of each view: what it has seen begins the log and has all events of its numbers; what it had seen before
-- it was joined begins that; its origin, if any, is the lock's; with the turn it has seen all; it waits only if it has
-- a number.
pub record Fits {E O : Type 0} (names : E → ℕ) (origin : O) (log : List E) (served : ℕ) (v : View E O) : Type 0 where
  pub seen : Begins v.seen log
  pub shorter : Begins v.shorter v.seen
  pub own : (k : ℕ) → Owns v k → of_number names k log ≡ of_number names k v.seen
  pub same : IfSome v.origin (λ o. o ≡ origin)
  pub turn : OnTurn served (v.seen ≡ log) v.stage
  pub few : tickets_at v.stage ≤ length v.numbers

module _ {T E O : Type 0} (origin : T → O) (events : T → List E) (names : E → ℕ) where
  -- no turn is out, and the value is at home, with the log and the origin
  pub record IsHome (of : O) (log : List E) (homes : List (maybe.Option (Option T))) (out : ℕ) : Type 0 where
    pub none_out : out ≡ 0
    pub value : T
    pub is_there : homes ≡ maybe.some (Some value) ∷ []
    pub origin_is : origin value ≡ of
    pub log_is : events value ≡ log

  -- one turn is out, and the slot is empty
  pub record IsOut (homes : List (maybe.Option (Option T))) (out : ℕ) : Type 0 where
    pub one_out : out ≡ 1
    pub empty : homes ≡ maybe.none ∷ []

  -- The rule, for a lock of this origin. Each number below 65 is in one view, and each ticket that is out is in one
  -- view; tickets are out from the one served on.
  pub record IsLocked (of : O) (s : State (Option T) (View E O)) : Type 0 where
    pub log : List E
    pub served : ℕ
    pub words : s.words ≡ words_of served (total tickets s.views) (length log)
    pub home : IsHome of log s.homes (total turns s.views) ⊎ IsOut s.homes (total turns s.views)
    pub shares : total share_count s.views ≡ 65
    pub once : (k : ℕ) → k < 65 → total (number_count k) s.views ≡ 1
    pub no_other : (k : ℕ) → 65 ≤ k → total (number_count k) s.views ≡ 0
    pub apart : (k : ℕ) → total (same_tickets k) s.views ≤ 1
    pub behind : (k : ℕ) → k < served → total (same_tickets k) s.views ≡ 0
    pub ahead : (k : ℕ) → served + total tickets s.views ≤ k → total (same_tickets k) s.views ≡ 0
    pub named : All (λ e. names e < 65) log
    pub each : (j : ℕ) (v : View E O) → get_elem? s.views j ≡ maybe.some v → Fits names of log served v
