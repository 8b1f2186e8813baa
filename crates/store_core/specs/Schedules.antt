-- Schedules: steps of any seats on a core, in any order, with saves and restarts between.
use Rattle.std.specs.Prelude.{◌≡◌, ℕ, ◌+◌, ◌≤◌, Option, Some, None, List, [], ◌∷◌, ◌++◌, length}
use Rattle.lin_model.specs.KeyAtom.{PlainKeyAtom}
use Rattle.cert_check.specs.declared.entry.Entry.{Entry}
use Rattle.cert_check.specs.Asks.{InTurn}
use Rattle.cert_check.specs.Machine.{CoreState, MayCome, MayEnter, max_entries}
use Rattle.store_core.specs.declared.turns.Enter.{Enter}
use Rattle.store_core.specs.declared.turns.How.{How}
use Rattle.store_core.specs.declared.turns.How.TheVariants.{Kept, Unkept, Spent, Failed}
use Rattle.store_core.specs.declared.schedule.World.{World}
use Rattle.store_core.specs.declared.schedule.Step.{Step}
use Rattle.store_core.specs.declared.schedule.Step.TheVariants.{Enter as EnterStep, End, Save, Restart}
use Rattle.store_core.specs.declared.schedule.Done.{Done}
use Rattle.store_core.specs.declared.schedule.Done.TheVariants.{Entered, Ended, Saved, Restarted, Idle}
use Rattle.store_core.specs.Cores.{PlainCore, started}
use Rattle.store_core.specs.Steps.{Enters, TakesTurn, end_in}

-- a core, and the entries that are saved
pub record PlainWorld : Type 0 where
  pub core : PlainCore
  pub saved : List Entry

-- what contracts see of a world
abbrev pub world_of : World → PlainWorld
world_of w = record { core = w.core; saved = w.saved.items }

-- where each step may come
abbrev pub MayStep : PlainWorld → Step → Type 0
MayStep w (EnterStep seat key n) = MayEnter w.core.state seat key n
MayStep w (End seat how) = MayCome w.core.state (end_in w.core.state seat how)
MayStep w (Save entry) = Unit {0}
MayStep w (Restart more) = length w.saved + length more.items ≤ max_entries

-- the step couldn't come, and nothing changes
pub record IsIdle (step : Step) (old new : PlainWorld) : Type 0 where
  pub may_not : ¬ MayStep old step
  pub same : new ≡ old

-- the seat might enter, and the core answered so
pub record SeatEnters (seat : ℕ) (key : List PlainKeyAtom) (n : ℕ) (answer : Enter) (old new : PlainWorld) : Type 0
  where
    pub may : MayEnter old.core.state seat key n
    pub enters : Enters seat key n old.core new.core answer
    pub saved : new.saved ≡ old.saved

-- the place of an entry that is kept: the end of the list
abbrev pub place_in : CoreState → How → Option ℕ
place_in s (Kept entry) = Some (length s.entries)
place_in s Unkept = None
place_in s Spent = None
place_in s Failed = None

-- the flight of the seat ended so, and the answer tells the place of a kept entry
pub record FlightEnds (seat : ℕ) (how : How) (place : Option ℕ) (old new : PlainWorld) : Type 0 where
  pub takes : TakesTurn (end_in old.core.state seat how) old.core new.core
  pub at_end : place ≡ place_in old.core.state how
  pub saved : new.saved ≡ old.saved

-- the entry is saved behind the others, and the core stays
pub record EntryIsSaved (entry : Entry) (old new : PlainWorld) : Type 0 where
  pub core : new.core ≡ old.core
  pub saved : new.saved ≡ old.saved ++ entry ∷ []

-- The core is started with all that was saved so far, followed by more, which is saved too: there is room for all.
pub record StartsAnew (more : List Entry) (old new : PlainWorld) : Type 0 where
  pub room : length old.saved + length more ≤ max_entries
  pub saved : new.saved ≡ old.saved ++ more
  pub core : new.core ≡ started new.saved

-- what each step does, by its answer
abbrev pub Does : Step → Done → PlainWorld → PlainWorld → Type 0
Does step Idle old new = IsIdle step old new
Does (EnterStep seat key n) (Entered answer) old new = SeatEnters seat key n answer old new
Does (End seat how) (Ended place) old new = FlightEnds seat how place old new
Does (Save entry) Saved old new = EntryIsSaved entry old new
Does (Restart more) Restarted old new = StartsAnew more.items old new
Does step done old new = ⊥

-- the steps came one after another, each with its answer
abbrev pub DoesAll : List Step → List Done → PlainWorld → PlainWorld → Type 0
DoesAll steps done old new = InTurn Does steps done old new
