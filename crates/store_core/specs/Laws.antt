-- What turns do to a core, and steps to a world.
use Rattle.std.specs.Prelude.{◌≡◌, List, [], ◌∷◌, ◌++◌}
use Rattle.cert_check.specs.declared.entry.Entry.{Entry}
use Rattle.cert_check.specs.Machine.{Turn, MayCome, after, event_of}
use Rattle.store_core.specs.declared.schedule.Step.{Step}
use Rattle.store_core.specs.declared.schedule.Done.{Done}
use Rattle.store_core.specs.Cores.{PlainCore, IsCore}
use Rattle.store_core.specs.Histories.{EndsRightly}
use Rattle.store_core.specs.Schedules.{DoesAll, PlainWorld}
use Rattle.store_core.specs.Steps.{LayersAfter, TakesTurn}

-- the core after a turn, with the version in these layers
abbrev pub after_turn : PlainCore → Turn → List (List Entry) → PlainCore
after_turn core turn layers = record {
  opening = core.opening;
  state = after core.state turn;
  layers = layers;
  events = core.events ++ event_of turn ∷ [];
}

-- a core again, which differs by this turn alone
pub record IsCoreAfter (core : PlainCore) (turn : Turn) (layers : List (List Entry)) : Type 0 where
  pub is_core : IsCore (after_turn core turn layers)
  pub takes : TakesTurn turn core (after_turn core turn layers)

-- a turn that may come leaves a core
abbrev pub CoresTakeTurns : Type 0
CoresTakeTurns = (core : PlainCore) (turn : Turn) (layers : List (List Entry)) → IsCore core → MayCome core.state turn
    → LayersAfter turn core.layers layers → IsCoreAfter core turn layers

-- whatever the steps are, what they leave is right
abbrev pub SchedulesEndRightly : Type 0
SchedulesEndRightly = (steps : List Step) (done : List Done) (old new : PlainWorld) → IsCore old.core
    → DoesAll steps done old new → EndsRightly steps done old new

-- the same answers, and the same world
pub record AreAlike (done others : List Done) (new later : PlainWorld) : Type 0 where
  pub answers : done ≡ others
  pub worlds : new ≡ later

-- what steps answer, and what they leave, is determined
abbrev pub SchedulesHaveOneEnd : Type 0
SchedulesHaveOneEnd = (steps : List Step) (done others : List Done) (old new later : PlainWorld) → IsCore old.core
    → DoesAll steps done old new → DoesAll steps others old later → AreAlike done others new later
