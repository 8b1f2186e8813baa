-- What steps and their answers tell by themselves: the log since the last restart, and what was saved.
use Rattle.std.specs.Prelude.{◌≡◌, ℕ, Some, None, List, [], ◌∷◌, ◌++◌}
use Rattle.lin_model.specs.KeyAtom.{PlainKeyAtom}
use Rattle.cert_check.specs.declared.entry.Entry.{Entry}
use Rattle.cert_check.specs.declared.event.Event.{Event}
use Rattle.cert_check.specs.declared.event.Event.TheVariants.{Begun, Ended as EndedSo}
use Rattle.cert_check.specs.declared.event.Ending.TheVariants.{Kept as KeptAt, Unkept as UnkeptAtEnd}
use Rattle.cert_check.specs.declared.event.Ending.TheVariants.{Spent as SpentAtEnd}
use Rattle.cert_check.specs.declared.event.Ending.TheVariants.{Failed as FailedAtEnd}
use Rattle.cert_check.specs.Machine.{Turn, kept}
use Rattle.cert_check.specs.Replies.{HasFlown}
use Rattle.store_core.specs.declared.turns.Enter.TheVariants.{Began}
use Rattle.store_core.specs.declared.turns.How.TheVariants.{Kept, Unkept, Spent, Failed}
use Rattle.store_core.specs.declared.schedule.Step.{Step}
use Rattle.store_core.specs.declared.schedule.Step.TheVariants.{Enter as EnterStep, End, Save, Restart}
use Rattle.store_core.specs.declared.schedule.Done.{Done}
use Rattle.store_core.specs.declared.schedule.Done.TheVariants.{Entered, Ended, Saved, Restarted}
use Rattle.store_core.specs.Cores.{IsCore, log_of}
use Rattle.store_core.specs.Schedules.{PlainWorld}

-- the entries of the last restart, or those that the core began with; the events since; and all that is saved
pub record History : Type 0 where
  pub opening : List Entry
  pub events : List Event
  pub saved : List Entry

-- the history of a world
abbrev pub history_of : PlainWorld → History
history_of w = record { opening = w.core.opening; events = w.core.events; saved = w.saved }

-- with one event more
abbrev pub and_then : History → Event → History
and_then h event = record { opening = h.opening; events = h.events ++ event ∷ []; saved = h.saved }

-- what a step adds, by its answer: a flight that began, one that ended, an entry that was saved, or a restart
abbrev pub told_by : History → Step → Done → History
told_by h (EnterStep seat key n) (Entered Began) = and_then h (Begun seat key n)
told_by h (End seat (Kept entry)) (Ended (Some place)) = and_then h (EndedSo seat (KeptAt place))
told_by h (End seat Unkept) (Ended None) = and_then h (EndedSo seat UnkeptAtEnd)
told_by h (End seat Spent) (Ended None) = and_then h (EndedSo seat SpentAtEnd)
told_by h (End seat Failed) (Ended None) = and_then h (EndedSo seat FailedAtEnd)
told_by h (Save entry) Saved = record { opening = h.opening; events = h.events; saved = h.saved ++ entry ∷ [] }
told_by h (Restart more) Restarted =
    record { opening = h.saved ++ more.items; events = []; saved = h.saved ++ more.items }
told_by h step done = h

-- what all steps add
abbrev pub told : History → List Step → List Done → History
told h [] done = h
told h (step ∷ steps) [] = h
told h (step ∷ steps) (answer ∷ done) = told (told_by h step answer) steps done

-- Of the flights on one key at most one ended with an entry that was kept: what stands before the beginning of any two
-- of them in the log is the same.
abbrev pub KeepsOneOfAKey : List Turn → Type 0
KeepsOneOfAKey log = (key : List PlainKeyAtom) (seat other seen also place later : ℕ) (e f : Entry)
    → (one : HasFlown log seat key seen (kept seat place e)) → (two : HasFlown log other key also (kept other later f))
    → one.before ≡ two.before

-- What holds in the end of a schedule: the steps and answers tell the log since the last restart, the entries of that
-- restart and all that is saved; the log is legal from those entries, and leads to a state where no two open flights
-- have one seat or one key; of the flights on one key at most one ended with an entry that was kept.
pub record EndsRightly (steps : List Step) (done : List Done) (old new : PlainWorld) : Type 0 where
  pub history : history_of new ≡ told (history_of old) steps done
  pub core : IsCore new.core
  pub one_of_a_key : KeepsOneOfAKey (log_of new.core)
