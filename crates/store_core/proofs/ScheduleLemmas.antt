-- What steps leave.
use Rattle.std.proofs.Common.{◌≡◌, ◌∙◌, ℕ, ◌≤◌, Option, Some, None, List, [], ◌∷◌, ◌++◌, length, arith, refl, sym, ap, subst, rules}
use Rattle.std.specs.List.{All}
use Rattle.std.proofs.lemmas.List.{length-append}
use Rattle.std.proofs.lemmas.List.Elements.{All-nil}
use Rattle.cert_check.specs.declared.entry.Entry.{Entry}
use Rattle.cert_check.specs.declared.event.Event.{Event}
use Rattle.cert_check.specs.Laws.{EntriesStay, FlightsStayApart}
use Rattle.cert_check.specs.Machine.{CoreState, Turn, begun, kept, unkept, spent, failed, after, event_of}
use Rattle.cert_check.specs.Machine.{max_entries}
use Rattle.lin_model.specs.KeyAtom.{PlainKeyAtom}
use Rattle.store_core.specs.declared.turns.Enter.{Enter}
use Rattle.store_core.specs.declared.turns.How.{How}
use Rattle.store_core.specs.declared.turns.Enter.TheVariants.{Newer, Joined, Began}
use Rattle.store_core.specs.declared.turns.How.TheVariants.{Kept, Unkept, Spent, Failed}
use Rattle.store_core.specs.declared.schedule.Step.{Step}
use Rattle.store_core.specs.declared.schedule.Step.TheVariants.{Enter as EnterStep, End, Save, Restart}
use Rattle.store_core.specs.declared.schedule.Done.{Done}
use Rattle.store_core.specs.declared.schedule.Done.TheVariants.{Entered, Ended, Saved, Restarted, Idle}
use Rattle.store_core.specs.Cores.{PlainCore, IsCore, started}
use Rattle.store_core.specs.Histories.{History, and_then, history_of, told, told_by}
use Rattle.store_core.specs.Laws.{CoresTakeTurns, SchedulesEndRightly}
use Rattle.store_core.specs.Schedules.{Does, DoesAll, EntryIsSaved, FlightEnds, PlainWorld, SeatEnters, StartsAnew, place_in}
use Rattle.store_core.specs.Steps.{TakesTurn, end_in}
use Rattle.store_core.proofs.OneOfAKeyLemmas.{one_of_a_key}

-- a core that took a turn is a core
core_after : CoresTakeTurns → (turn : Turn) (old new : PlainCore) → IsCore old → TakesTurn turn old new → IsCore new
core_after law turn old new is takes =
    subst (λ (es : List Entry).
    IsCore (record { opening = es; state = new.state; layers = new.layers; events = new.events }))
    (sym takes.opening)
    (subst (λ (s : CoreState).
    IsCore (record { opening = old.opening; state = s; layers = new.layers; events = new.events }))
    (sym takes.state)
    (subst (λ (es : List Event).
    IsCore (record { opening = old.opening; state = after old.state turn; layers = new.layers; events = es }))
    (sym takes.events) (law old turn new.layers is takes.possible takes.layers).is_core))

-- and so is one before any turn
core_started : (entries : List Entry) → length entries ≤ max_entries → IsCore (started entries)
core_started entries few = record {
  told = record { tells = refl; places = All-nil _ };
  legal = record { possible = tt; leads = refl };
  leads = refl;
  apart = search rules;
  few = few;
}

-- what a step leaves: a core, and the history that the step and its answer tell
pub record Leaves (step : Step) (done : Done) (old new : PlainWorld) : Type 0 where
  pub is_core : IsCore new.core
  pub history : history_of new ≡ told_by (history_of old) step done

-- a step that changed nothing
record Nothing (old new : PlainWorld) : Type 0 where
  is_core : IsCore new.core
  history : history_of new ≡ history_of old

nothing_changed : (old new : PlainWorld) → IsCore old.core → new.core ≡ old.core → new.saved ≡ old.saved
    → Nothing old new
nothing_changed old new is core saved = record {
  is_core = subst IsCore (sym core) is;
  history = rw (core, saved) refl;
}

-- one turn of the core
record TookTurn (turn : Turn) (old new : PlainWorld) : Type 0 where
  is_core : IsCore new.core
  history : history_of new ≡ and_then (history_of old) (event_of turn)

took_turn : CoresTakeTurns → (turn : Turn) (old new : PlainWorld) → IsCore old.core
    → TakesTurn turn old.core new.core → new.saved ≡ old.saved → TookTurn turn old new
took_turn law turn old new is takes saved = record {
  is_core = core_after law turn old.core new.core is takes;
  history = rw (takes.opening, takes.events, saved) refl;
}

idle_tells : (h : History) (step : Step) → told_by h step Idle ≡ h
idle_tells h (EnterStep seat key n) = refl
idle_tells h (End seat (Kept entry)) = refl
idle_tells h (End seat Unkept) = refl
idle_tells h (End seat Spent) = refl
idle_tells h (End seat Failed) = refl
idle_tells h (Save entry) = refl
idle_tells h (Restart more) = refl

idles : (step : Step) (old new : PlainWorld) → IsCore old.core → new ≡ old → Leaves step Idle old new
idles step old new is same = record {
  is_core = subst (λ (w : PlainWorld). IsCore w.core) (sym same) is;
  history = ap history_of same ∙ sym (idle_tells (history_of old) step);
}

-- a seat that enters
enters : CoresTakeTurns → (seat n : ℕ) (key : List PlainKeyAtom) (said : Enter) (old new : PlainWorld)
    → IsCore old.core → SeatEnters seat key n said old new
    → Leaves (EnterStep seat key n) (Entered said) old new
enters law seat n key Newer old new is does =
    let left = nothing_changed old new is does.enters.same does.saved in
    record { is_core = left.is_core; history = left.history }
enters law seat n key (Joined other) old new is does =
    let left = nothing_changed old new is does.enters.same does.saved in
    record { is_core = left.is_core; history = left.history }
enters law seat n key Began old new is does =
    let left = took_turn law (begun seat key n) old new is does.enters does.saved in
    record { is_core = left.is_core; history = left.history }

-- a flight that ends
ends_at : CoresTakeTurns → (seat : ℕ) (how : How) (old new : PlainWorld) → IsCore old.core
    → TakesTurn (end_in old.core.state seat how) old.core new.core → new.saved ≡ old.saved
    → Leaves (End seat how) (Ended (place_in old.core.state how)) old new
ends_at law seat (Kept entry) old new is takes saved =
    let left = took_turn law (kept seat (length old.core.state.entries) entry) old new is takes saved in
    record { is_core = left.is_core; history = left.history }
ends_at law seat Unkept old new is takes saved =
    let left = took_turn law (unkept seat) old new is takes saved in
    record { is_core = left.is_core; history = left.history }
ends_at law seat Spent old new is takes saved =
    let left = took_turn law (spent seat) old new is takes saved in
    record { is_core = left.is_core; history = left.history }
ends_at law seat Failed old new is takes saved =
    let left = took_turn law (failed seat) old new is takes saved in
    record { is_core = left.is_core; history = left.history }

ends : CoresTakeTurns → (seat : ℕ) (how : How) (place : Option ℕ) (old new : PlainWorld) → IsCore old.core
    → FlightEnds seat how place old new → Leaves (End seat how) (Ended place) old new
ends law seat how place old new is does =
    subst (λ (p : Option ℕ). Leaves (End seat how) (Ended p) old new) (sym does.at_end)
    (ends_at law seat how old new is does.takes does.saved)

saves : (entry : Entry) (old new : PlainWorld) → IsCore old.core → EntryIsSaved entry old new
    → Leaves (Save entry) Saved old new
saves entry old new is does = record {
  is_core = subst IsCore (sym does.core) is;
  history = rw (does.core, does.saved) refl;
}

-- a core that starts anew
record StartedAnew (more : List Entry) (old new : PlainWorld) : Type 0 where
  is_core : IsCore new.core
  history : history_of new ≡ record { opening = old.saved ++ more; events = []; saved = old.saved ++ more }

starts_anew : (more : List Entry) (old new : PlainWorld) → StartsAnew more old new → StartedAnew more old new
starts_anew more old new does = record {
  is_core = subst IsCore (sym does.core)
      (core_started new.saved (omega (arith, does.room, ap length does.saved, length-append old.saved more)));
  history = rw (does.core, does.saved) refl;
}

pub step_leaves : CoresTakeTurns → (step : Step) (done : Done) (old new : PlainWorld) → IsCore old.core
    → Does step done old new → Leaves step done old new
step_leaves law step Idle old new is does = idles step old new is does.same
step_leaves law (EnterStep seat key n) (Entered said) old new is does = enters law seat n key said old new is does
step_leaves law (EnterStep seat key n) (Ended place) old new is does = absurd does
step_leaves law (EnterStep seat key n) Saved old new is does = absurd does
step_leaves law (EnterStep seat key n) Restarted old new is does = absurd does
step_leaves law (End seat how) (Ended place) old new is does = ends law seat how place old new is does
step_leaves law (End seat how) (Entered said) old new is does = absurd does
step_leaves law (End seat how) Saved old new is does = absurd does
step_leaves law (End seat how) Restarted old new is does = absurd does
step_leaves law (Save entry) Saved old new is does = saves entry old new is does
step_leaves law (Save entry) (Entered said) old new is does = absurd does
step_leaves law (Save entry) (Ended place) old new is does = absurd does
step_leaves law (Save entry) Restarted old new is does = absurd does
step_leaves law (Restart more) Restarted old new is does =
    let left = starts_anew more.items old new does in record { is_core = left.is_core; history = left.history }
step_leaves law (Restart more) (Entered said) old new is does = absurd does
step_leaves law (Restart more) (Ended place) old new is does = absurd does
step_leaves law (Restart more) Saved old new is does = absurd does

-- one step more
pub one_step_more : (steps : List Step) (done : List Done) (old mid new : PlainWorld) (step : Step) (said : Done)
    → DoesAll steps done old mid → Does step said mid new → DoesAll (steps ++ step ∷ []) (done ++ said ∷ []) old new
one_step_more [] [] old mid new step said same does =
    (new, subst (λ (w : PlainWorld). Does step said w new) same does, refl)
one_step_more [] (d ∷ ds) old mid new step said so_far does = absurd so_far
one_step_more (s ∷ ss) [] old mid new step said so_far does = absurd so_far
one_step_more (s ∷ ss) (d ∷ ds) old mid new step said (first, here, later) does =
    (first, here, one_step_more ss ds first mid new step said later does)

-- all steps
all_leave : CoresTakeTurns → (steps : List Step) (done : List Done) (old new : PlainWorld) → IsCore old.core
    → DoesAll steps done old new → IsCore new.core × (history_of new ≡ told (history_of old) steps done)
all_leave law [] [] old new is same = (subst (λ (w : PlainWorld). IsCore w.core) (sym same) is, ap history_of same)
all_leave law [] (d ∷ ds) old new is does = absurd does
all_leave law (s ∷ ss) [] old new is does = absurd does
all_leave law (s ∷ ss) (d ∷ ds) old new is (mid, here, later) =
    let left = step_leaves law s d old mid is here in
    let rest = all_leave law ss ds mid new left.is_core later in
    (rest.0, rest.1 ∙ ap (λ (h : History). told h ss ds) left.history)

pub schedules_end : CoresTakeTurns → EntriesStay → FlightsStayApart → SchedulesEndRightly
schedules_end law stay apart steps done old new is does =
    let left = all_leave law steps done old new is does in
    record {
      history = left.1;
      core = left.0;
      one_of_a_key = one_of_a_key stay apart new.core.opening new.core.state.entries _ left.0.legal;
    }
