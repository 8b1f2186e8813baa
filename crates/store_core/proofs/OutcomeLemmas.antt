-- What a step answers and what it leaves is determined.
use Rattle.std.proofs.Common.{◌≡◌, ◌≢◌, ◌∙◌, ℕ, Option, List, [], ◌∷◌, ◌⊎◌, inl, inr, arith, refl, sym, ap, subst}
use Rattle.std.proofs.lemmas.List.Elements.{All-contains}
use Rattle.lin_model.specs.KeyAtom.{PlainKeyAtom}
use Rattle.cert_check.specs.declared.entry.Entry.{Entry}
use Rattle.cert_check.specs.declared.event.Event.{Event}
use Rattle.cert_check.specs.declared.flight.Flight.{Flight}
use Rattle.cert_check.specs.Machine.{CoreState, Turn, begun, kept, unkept, spent, failed, AreApart, IsFlying}
use Rattle.layers.specs.Halving.{GrowthIsDetermined}
use Rattle.store_core.specs.declared.turns.Enter.{Enter}
use Rattle.store_core.specs.declared.turns.Enter.TheVariants.{Newer, Joined, Began}
use Rattle.store_core.specs.declared.schedule.Step.{Step}
use Rattle.store_core.specs.declared.schedule.Step.TheVariants.{Enter as EnterStep, End, Save, Restart}
use Rattle.store_core.specs.declared.schedule.Done.{Done}
use Rattle.store_core.specs.declared.schedule.Done.TheVariants.{Entered, Ended, Saved, Restarted, Idle}
use Rattle.store_core.specs.Cores.{PlainCore, IsCore, started}
use Rattle.store_core.specs.Laws.{AreAlike, CoresTakeTurns, SchedulesHaveOneEnd}
use Rattle.store_core.specs.Schedules.{Does, DoesAll, EntryIsSaved, FlightEnds, IsIdle, MayStep, PlainWorld, SeatEnters}
use Rattle.store_core.specs.Schedules.{StartsAnew}
use Rattle.store_core.specs.Steps.{LayersAfter, TakesTurn}
use Rattle.store_core.proofs.ScheduleLemmas.{step_leaves}
use Rattle.store_core.proofs.SeenLemmas.{flies, one_by}

-- ---- cores and worlds of the same parts

same_parts : (opening others : List Entry) (s t : CoreState) (layers more : List (List Entry)) (events later : List Event)
    → opening ≡ others → s ≡ t → layers ≡ more → events ≡ later
    → record { opening = opening; state = s; layers = layers; events = events }
    ≡ (let core : PlainCore = record { opening = others; state = t; layers = more; events = later } in core)
same_parts opening others s t layers more events later o st l ev = rw (o, st, l, ev) refl

same_core : (a b : PlainCore) → a.opening ≡ b.opening → a.state ≡ b.state → a.layers ≡ b.layers → a.events ≡ b.events
    → a ≡ b
same_core a b = same_parts a.opening b.opening a.state b.state a.layers b.layers a.events b.events

same_both : (a b : PlainCore) (saved others : List Entry) → a ≡ b → saved ≡ others
    → record { core = a; saved = saved } ≡ (let w : PlainWorld = record { core = b; saved = others } in w)
same_both a b saved others core same = rw (core, same) refl

same_world : (v w : PlainWorld) → v.core ≡ w.core → v.saved ≡ w.saved → v ≡ w
same_world v w = same_both v.core w.core v.saved w.saved

-- ---- turns

same_layers : GrowthIsDetermined → (turn : Turn) (old new later : List (List Entry)) → LayersAfter turn old new
    → LayersAfter turn old later → new ≡ later
same_layers grow (begun seat key seen) old new later one two = one ∙ sym two
same_layers grow (kept seat place entry) old new later one two = grow old new later entry one two
same_layers grow (unkept seat) old new later one two = one ∙ sym two
same_layers grow (spent seat) old new later one two = one ∙ sym two
same_layers grow (failed seat) old new later one two = one ∙ sym two

same_turn : GrowthIsDetermined → (turn : Turn) (old new later : PlainCore) → TakesTurn turn old new
    → TakesTurn turn old later → new ≡ later
same_turn grow turn old new later one two =
    same_core new later (one.opening ∙ sym two.opening) (one.state ∙ sym two.state)
    (same_layers grow turn old.layers new.layers later.layers one.layers two.layers) (one.events ∙ sym two.events)

-- one seat has a flight on a key
one_seat : (s : CoreState) → AreApart s.flights → (key : List PlainKeyAtom) (seat other : ℕ) → IsFlying s seat key
    → IsFlying s other key → seat ≡ other
one_seat s apart key seat other one two =
    ap (λ (f : Flight). f.seat)
    (one_by (λ (f : Flight). f.key) s.flights apart.keys (record { seat = seat; key = key })
    (record { seat = other; key = key }) (flies s seat key one) (flies s other key two) refl)

-- ---- one step

-- the same answer, and the same world
record IsSame (done other : Done) (new later : PlainWorld) : Type 0 where
  answer : done ≡ other
  world : new ≡ later

module _ (grow : GrowthIsDetermined) (old new later : PlainWorld) (is : IsCore old.core) where
  enter_alike : (seat n : ℕ) (key : List PlainKeyAtom) (said other : Enter) → SeatEnters seat key n said old new
      → SeatEnters seat key n other old later → IsSame (Entered said) (Entered other) new later
  enter_alike seat n key Newer Newer one two = record {
    answer = refl;
    world = same_world new later (one.enters.same ∙ sym two.enters.same) (one.saved ∙ sym two.saved);
  }
  enter_alike seat n key (Joined o) (Joined p) one two = record {
    answer = ap (λ (m : ℕ). Entered (Joined m))
        (one_seat old.core.state is.apart key o p one.enters.is_joined.flying two.enters.is_joined.flying);
    world = same_world new later (one.enters.same ∙ sym two.enters.same) (one.saved ∙ sym two.saved);
  }
  enter_alike seat n key Began Began one two = record {
    answer = refl;
    world = same_world new later (same_turn grow (begun seat key n) old.core new.core later.core one.enters two.enters)
        (one.saved ∙ sym two.saved);
  }
  enter_alike seat n key Newer (Joined p) one two =
      absurd (omega (arith, one.enters.behind, two.enters.is_joined.up_to_date))
  enter_alike seat n key Newer Began one two =
      absurd (omega (arith, one.enters.behind, two.enters.possible.up_to_date))
  enter_alike seat n key (Joined o) Newer one two =
      absurd (omega (arith, two.enters.behind, one.enters.is_joined.up_to_date))
  enter_alike seat n key Began Newer one two =
      absurd (omega (arith, two.enters.behind, one.enters.possible.up_to_date))
  enter_alike seat n key (Joined o) Began one two =
      absurd (All-contains (λ (f : Flight). f.key ≢ key) old.core.state.flights (record { seat = o; key = key })
      two.enters.possible.free_key (flies old.core.state o key one.enters.is_joined.flying) refl)
  enter_alike seat n key Began (Joined p) one two =
      absurd (All-contains (λ (f : Flight). f.key ≢ key) old.core.state.flights (record { seat = p; key = key })
      one.enters.possible.free_key (flies old.core.state p key two.enters.is_joined.flying) refl)

-- what a step did that might come
abbrev Outcome : Step → Done → PlainWorld → PlainWorld → Type 0
Outcome (EnterStep seat key n) done old new = (said : Enter) × (done ≡ Entered said) × SeatEnters seat key n said old new
Outcome (End seat how) done old new = (place : Option ℕ) × (done ≡ Ended place) × FlightEnds seat how place old new
Outcome (Save entry) done old new = (done ≡ Saved) × EntryIsSaved entry old new
Outcome (Restart more) done old new = (done ≡ Restarted) × StartsAnew more.items old new

-- it couldn't come
record Idled (step : Step) (done : Done) (old new : PlainWorld) : Type 0 where
  answer : done ≡ Idle
  idle : IsIdle step old new

outcome : (step : Step) (done : Done) (old new : PlainWorld) → Does step done old new
    → Idled step done old new ⊎ Outcome step done old new
outcome step Idle old new does = inl (record { answer = refl; idle = does })
outcome (EnterStep seat key n) (Entered said) old new does = inr (said, refl, does)
outcome (EnterStep seat key n) (Ended place) old new does = absurd does
outcome (EnterStep seat key n) Saved old new does = absurd does
outcome (EnterStep seat key n) Restarted old new does = absurd does
outcome (End seat how) (Ended place) old new does = inr (place, refl, does)
outcome (End seat how) (Entered said) old new does = absurd does
outcome (End seat how) Saved old new does = absurd does
outcome (End seat how) Restarted old new does = absurd does
outcome (Save entry) Saved old new does = inr (refl, does)
outcome (Save entry) (Entered said) old new does = absurd does
outcome (Save entry) (Ended place) old new does = absurd does
outcome (Save entry) Restarted old new does = absurd does
outcome (Restart more) Restarted old new does = inr (refl, does)
outcome (Restart more) (Entered said) old new does = absurd does
outcome (Restart more) (Ended place) old new does = absurd does
outcome (Restart more) Saved old new does = absurd does

might : (step : Step) (done : Done) (old new : PlainWorld) → Outcome step done old new → MayStep old step
might (EnterStep seat key n) done old new (said, answer, does) = does.may
might (End seat how) done old new (place, answer, does) = does.takes.possible
might (Save entry) done old new does = tt
might (Restart more) done old new (answer, does) = does.room

one_outcome : GrowthIsDetermined → (step : Step) (done other : Done) (old new later : PlainWorld) → IsCore old.core
    → Outcome step done old new → Outcome step other old later → IsSame done other new later
one_outcome grow (EnterStep seat key n) done other old new later is (said, a, one) (so, b, two) =
    let alike = enter_alike grow old new later is seat n key said so one two in
    record { answer = a ∙ (alike.answer ∙ sym b); world = alike.world }
one_outcome grow (End seat how) done other old new later is (place, a, one) (at, b, two) = record {
  answer = a ∙ (ap (λ (p : Option ℕ). Ended p) (one.at_end ∙ sym two.at_end) ∙ sym b);
  world = same_world new later (same_turn grow _ old.core new.core later.core one.takes two.takes)
      (one.saved ∙ sym two.saved);
}
one_outcome grow (Save entry) done other old new later is (a, one) (b, two) = record {
  answer = a ∙ sym b;
  world = same_world new later (one.core ∙ sym two.core) (one.saved ∙ sym two.saved);
}
one_outcome grow (Restart more) done other old new later is (a, one) (b, two) =
    let saved : new.saved ≡ later.saved = one.saved ∙ sym two.saved in
    record {
      answer = a ∙ sym b;
      world = same_world new later
          (one.core ∙ (ap (λ (es : List Entry). started es) saved ∙ sym two.core)) saved;
    }

one_step : GrowthIsDetermined → (step : Step) (done other : Done) (old new later : PlainWorld) → IsCore old.core
    → Does step done old new → Does step other old later → IsSame done other new later
one_step grow step done other old new later is one two = elim (outcome step done old new one) [
  | inl idle ↦ elim (outcome step other old later two) [
    | inl still ↦ record {
      answer = idle.answer ∙ sym still.answer;
      world = idle.idle.same ∙ sym still.idle.same;
    }
    | inr came ↦ absurd (idle.idle.may_not (might step other old later came))
  ]
  | inr came ↦ elim (outcome step other old later two) [
    | inl idle ↦ absurd (idle.idle.may_not (might step done old new came))
    | inr again ↦ one_outcome grow step done other old new later is came again
  ]
]

-- ---- all steps

pub one_end : CoresTakeTurns → GrowthIsDetermined → SchedulesHaveOneEnd
one_end law grow [] [] [] old new later is one two = record { answers = refl; worlds = one ∙ sym two }
one_end law grow [] [] (e ∷ es) old new later is one two = absurd two
one_end law grow [] (d ∷ ds) others old new later is one two = absurd one
one_end law grow (s ∷ ss) [] others old new later is one two = absurd one
one_end law grow (s ∷ ss) (d ∷ ds) [] old new later is one two = absurd two
one_end law grow (s ∷ ss) (d ∷ ds) (e ∷ es) old new later is (mid, here, rest) (at, there, more) =
    let first = one_step grow s d e old mid at is here there in
    let behind = one_end law grow ss ds es mid new later (step_leaves law s d old mid is here).is_core rest
    (subst (λ (w : PlainWorld). DoesAll ss es w later) (sym first.world) more) in
    record { answers = rw (first.answer, behind.answers) refl; worlds = behind.worlds }
