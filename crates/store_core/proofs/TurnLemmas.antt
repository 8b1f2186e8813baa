-- One turn more.
use Rattle.std.proofs.Common.{◌≡◌, ◌∙◌, ℕ, ◌≤◌, List, [], ◌∷◌, ◌++◌, length, map, arith, refl, sym, ap, subst}
use Rattle.std.specs.List.{All}
use Rattle.std.proofs.lemmas.List.{length_push, map-append}
use Rattle.std.proofs.lemmas.List.Elements.{All-head, All-tail}
use Rattle.cert_check.specs.declared.entry.Entry.{Entry}
use Rattle.cert_check.specs.declared.event.Event.{Event}
use Rattle.cert_check.specs.declared.event.Event.TheVariants.{Ended}
use Rattle.cert_check.specs.declared.event.Ending.{Ending}
use Rattle.cert_check.specs.declared.event.Ending.TheVariants.{Kept, Unkept, Spent, Failed}
use Rattle.cert_check.specs.declared.flight.Flight.{Flight}
use Rattle.cert_check.specs.Machine.{CoreState, Turn, begun, kept, unkept, spent, failed, MayCome, after, event_of}
use Rattle.cert_check.specs.Machine.{AreApart, max_entries, without}
use Rattle.cert_check.specs.Logs.{IsLegalLog, IsLogOf, StandsAtPlace, replayed, start}
use Rattle.cert_check.specs.Laws.{LogsGoOn, LegalLogsTell, FlightsStayApart}
use Rattle.store_core.specs.Cores.{PlainCore, IsCore, end_turn, kept_turn, log_of, turn_of}
use Rattle.store_core.specs.Laws.{CoresTakeTurns, IsCoreAfter, after_turn}
use Rattle.store_core.specs.Steps.{KeepsNothing, TakesTurn}

-- the event of a turn tells of it
told_turn : (entries : List Entry) (turn : Turn) → StandsAtPlace entries turn → turn_of entries (event_of turn) ≡ turn
told_turn entries (begun seat key seen) there = refl
told_turn entries (kept seat place entry) there = ap (kept_turn seat place) there
told_turn entries (unkept seat) there = refl
told_turn entries (spent seat) there = refl
told_turn entries (failed seat) there = refl

told_turns : (entries : List Entry) (log : List Turn) → All (StandsAtPlace entries) log
    → map (turn_of entries) (map event_of log) ≡ log
told_turns entries [] there = refl
told_turns entries (turn ∷ log) there = rw (
  told_turn entries turn (All-head (StandsAtPlace entries) turn log there),
  told_turns entries log (All-tail (StandsAtPlace entries) turn log there),
) refl

-- the log of events is the one that they tell of
pub told_log : (entries : List Entry) (events : List Event) (log : List Turn) → IsLogOf entries events log
    → map (turn_of entries) events ≡ log
told_log entries events log is =
    ap (map (turn_of entries)) (sym is.tells) ∙ told_turns entries log is.places

-- entries stay few
few_after : (s : CoreState) (turn : Turn) → MayCome s turn → length s.entries ≤ max_entries
    → length (after s turn).entries ≤ max_entries
few_after s (begun seat key seen) may few = few
few_after s (kept seat place entry) may few = omega (arith, may.room, length_push s.entries entry)
few_after s (unkept seat) may few = few
few_after s (spent seat) may few = few
few_after s (failed seat) may few = few

pub takes_turns : LogsGoOn → LegalLogsTell → FlightsStayApart → CoresTakeTurns
takes_turns go_on tell stay_apart core turn layers is may grow =
    let log : List Turn = log_of core in
    let may_there : MayCome (replayed (start core.opening) log) turn =
    subst (λ (s : CoreState). MayCome s turn) (sym is.leads) may in
    let more = go_on core.opening core.state.entries log turn is.legal may_there in
    let leads : replayed (start core.opening) (log ++ turn ∷ []) ≡ after core.state turn =
    more.leads ∙ ap (λ (s : CoreState). after s turn) is.leads in
    let legal : IsLegalLog core.opening (log ++ turn ∷ []) (after core.state turn).entries =
    subst (λ (s : CoreState). IsLegalLog core.opening (log ++ turn ∷ []) (after s turn).entries) is.leads more.legal in
    let events : map event_of (log ++ turn ∷ []) ≡ core.events ++ event_of turn ∷ [] =
    map-append event_of log (turn ∷ []) ∙ ap (λ (es : List Event). es ++ event_of turn ∷ []) is.told.tells in
    let told : IsLogOf (after core.state turn).entries (core.events ++ event_of turn ∷ []) (log ++ turn ∷ []) =
    subst (λ (es : List Event). IsLogOf (after core.state turn).entries es (log ++ turn ∷ [])) events
    (tell core.opening (after core.state turn).entries (log ++ turn ∷ []) legal) in
    let longer : log_of (after_turn core turn layers) ≡ log ++ turn ∷ [] =
    told_log (after core.state turn).entries (core.events ++ event_of turn ∷ []) (log ++ turn ∷ []) told in
    record {
      is_core = record {
        told = subst (IsLogOf (after core.state turn).entries (core.events ++ event_of turn ∷ [])) (sym longer) told;
        legal = subst (λ (l : List Turn). IsLegalLog core.opening l (after core.state turn).entries) (sym longer) legal;
        leads = ap (replayed (start core.opening)) longer ∙ leads;
        apart = subst (λ (s : CoreState). AreApart s.flights) leads
            (stay_apart core.opening (after core.state turn).entries (log ++ turn ∷ []) legal);
        few = few_after core.state turn may is.few;
      };
      takes = record { possible = may; opening = refl; state = refl; layers = grow; events = refl; log = longer };
    }

-- the core after a turn, by its parts
pub record TookTurn (turn : Turn) (core : PlainCore) (state : CoreState) (layers : List (List Entry))
    (events : List Event) : Type 0 where
  pub is_core : IsCore (record { opening = core.opening; state = state; layers = layers; events = events })
  pub takes : TakesTurn turn core
      (record { opening = core.opening; state = state; layers = layers; events = events })

pub took : (turn : Turn) (core : PlainCore) (state : CoreState) (layers : List (List Entry)) (events : List Event)
    → IsCoreAfter core turn layers → state ≡ after core.state turn → events ≡ core.events ++ event_of turn ∷ []
    → TookTurn turn core state layers events
took turn core state layers events later s e =
    subst (λ (x : CoreState). TookTurn turn core x layers events) (sym s)
    (subst (λ (x : List Event). TookTurn turn core (after core.state turn) layers x) (sym e)
    (record { is_core = later.is_core; takes = later.takes }))

-- states of the same entries and the same flights
pub same_state : (entries others : List Entry) (flights more : List Flight) → entries ≡ others → flights ≡ more
    → record { entries = entries; flights = flights } ≡ (let s : CoreState = record { entries = others; flights = more } in s)
same_state entries others flights more same alike = rw (same, alike) refl

-- a flight that ended without an entry that is kept
closed : CoresTakeTurns → (core : PlainCore) (seat : ℕ) (how : Ending) → IsCore core → KeepsNothing how
    → MayCome core.state (end_turn core.state.entries seat how)
    → TookTurn (end_turn core.state.entries seat how) core
    (record { entries = core.state.entries; flights = without seat core.state.flights }) core.layers
    (core.events ++ Ended seat how ∷ [])
closed law core seat (Kept place) is nothing may = absurd nothing
closed law core seat Unkept is nothing may =
    let later = law core (unkept seat) core.layers is may refl in
    record { is_core = later.is_core; takes = later.takes }
closed law core seat Spent is nothing may =
    let later = law core (spent seat) core.layers is may refl in
    record { is_core = later.is_core; takes = later.takes }
closed law core seat Failed is nothing may =
    let later = law core (failed seat) core.layers is may refl in
    record { is_core = later.is_core; takes = later.takes }

-- the same, of flights and events as they were left
pub closed_so : CoresTakeTurns → (core : PlainCore) (seat : ℕ) (how : Ending) (flights : List Flight)
    (events : List Event) → IsCore core → KeepsNothing how → MayCome core.state (end_turn core.state.entries seat how)
    → flights ≡ without seat core.state.flights → events ≡ core.events ++ Ended seat how ∷ []
    → TookTurn (end_turn core.state.entries seat how) core
    (record { entries = core.state.entries; flights = flights }) core.layers events
closed_so law core seat how flights events is nothing may f e =
    subst (λ (fs : List Flight).
    TookTurn (end_turn core.state.entries seat how) core (record { entries = core.state.entries; flights = fs })
    core.layers events) (sym f)
    (subst (λ (es : List Event).
    TookTurn (end_turn core.state.entries seat how) core
    (record { entries = core.state.entries; flights = without seat core.state.flights }) core.layers es) (sym e)
    (closed law core seat how is nothing may))
