-- The events of a log, with the entries after it, determine the log; a legal log tells its own.
use Rattle.std.proofs.Common.{◌≡◌, ℕ, ◌∙◌, List, [], ◌∷◌, ◌++◌, length, Option, Some, map, get_or, refl, sym, ap, subst}
use Rattle.std.specs.Option.{option_map}
use Rattle.std.specs.List.{All, slice_get}
use Rattle.std.proofs.lemmas.List.Elements.{All-nil, All-cons, All-head, All-tail}
use Rattle.cert_check.specs.declared.entry.Entry.{Entry}
use Rattle.cert_check.specs.declared.event.Event.{Event}
use Rattle.cert_check.specs.declared.event.Event.TheVariants.{Begun, Ended}
use Rattle.cert_check.specs.declared.event.Ending.TheVariants.{Kept, Unkept, Spent, Failed}
use Rattle.cert_check.specs.Machine.{CoreState, Turn, begun, kept, unkept, spent, failed, event_of, MayKeep, after}
use Rattle.cert_check.specs.Logs.{IsPossible, StandsAtPlace, replayed, start}
use Rattle.cert_check.specs.Laws.{GoesOnTo, EventsDetermineLogs, LegalLogsTell, PlacesStay}
use Rattle.cert_check.proofs.LogLemmas.{entries_stay}
use Rattle.cert_check.proofs.StandingLemmas.{there_later}

-- the turn that an event tells of, with the entry at its place
turn_of : List Entry → Event → Option Turn
turn_of entries (Begun seat key seen) = Some (begun seat key seen)
turn_of entries (Ended seat (Kept place)) = option_map (kept seat place) (slice_get entries place)
turn_of entries (Ended seat Unkept) = Some (unkept seat)
turn_of entries (Ended seat Spent) = Some (spent seat)
turn_of entries (Ended seat Failed) = Some (failed seat)

-- a turn's event tells of that turn
told : (entries : List Entry) (turn : Turn) → StandsAtPlace entries turn → turn_of entries (event_of turn) ≡ Some turn
unfolding turn_of
told entries (begun seat key seen) stands = refl
told entries (kept seat place e) stands = ap (λ (o : Option Entry). option_map (kept seat place) o) stands
told entries (unkept seat) stands = refl
told entries (spent seat) stands = refl
told entries (failed seat) stands = refl

-- two turns with one event are the same
one_turn : (entries : List Entry) (turn other : Turn) → StandsAtPlace entries turn → StandsAtPlace entries other
    → event_of turn ≡ event_of other → turn ≡ other
one_turn entries turn other here there same =
    let both : Some turn ≡ Some other =
    sym (told entries turn here) ∙ (ap (λ (e : Event). turn_of entries e) same ∙ told entries other there) in
    cc

-- two logs with the same events are the same
same_logs : (entries : List Entry) (log other : List Turn) → All (StandsAtPlace entries) log
    → All (StandsAtPlace entries) other → map event_of log ≡ map event_of other → log ≡ other
same_logs entries [] [] here there same = refl
same_logs entries [] (u ∷ other) here there same = absurd (cc)
same_logs entries (t ∷ log) [] here there same = absurd (cc)
same_logs entries (t ∷ log) (u ∷ other) here there same =
    let first : event_of t ≡ event_of u = cc in
    let rest : map event_of log ≡ map event_of other = cc in
    let turn : t ≡ u = one_turn entries t u (All-head (StandsAtPlace entries) t log here)
    (All-head (StandsAtPlace entries) u other there) first in
    let later : log ≡ other = same_logs entries log other (All-tail (StandsAtPlace entries) t log here)
    (All-tail (StandsAtPlace entries) u other there) rest in
    cc

pub one_log : EventsDetermineLogs
one_log entries events log other one two = same_logs entries log other one.places two.places (one.tells ∙ sym two.tells)

-- what stands at its place stays there
stays_at_place : (entries later : List Entry) (turn : Turn) → GoesOnTo entries later → StandsAtPlace entries turn
    → StandsAtPlace later turn
stays_at_place entries later (begun seat key seen) goes stands = tt
stays_at_place entries later (kept seat place e) goes stands = there_later entries later place e goes stands
stays_at_place entries later (unkept seat) goes stands = tt
stays_at_place entries later (spent seat) goes stands = tt
stays_at_place entries later (failed seat) goes stands = tt

pub places_go_on : PlacesStay
places_go_on entries later events log goes is_log = record {
  tells = is_log.tells;
  places = λ k d within. stays_at_place entries later (get_or log k d) goes (is_log.places k d within);
}

-- what is pushed stands at the end
at_end : (entries : List Entry) (e : Entry) → slice_get (entries ++ e ∷ []) (length entries) ≡ Some e
at_end [] e = refl
at_end (x ∷ entries) e = at_end entries e

-- an entry that was kept stands at its place
kept_stands : (s : CoreState) (seat place : ℕ) (e : Entry) (log : List Turn) → MayKeep s seat place e
    → slice_get (replayed (after s (kept seat place e)) log).entries place ≡ Some e
kept_stands s seat place e log may =
    let next = after s (kept seat place e) in
    let here : slice_get next.entries place ≡ Some e =
    subst (λ (n : ℕ). slice_get next.entries n ≡ Some e) (sym may.at_end) (at_end s.entries e) in
    there_later next.entries (replayed next log).entries place e (entries_stay next log) here

-- all that a possible log keeps stand at their places
all_stand : (s : CoreState) (log : List Turn) → IsPossible s log → All (StandsAtPlace (replayed s log).entries) log
all_stand s [] possible = All-nil (StandsAtPlace s.entries)
all_stand s (begun seat key seen ∷ log) possible =
    let next = after s (begun seat key seen) in
    All-cons (StandsAtPlace (replayed next log).entries) (begun seat key seen) log tt (all_stand next log possible.1)
all_stand s (kept seat place e ∷ log) possible =
    let next = after s (kept seat place e) in
    All-cons (StandsAtPlace (replayed next log).entries) (kept seat place e) log
    (kept_stands s seat place e log possible.0) (all_stand next log possible.1)
all_stand s (unkept seat ∷ log) possible =
    let next = after s (unkept seat) in
    All-cons (StandsAtPlace (replayed next log).entries) (unkept seat) log tt (all_stand next log possible.1)
all_stand s (spent seat ∷ log) possible =
    let next = after s (spent seat) in
    All-cons (StandsAtPlace (replayed next log).entries) (spent seat) log tt (all_stand next log possible.1)
all_stand s (failed seat ∷ log) possible =
    let next = after s (failed seat) in
    All-cons (StandsAtPlace (replayed next log).entries) (failed seat) log tt (all_stand next log possible.1)

pub legal_tells : LegalLogsTell
legal_tells opening entries log legal = record {
  tells = refl;
  places = subst (λ (es : List Entry). All (StandsAtPlace es) log) legal.leads
      (all_stand (start opening) log legal.possible);
}
