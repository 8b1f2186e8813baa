-- Asking several keys: what one ask keeps, a run keeps.
use Rattle.std.proofs.Common.{◌≡◌, ℕ, suc, ◌+◌, ◌≤◌, ◌==◌, ◌∙◌, Bool, true, false, cond, List, [], ◌∷◌, ◌++◌, length, map}
use Rattle.std.proofs.Common.{filter, arith, refl, sym, ap, subst}
use Rattle.std.specs.List.{All, AllZip}
use Rattle.std.proofs.lemmas.List.{length-append}
use Rattle.std.proofs.lemmas.List.Elements.{filter-append, All-nil, All-cons}
use Rattle.lin_model.specs.KeyAtom.{PlainKeyAtom}
use Rattle.cert_check.specs.declared.event.Event.{Event}
use Rattle.cert_check.specs.declared.reply.Reply.{Reply}
use Rattle.cert_check.specs.declared.reply.Reply.TheVariants.{Hit, Solved, Unkept, Spent}
use Rattle.cert_check.specs.Machine.{Turn, begun, kept, unkept, spent, failed, event_of}
use Rattle.cert_check.specs.Logs.{IsLegalLog}
use Rattle.cert_check.specs.Replies.{Stands}
use Rattle.cert_check.specs.Seats.{SeatState, SeatTerms, Grows, Gains, IsSound, entries_of, turns_of}
use Rattle.cert_check.specs.Calls.{flight_turns}
use Rattle.cert_check.specs.Asks.{Asks, AsksAll, SavesRightly, end_of, writes_of, seen_in}
use Rattle.cert_check.specs.Runs.{AreTurnsOfAll, writes_of_all, SeenNeverFalls, KeepsReplies, AskingKeepsReplies}
use Rattle.cert_check.specs.Runs.{AsksJoin, FlightsAreCounted, flights_of, flown_in, is_begun_by, is_flown}
use Rattle.cert_check.specs.Facts.{gained_both, nothing_gained}
use Rattle.cert_check.proofs.StandingLemmas.{replies_go_on}

-- a reply that stood stands for what the seat has seen later
stands_later : (budget : ℕ) (key : List PlainKeyAtom) (reply : Reply) (terms : SeatTerms) (mid new : SeatState)
    → IsSound new → Grows mid new → Stands mid.log (entries_of mid) terms.number budget key reply
    → Stands new.log (entries_of new) terms.number budget key reply
stands_later budget key reply terms mid new later grows stands =
    let at_new : IsLegalLog mid.terms.opening (mid.log ++ grows.turns) (entries_of new) =
    subst (λ (log : List Turn). IsLegalLog mid.terms.opening log (entries_of new)) grows.log
    (subst (λ (t : SeatTerms). IsLegalLog t.opening new.log (entries_of new)) grows.terms later.legal) in
    subst (λ (log : List Turn). Stands log (entries_of new) terms.number budget key reply) (sym grows.log)
    (replies_go_on mid.terms.opening (entries_of new) mid.log grows.turns terms.number budget key reply at_new stands)

-- numbers that never fall from one on never fall from a lesser one on
raised_start : (low start : ℕ) (replies : List Reply) (end : ℕ) → low ≤ start → SeenNeverFalls start replies end
    → SeenNeverFalls low replies end
raised_start low start [] end le seen = omega arith
raised_start low start (reply ∷ replies) end le seen = (omega (arith, seen.0), seen.1)

-- nothing was asked
none_kept : (budget : ℕ) (seat : SeatState) → KeepsReplies budget [] [] seat seat
none_kept budget seat = record {
  own = [];
  turns = refl;
  gains = nothing_gained seat;
  stand = tt;
  save = All-nil (SavesRightly seat.terms);
  seen = omega arith;
  sound = λ sound. sound;
}

-- one key was asked, and then others
one_kept : (budget : ℕ) (key : List PlainKeyAtom) (keys : List (List PlainKeyAtom)) (reply : Reply)
    (replies : List Reply) (old mid new : SeatState) → Asks budget key reply old mid
    → KeepsReplies budget keys replies mid new → KeepsReplies budget (key ∷ keys) (reply ∷ replies) old new
one_kept budget key keys reply replies old mid new one rest =
    let terms : mid.terms ≡ old.terms = one.call.gains.grows.terms in
    let sound : IsSound new = rest.sound one.call.sound in
    let first : List Turn = flight_turns old.terms.number key one.began (end_of old.terms.number reply) in
    record {
      own = first ++ rest.own;
      turns = (
        one.began,
        rest.own,
        refl,
        one.start,
        subst (λ (t : SeatTerms). AreTurnsOfAll t.number keys replies rest.own) terms rest.turns,
      );
      gains = gained_both first rest.own (writes_of old.terms.number reply) (writes_of_all old.terms.number replies) old
          mid new one.call.gains
          (subst (λ (t : SeatTerms). Gains rest.own (writes_of_all t.number replies) mid new) terms rest.gains);
      stand = (
        stands_later budget key reply old.terms mid new sound rest.gains.grows one.stands,
        subst (λ (t : SeatTerms). AllZip (Stands new.log (entries_of new) t.number budget) keys replies) terms
            rest.stand,
      );
      save = All-cons (SavesRightly old.terms) reply replies one.saves
          (subst (λ (t : SeatTerms). All (SavesRightly t) replies) terms rest.save);
      seen = (one.call.from, raised_start (seen_in reply) mid.seen replies new.seen one.call.to rest.seen);
      sound = λ before. sound;
    }

pub keeps_replies : AskingKeepsReplies
keeps_replies budget [] [] old new asked =
    subst (λ (s : SeatState). KeepsReplies budget [] [] old s) (sym asked) (none_kept budget old)
keeps_replies budget [] (reply ∷ replies) old new asked = absurd asked
keeps_replies budget (key ∷ keys) [] old new asked = absurd asked
keeps_replies budget (key ∷ keys) (reply ∷ replies) old new asked =
    one_kept budget key keys reply replies old asked.0 new asked.1
    (keeps_replies budget keys replies asked.0 new asked.2)

pub joined_asks : AsksJoin
joined_asks budget [] more [] others old mid new asked then_ =
    subst (λ (s : SeatState). AsksAll budget more others s new) asked then_
joined_asks budget [] more (r ∷ replies) others old mid new asked then_ = absurd asked
joined_asks budget (k ∷ keys) more [] others old mid new asked then_ = absurd asked
joined_asks budget (k ∷ keys) more (r ∷ replies) others old mid new asked then_ =
    (asked.0, asked.1, joined_asks budget keys more replies others asked.0 mid new asked.2 then_)

-- a turn that begins a flight
abbrev is_begun : Turn → Bool
is_begun (begun seat key seen) = true
is_begun (kept seat place entry) = false
is_begun (unkept seat) = false
is_begun (spent seat) = false
is_begun (failed seat) = false

abbrev flights_in : List Turn → ℕ
flights_in turns = length (filter is_begun turns)

-- the flights of two pieces
flights-append : (xs ys : List Turn) → flights_in (xs ++ ys) ≡ flights_in xs + flights_in ys
flights-append xs ys =
    ap (λ (ts : List Turn). length ts) (filter-append is_begun xs ys)
    ∙ length-append (filter is_begun xs) (filter is_begun ys)

-- a turn that begins a flight counts, where it is of the seat
begun_counts : (own : Bool) (turn : Turn) (turns : List Turn) (event : Event) (events : List Event)
    → is_begun turn ≡ true → length events ≡ flights_in turns
    → length (cond own (event ∷ events) events) ≡ flights_in (cond own (turn ∷ turns) turns)
begun_counts false turn turns event events is same = same
begun_counts true turn turns event events is same =
    ap (λ (n : ℕ). suc n) same
    ∙ sym (ap (λ (b : Bool). length (cond b (turn ∷ filter is_begun turns) (filter is_begun turns))) is)

-- another counts nowhere
end_counts : (own : Bool) (turn : Turn) (turns : List Turn) (n : ℕ) → is_begun turn ≡ false → n ≡ flights_in turns
    → n ≡ flights_in (cond own (turn ∷ turns) turns)
end_counts false turn turns n is same = same
end_counts true turn turns n is same =
    same ∙ sym (ap (λ (b : Bool). length (cond b (turn ∷ filter is_begun turns) (filter is_begun turns))) is)

-- the flights that a seat began, by the events and by its turns
by_turns : (number : ℕ) (log : List Turn) → flights_of number (map event_of log) ≡ flights_in (turns_of number log)
by_turns number [] = refl
by_turns number (begun seat key seen ∷ log) =
    begun_counts (seat == number) (begun seat key seen) (turns_of number log) (event_of (begun seat key seen))
    (filter (is_begun_by number) (map event_of log)) refl (by_turns number log)
by_turns number (kept seat place e ∷ log) =
    end_counts (seat == number) (kept seat place e) (turns_of number log) (flights_of number (map event_of log)) refl
    (by_turns number log)
by_turns number (unkept seat ∷ log) =
    end_counts (seat == number) (unkept seat) (turns_of number log) (flights_of number (map event_of log)) refl
    (by_turns number log)
by_turns number (spent seat ∷ log) =
    end_counts (seat == number) (spent seat) (turns_of number log) (flights_of number (map event_of log)) refl
    (by_turns number log)
by_turns number (failed seat ∷ log) =
    end_counts (seat == number) (failed seat) (turns_of number log) (flights_of number (map event_of log)) refl
    (by_turns number log)

-- the flight of one reply
one_flight : (seat : ℕ) (key : List PlainKeyAtom) (reply : Reply) (began : ℕ)
    → flights_in (flight_turns seat key began (end_of seat reply)) ≡ flown_in (reply ∷ [])
one_flight seat key (Hit entry place n) began = refl
one_flight seat key (Solved entry place n saved) began = refl
one_flight seat key (Unkept entry n saved) began = refl
one_flight seat key (Spent tree n) began = refl

-- replies of two pieces
flown-cons : (reply : Reply) (replies : List Reply)
    → flown_in (reply ∷ replies) ≡ flown_in (reply ∷ []) + flown_in replies
flown-cons reply replies =
    ap (λ (rs : List Reply). length rs) (filter-append is_flown (reply ∷ []) replies)
    ∙ length-append (filter is_flown (reply ∷ [])) (filter is_flown replies)

-- the flights of the turns of all replies
all_flights : (seat : ℕ) (keys : List (List PlainKeyAtom)) (replies : List Reply) (turns : List Turn)
    → AreTurnsOfAll seat keys replies turns → flights_in turns ≡ flown_in replies
all_flights seat [] [] turns are = ap (λ (ts : List Turn). flights_in ts) are
all_flights seat [] (reply ∷ replies) turns are = absurd are
all_flights seat (key ∷ keys) [] turns are = absurd are
all_flights seat (key ∷ keys) (reply ∷ replies) turns are =
    let first = one_flight seat key reply are.0 in
    let rest = all_flights seat keys replies are.1 are.4 in
    ap (λ (ts : List Turn). flights_in ts) are.2
    ∙ (flights-append (flight_turns seat key are.0 (end_of seat reply)) are.1
    ∙ omega (arith, first, rest, flown-cons reply replies))

pub flights_counted : FlightsAreCounted
flights_counted budget keys replies old new keeps =
    let n : ℕ = old.terms.number in
    let own : turns_of n new.log ≡ turns_of n old.log ++ keeps.own =
    subst (λ (t : SeatTerms). turns_of t.number new.log ≡ turns_of t.number old.log ++ keeps.own) keeps.gains.grows.terms
    keeps.gains.own_turns in
    let all : flights_in keeps.own ≡ flown_in replies = all_flights n keys replies keeps.own keeps.turns in
    let before : flights_of n (map event_of old.log) ≡ flights_in (turns_of n old.log) = by_turns n old.log in
    by_turns n new.log
    ∙ (ap (λ (ts : List Turn). flights_in ts) own
    ∙ (flights-append (turns_of n old.log) keeps.own ∙ omega (arith, all, before)))
