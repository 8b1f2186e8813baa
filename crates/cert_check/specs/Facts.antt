-- What follows from the definitions of logs and of what a seat gains, for the proofs of the crates above.
use Rattle.std.proofs.Common.{◌≡◌, ◌≢◌, ℕ, ◌∙◌, not, ◌==◌, List, [], ◌∷◌, ◌++◌, arith, refl, sym, ap, subst}
use Rattle.std.specs.List.{All}
use Rattle.std.proofs.lemmas.List.{append-nil, append_assoc}
use Rattle.std.proofs.lemmas.List.Elements.{All-filter, All-head, All-push, All-tail}
use Rattle.cert_check.specs.declared.flight.Flight.{Flight}
use Rattle.cert_check.specs.declared.wrote.Wrote.{Wrote}
use Rattle.cert_check.specs.Machine.{CoreState, Turn, begun, kept, unkept, spent, failed, after, seat_of}
use Rattle.cert_check.specs.Logs.{replayed, IsIdle, IsPossible, start}
use Rattle.cert_check.specs.Seats.{SeatState, SeatTerms, Gains, turns_of, wrotes_of}

-- two pieces lead where the second leads from where the first led
pub replayed-append : (s : CoreState) (log more : List Turn) → replayed s (log ++ more) ≡ replayed (replayed s log) more
replayed-append s [] more = refl
replayed-append s (turn ∷ log) more = replayed-append (after s turn) log more

-- both pieces of a possible log are possible
pub IsPossible-parts : (s : CoreState) (log more : List Turn) → IsPossible s (log ++ more)
    → IsPossible s log × IsPossible (replayed s log) more
IsPossible-parts s [] more possible = (tt, possible)
IsPossible-parts s (turn ∷ log) more possible =
    let rest = IsPossible-parts (after s turn) log more possible.1 in ((possible.0, rest.0), rest.1)

-- and two possible pieces join
pub IsPossible-append : (s : CoreState) (log more : List Turn) → IsPossible s log → IsPossible (replayed s log) more
    → IsPossible s (log ++ more)
IsPossible-append s [] more first second = second
IsPossible-append s (turn ∷ log) more first second =
    (first.0, IsPossible-append (after s turn) log more first.1 second)

-- a seat that nothing happened to
pub nothing_gained : (seat : SeatState) → Gains [] [] seat seat
nothing_gained seat = record {
  grows = record {
    terms = refl;
    turns = [];
    log = sym (append-nil seat.log);
    writes = [];
    wrotes = sym (append-nil seat.wrotes);
    no_less = omega arith;
  };
  own_turns = sym (append-nil (turns_of seat.terms.number seat.log));
  own_writes = sym (append-nil (wrotes_of seat.terms.number seat.wrotes));
}

-- what was gained twice
joined : {X : Type 0} (a b c d e : List X) → c ≡ b ++ e → b ≡ a ++ d → c ≡ a ++ (d ++ e)
joined {X} a b c d e last first = last ∙ (ap (λ (xs : List X). xs ++ e) first ∙ append_assoc a d e)

-- what is gained first, and then more
pub gained_both : (own more : List Turn) (writes others : List Wrote) (old mid new : SeatState)
    → Gains own writes old mid → Gains more others mid new → Gains (own ++ more) (writes ++ others) old new
gained_both own more writes others old mid new first then_ =
    let number : new.terms.number ≡ mid.terms.number = ap (λ (t : SeatTerms). t.number) then_.grows.terms in
    record {
      grows = record {
        terms = then_.grows.terms ∙ first.grows.terms;
        turns = first.grows.turns ++ then_.grows.turns;
        log = joined old.log mid.log new.log first.grows.turns then_.grows.turns then_.grows.log first.grows.log;
        writes = first.grows.writes ++ then_.grows.writes;
        wrotes = joined old.wrotes mid.wrotes new.wrotes first.grows.writes then_.grows.writes then_.grows.wrotes
            first.grows.wrotes;
        no_less = omega (arith, first.grows.no_less, then_.grows.no_less);
      };
      own_turns = joined (turns_of new.terms.number old.log) (turns_of new.terms.number mid.log)
          (turns_of new.terms.number new.log) own more then_.own_turns
          (subst (λ (n : ℕ). turns_of n mid.log ≡ turns_of n old.log ++ own) (sym number) first.own_turns);
      own_writes = joined (wrotes_of new.terms.number old.wrotes) (wrotes_of new.terms.number mid.wrotes)
          (wrotes_of new.terms.number new.wrotes) writes others then_.own_writes
          (subst (λ (n : ℕ). wrotes_of n mid.wrotes ≡ wrotes_of n old.wrotes ++ writes) (sym number) first.own_writes);
    }

-- a seat without a flight
abbrev IsFree : ℕ → CoreState → Type 0
IsFree seat s = All (λ f. f.seat ≢ seat) s.flights

-- whatever turn of another seat comes, the seat has none
free_after : (seat : ℕ) (s : CoreState) (turn : Turn) → IsFree seat s → seat_of turn ≢ seat
    → IsFree seat (after s turn)
free_after seat s (begun other key seen) free apart =
    All-push (λ (f : Flight). f.seat ≢ seat) s.flights (record { seat = other; key = key }) free apart
free_after seat s (kept other place e) free apart =
    All-filter (λ f. not (f.seat == other)) (λ f. f.seat ≢ seat) s.flights free
free_after seat s (unkept other) free apart =
    All-filter (λ f. not (f.seat == other)) (λ f. f.seat ≢ seat) s.flights free
free_after seat s (spent other) free apart =
    All-filter (λ f. not (f.seat == other)) (λ f. f.seat ≢ seat) s.flights free
free_after seat s (failed other) free apart =
    All-filter (λ f. not (f.seat == other)) (λ f. f.seat ≢ seat) s.flights free

-- and so after all turns of others
free_goes_on : (seat : ℕ) (s : CoreState) (more : List Turn) → IsFree seat s → All (λ t. seat_of t ≢ seat) more
    → IsFree seat (replayed s more)
free_goes_on seat s [] free apart = free
free_goes_on seat s (turn ∷ more) free apart =
    free_goes_on seat (after s turn) more
    (free_after seat s turn free (All-head (λ t. seat_of t ≢ seat) turn more apart))
    (All-tail (λ t. seat_of t ≢ seat) turn more apart)

-- a seat that is idle stays so while others have their turns
pub IsIdle-longer : (opening : _) (log more : List Turn) (seat : ℕ) → IsIdle opening log seat
    → All (λ t. seat_of t ≢ seat) more → IsIdle opening (log ++ more) seat
IsIdle-longer opening log more seat idle apart =
    subst (λ (s : CoreState). IsFree seat s) (sym (replayed-append (start opening) log more))
    (free_goes_on seat (replayed (start opening) log) more idle apart)
