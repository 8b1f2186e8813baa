-- The flights of a machine stay apart.
use Rattle.std.proofs.Common.{◌≢◌, ℕ, not, ◌==◌, List, [], ◌∷◌, arith}
use Rattle.std.proofs.lemmas.List.Kept.{AllPairs-filter}
use Rattle.std.proofs.lemmas.List.Quantifiers.{all_pairs_push}
use Rattle.cert_check.specs.declared.flight.Flight.{Flight}
use Rattle.cert_check.specs.Machine.{CoreState, Turn, begun, kept, unkept, spent, failed, after, without}
use Rattle.cert_check.specs.Machine.{AreApart, MayBegin}
use Rattle.cert_check.specs.Logs.{IsPossible, replayed, start}
use Rattle.cert_check.specs.Laws.{FlightsStayApart}

-- no flights are apart
none_apart : AreApart []
none_apart = record {
  seats = λ i j d lt within. absurd (omega (arith, within));
  keys = λ i j d lt within. absurd (omega (arith, within));
}

-- one flight less
fewer_apart : (seat : ℕ) (flights : List Flight) → AreApart flights → AreApart (without seat flights)
fewer_apart seat flights apart = record {
  seats = AllPairs-filter (λ f g. f.seat ≢ g.seat) (λ f. not (f.seat == seat)) flights apart.seats;
  keys = AllPairs-filter (λ f g. f.key ≢ g.key) (λ f. not (f.seat == seat)) flights apart.keys;
}

-- one flight more, of a free seat on a free key
one_more_apart : (s : CoreState) (seat : ℕ) (key : _) (seen : ℕ) → MayBegin s seat key seen → AreApart s.flights
    → AreApart (after s (begun seat key seen)).flights
one_more_apart s seat key seen may apart = record {
  seats = all_pairs_push (λ f g. f.seat ≢ g.seat) s.flights (record { seat = seat; key = key }) apart.seats
      may.free_seat;
  keys = all_pairs_push (λ f g. f.key ≢ g.key) s.flights (record { seat = seat; key = key }) apart.keys may.free_key;
}

-- whatever is possible, they stay apart
stay_apart : (s : CoreState) (log : List Turn) → AreApart s.flights → IsPossible s log
    → AreApart (replayed s log).flights
stay_apart s [] apart possible = apart
stay_apart s (begun seat key seen ∷ log) apart possible =
    stay_apart (after s (begun seat key seen)) log (one_more_apart s seat key seen possible.0 apart) possible.1
stay_apart s (kept seat place e ∷ log) apart possible =
    stay_apart (after s (kept seat place e)) log (fewer_apart seat s.flights apart) possible.1
stay_apart s (unkept seat ∷ log) apart possible =
    stay_apart (after s (unkept seat)) log (fewer_apart seat s.flights apart) possible.1
stay_apart s (spent seat ∷ log) apart possible =
    stay_apart (after s (spent seat)) log (fewer_apart seat s.flights apart) possible.1
stay_apart s (failed seat ∷ log) apart possible =
    stay_apart (after s (failed seat)) log (fewer_apart seat s.flights apart) possible.1

pub flights_apart : FlightsStayApart
flights_apart opening later log legal = stay_apart (start opening) log none_apart legal.possible
