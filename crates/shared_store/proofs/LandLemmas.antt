-- The flight that has begun may end with what was found.
use Rattle.std.proofs.Common.{◌≡◌, ◌∙◌, ℕ, List, [], ◌∷◌, ◌++◌, ap, arith, refl, sym, subst}
use Rattle.std.specs.List.{Any}
use Rattle.lin_model.specs.KeyAtom.{PlainKeyAtom}
use Rattle.cert_check.specs.declared.entry.Entry.{Entry}
use Rattle.cert_check.specs.declared.flight.Flight.{Flight}
use Rattle.cert_check.specs.Decides.{Decides}
use Rattle.cert_check.specs.Machine.{CoreState, HasFlight, begun}
use Rattle.store_core.specs.Cores.{PlainCore}
use Rattle.store_core.specs.Steps.{TakesTurn}
use Rattle.shared_store.specs.Flights.{MayLandWith, own_seat}

-- the one flight
flight_there : (key : List PlainKeyAtom) (n : ℕ) (old mid : PlainCore) → old.state.flights ≡ []
    → TakesTurn (begun own_seat key n) old mid
    → mid.state.flights ≡ record { seat = own_seat; key = key } ∷ []
flight_there key n old mid landed takes =
    ap (λ (s : CoreState). s.flights) takes.state
    ∙ ap (λ (fs : List Flight). fs ++ record { seat = own_seat; key = key } ∷ []) landed

-- it may end with an entry that decides its key
pub may_land : (key : List PlainKeyAtom) (n : ℕ) (old mid : PlainCore) (entry : Entry) → old.state.flights ≡ []
    → TakesTurn (begun own_seat key n) old mid → Decides entry key → MayLandWith mid.state entry
may_land key n old mid entry landed takes decides = record {
  key = key;
  flying = subst (Any (λ f. f ≡ record { seat = own_seat; key = key })) (sym (flight_there key n old mid landed takes))
      (0, record { seat = own_seat; key = key }, omega arith, refl, refl);
  decides = decides;
}

-- and the seat has a flight, which may end without one
pub has_flight : (key : List PlainKeyAtom) (n : ℕ) (old mid : PlainCore) → old.state.flights ≡ []
    → TakesTurn (begun own_seat key n) old mid → HasFlight mid.state own_seat
has_flight key n old mid landed takes =
    subst (Any (λ f. f.seat ≡ own_seat)) (sym (flight_there key n old mid landed takes))
    (0, record { seat = own_seat; key = key }, omega arith, refl, refl)
