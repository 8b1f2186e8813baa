-- A flight that a seat can always take: the flights of the others fail, and then its own begins and ends.
use Rattle.std.proofs.Common.{◌≡◌, ◌≢◌, ◌∙◌, ℕ, zero, suc, ◌≤◌, not, ◌==◌, List, [], ◌∷◌, ◌++◌, length, arith}
use Rattle.std.proofs.Common.{refl, sym, ap, subst}
use Rattle.std.specs.List.{All, Any}
use Rattle.std.proofs.lemmas.Bool.{cond-true, cond-false, eq-eqb, ne_eqb, not_from_true}
use Rattle.std.proofs.lemmas.List.{append_assoc}
use Rattle.std.proofs.lemmas.List.Elements.{All-nil, All-cons, All-head, All-tail, All-filter, filter-append}
use Rattle.std.proofs.lemmas.List.Filters.{length-filter_both}
use Rattle.lin_model.specs.KeyAtom.{PlainKeyAtom}
use Rattle.cert_check.specs.declared.flight.Flight.{Flight}
use Rattle.cert_check.specs.declared.wrote.Wrote.{Wrote}
use Rattle.cert_check.specs.Decides.{NoneDecides}
use Rattle.cert_check.specs.Machine.{CoreState, Turn, begun, failed, after, seat_of, without, MayBegin, MayCome}
use Rattle.cert_check.specs.Logs.{IsPossible, replayed, start}
use Rattle.cert_check.specs.Replies.{HasFlown}
use Rattle.cert_check.specs.Seats.{SeatState, Gains, IsSound, entries_of, turns_of, wrotes_of, writer_of}
use Rattle.cert_check.specs.Facts.{replayed-append, IsPossible-append}

-- ---- the flights of others fail

-- the seat of the first flight flies
pub first_flies : (f : Flight) (flights : List Flight) → Any (λ g. g.seat ≡ f.seat) (f ∷ flights)
first_flies f flights = (0, f, omega arith, refl, refl)

-- without its seat the first flight is gone
pub first_gone : (f : Flight) (flights : List Flight) → without f.seat (f ∷ flights) ≡ without f.seat flights
first_gone f flights =
    cond-false (not (f.seat == f.seat)) (f ∷ without f.seat flights) (without f.seat flights)
    (not_from_true (f.seat == f.seat) (eq-eqb f.seat f.seat refl))

-- so there are fewer
fewer : (f : Flight) (flights : List Flight) → length (without f.seat (f ∷ flights)) ≤ length flights
fewer f flights = omega (
  arith,
  ap length (first_gone f flights),
  length-filter_both (λ g. not (g.seat == f.seat)) (λ g. not (not (g.seat == f.seat))) (λ g. refl) flights,
)

-- turns of others than the seat, after which no flight is open
pub record Landing (seat : ℕ) (s : CoreState) : Type 0 where
  pub turns : List Turn
  pub apart : All (λ t. seat_of t ≢ seat) turns
  pub possible : IsPossible s turns
  pub leads : replayed s turns ≡ record { entries = s.entries; flights = [] }

-- such turns exist where the seat has no flight: each flight fails
land : (seat n : ℕ) (s : CoreState) (flights : List Flight) → length flights ≤ n → All (λ f. f.seat ≢ seat) flights
    → Landing seat (record { entries = s.entries; flights = flights })
land seat n s [] few free = record {
  turns = [];
  apart = All-nil (λ t. seat_of t ≢ seat);
  possible = tt;
  leads = refl;
}
land seat zero s (f ∷ flights) few free = absurd (omega (arith, few))
land seat (suc n) s (f ∷ flights) few free =
    let rest = land seat n s (without f.seat (f ∷ flights)) (omega (arith, few, fewer f flights))
    (All-filter (λ g. not (g.seat == f.seat)) (λ g. g.seat ≢ seat) (f ∷ flights) free) in
    record {
      turns = failed f.seat ∷ rest.turns;
      apart = All-cons (λ t. seat_of t ≢ seat) (failed f.seat) rest.turns (All-head (λ g. g.seat ≢ seat) f flights free)
          rest.apart;
      possible = (first_flies f flights, rest.possible);
      leads = rest.leads;
    }

-- ---- the turns and writes of the seat

-- none of the turns of others is its own
none_own : (seat : ℕ) (turns : List Turn) → All (λ t. seat_of t ≢ seat) turns → turns_of seat turns ≡ []
none_own seat [] apart = refl
none_own seat (t ∷ turns) apart =
    cond-false (seat_of t == seat) (t ∷ turns_of seat turns) (turns_of seat turns)
    (ne_eqb (seat_of t) seat (All-head (λ u. seat_of u ≢ seat) t turns apart))
    ∙ none_own seat turns (All-tail (λ u. seat_of u ≢ seat) t turns apart)

-- a turn of its own is among them
own_turn : (seat : ℕ) (t : Turn) (turns : List Turn) → seat_of t ≡ seat
    → turns_of seat (t ∷ turns) ≡ t ∷ turns_of seat turns
own_turn seat t turns own =
    cond-true (seat_of t == seat) (t ∷ turns_of seat turns) (turns_of seat turns) (eq-eqb (seat_of t) seat own)

-- so of the turns of others and two of its own it gains those two
own_turns : (seat : ℕ) (log others : List Turn) (first last : Turn) → All (λ t. seat_of t ≢ seat) others
    → seat_of first ≡ seat → seat_of last ≡ seat
    → turns_of seat (log ++ (others ++ first ∷ last ∷ [])) ≡ turns_of seat log ++ first ∷ last ∷ []
own_turns seat log others first last apart is_first is_last =
    let both : turns_of seat (first ∷ last ∷ []) ≡ first ∷ last ∷ [] =
    own_turn seat first (last ∷ []) is_first ∙ ap (λ (ts : List Turn). first ∷ ts) (own_turn seat last [] is_last) in
    let behind : turns_of seat (others ++ first ∷ last ∷ []) ≡ first ∷ last ∷ [] =
    filter-append (λ t. seat_of t == seat) others (first ∷ last ∷ [])
    ∙ (ap (λ (ts : List Turn). ts ++ turns_of seat (first ∷ last ∷ [])) (none_own seat others apart) ∙ both) in
    filter-append (λ t. seat_of t == seat) log (others ++ first ∷ last ∷ [])
    ∙ ap (λ (ts : List Turn). turns_of seat log ++ ts) behind

-- ---- its flight

-- the machine when the flight has begun
abbrev pub flying : SeatState → List PlainKeyAtom → CoreState
flying seat key = record {
  entries = entries_of seat;
  flights = record { seat = seat.terms.number; key = key } ∷ [];
}

-- a turn by which it may end
pub record IsEnd (seat : SeatState) (key : List PlainKeyAtom) (end : Turn) : Type 0 where
  pub own : seat_of end ≡ seat.terms.number
  pub may : MayCome (flying seat key) end
  pub lands : (after (flying seat key) end).flights ≡ []
  pub no_fewer : length (entries_of seat) ≤ length (after (flying seat key) end).entries

-- what the seat is after it, with these writes
pub record Flies (seat : SeatState) (key : List PlainKeyAtom) (end : Turn) (writes : List Wrote) : Type 0 where
  pub later : SeatState
  pub gains : Gains (begun seat.terms.number key (length (entries_of seat)) ∷ end ∷ []) writes seat later
  pub flown : HasFlown later.log seat.terms.number key (length (entries_of seat)) end
  pub sound : IsSound later
  pub entries : entries_of later ≡ (after (flying seat key) end).entries
  pub seen : later.seen ≡ length (after (flying seat key) end).entries

-- what the seat's log leads to
abbrev machine_of : SeatState → CoreState
machine_of seat = replayed (start seat.terms.opening) seat.log

-- a flight of a sound seat on a key that no entry decides
module _ (seat : SeatState) (key : List PlainKeyAtom) (end : Turn) (sound : IsSound seat)
    (none : NoneDecides (entries_of seat) key) (is_end : IsEnd seat key end)
    (landing : Landing seat.terms.number (machine_of seat)) where
  -- the turn that begins it
  abbrev first : Turn
  first = begun seat.terms.number key (length (entries_of seat))

  -- what comes to the log
  abbrev turns : List Turn
  turns = landing.turns ++ first ∷ end ∷ []

  -- the seat afterwards
  abbrev later : List Wrote → SeatState
  later writes = record {
    terms = seat.terms;
    log = seat.log ++ turns;
    seen = length (after (flying seat key) end).entries;
    wrotes = seat.wrotes ++ writes;
  }

  -- where no flight is open, it may come
  may_begin : MayBegin (record { entries = entries_of seat; flights = [] }) seat.terms.number key
      (length (entries_of seat))
  may_begin = record {
    up_to_date = refl;
    undecided = none;
    free_seat = All-nil (λ (f : Flight). f.seat ≢ seat.terms.number);
    free_key = All-nil (λ (f : Flight). f.key ≢ key);
  }

  -- all of that is possible
  possible : IsPossible (start seat.terms.opening) (seat.log ++ turns)
  possible = IsPossible-append (start seat.terms.opening) seat.log turns sound.legal.possible
      (IsPossible-append (machine_of seat) landing.turns (first ∷ end ∷ []) landing.possible
      (subst (λ (s : CoreState). IsPossible s (first ∷ end ∷ [])) (sym landing.leads) (may_begin, (is_end.may, tt))))

  -- and leads to where the end leaves the machine
  leads : replayed (start seat.terms.opening) (seat.log ++ turns) ≡ after (flying seat key) end
  leads = replayed-append (start seat.terms.opening) seat.log turns
      ∙ (replayed-append (machine_of seat) landing.turns (first ∷ end ∷ [])
      ∙ ap (λ (s : CoreState). replayed s (first ∷ end ∷ [])) landing.leads)

  -- with no flight open
  no_flights : (replayed (start seat.terms.opening) (seat.log ++ turns)).flights ≡ []
  no_flights = ap (λ (s : CoreState). s.flights) leads ∙ is_end.lands

  -- and the entries as the end leaves them
  later_entries : (writes : List Wrote) → entries_of (later writes) ≡ (after (flying seat key) end).entries
  later_entries writes = ap (λ (s : CoreState). s.entries) leads

  -- so the seat is sound
  later_sound : (writes : List Wrote) → IsSound (later writes)
  later_sound writes = record {
    legal = record { possible = possible; leads = refl };
    within = omega (arith, ap length (later_entries writes));
    idle = subst (All (λ f. f.seat ≢ seat.terms.number)) (sym no_flights)
        (All-nil (λ (f : Flight). f.seat ≢ seat.terms.number));
  }

  -- it gained the flight, and the writes
  later_gains : (writes : List Wrote) → wrotes_of seat.terms.number writes ≡ writes
      → Gains (first ∷ end ∷ []) writes seat (later writes)
  later_gains writes own = record {
    grows = record {
      terms = refl;
      turns = turns;
      log = refl;
      writes = writes;
      wrotes = refl;
      no_less = omega (arith, sound.within, is_end.no_fewer);
    };
    own_turns = own_turns seat.terms.number seat.log landing.turns first end landing.apart refl is_end.own;
    own_writes = filter-append (λ w. writer_of w == seat.terms.number) seat.wrotes writes
        ∙ ap (λ (ws : List Wrote). wrotes_of seat.terms.number seat.wrotes ++ ws) own;
  }

  -- and its log has the flight
  later_flown : HasFlown (seat.log ++ turns) seat.terms.number key (length (entries_of seat)) end
  later_flown = record {
    before = seat.log ++ landing.turns;
    between = [];
    behind = [];
    parts = sym (append_assoc (seat.log ++ landing.turns) (first ∷ []) (end ∷ [])
        ∙ append_assoc seat.log landing.turns (first ∷ end ∷ []));
    alone = All-nil (λ t. seat_of t ≢ seat.terms.number);
  }

-- it can be taken
pub fly : (seat : SeatState) (key : List PlainKeyAtom) (end : Turn) (writes : List Wrote) → IsSound seat
    → NoneDecides (entries_of seat) key → IsEnd seat key end → wrotes_of seat.terms.number writes ≡ writes
    → Flies seat key end writes
fly seat key end writes sound none is_end own =
    let s : CoreState = machine_of seat in
    let landing : Landing seat.terms.number s =
    land seat.terms.number (length s.flights) s s.flights (omega arith) sound.idle in
    record {
      later = later seat key end sound none is_end landing writes;
      gains = later_gains seat key end sound none is_end landing writes own;
      flown = later_flown seat key end sound none is_end landing;
      sound = later_sound seat key end sound none is_end landing writes;
      entries = later_entries seat key end sound none is_end landing writes;
      seen = refl;
    }
