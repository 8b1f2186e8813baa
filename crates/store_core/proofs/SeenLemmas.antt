-- What a seat had seen when it began its flight, and that no entry that it had seen decides the flight's key.
use Rattle.std.proofs.Common.{◌≡◌, ◌≢◌, ◌∙◌, ℕ, zero, suc, ◌==◌, not, Bool, true, false, cond, Option, Some, None}
use Rattle.std.proofs.Common.{List, [], ◌∷◌, ◌++◌, map, take, get_or, inl, inr, ◌⊎◌, arith, refl, sym, ap, subst}
use Rattle.std.specs.Prelude.{Contains}
use Rattle.std.specs.List.{All, AllPairs, slice_get}
use Rattle.std.proofs.lemmas.Bool.{cases_lt, eqb-true}
use Rattle.std.proofs.lemmas.List.{append-nil, append_assoc, get_or_default, length-take, map-append}
use Rattle.std.proofs.lemmas.List.Elements.{All-nil, All-cons, All-head, All-tail, All-map, Contains-append_left, Contains-append_right}
use Rattle.lin_model.specs.KeyAtom.{PlainKeyAtom}
use Rattle.cert_check.specs.declared.entry.Entry.{Entry}
use Rattle.cert_check.specs.declared.event.Event.{Event}
use Rattle.cert_check.specs.declared.event.Event.TheVariants.{Begun, Ended}
use Rattle.cert_check.specs.declared.event.Ending.TheVariants.{Kept, Unkept, Spent, Failed}
use Rattle.cert_check.specs.declared.flight.Flight.{Flight}
use Rattle.cert_check.specs.Decides.{NoneDecides}
use Rattle.cert_check.specs.Facts.{replayed-append}
use Rattle.cert_check.specs.Laws.{FlightsBeginRightly}
use Rattle.cert_check.specs.Logs.{IsLegalLog, replayed, start}
use Rattle.cert_check.specs.Machine.{CoreState, IsFlying, MayKeep, Turn, begun, kept, unkept, spent, failed, after, seat_of, without}
use Rattle.layers.specs.Layers.{DecidesMore}
use Rattle.store_core.specs.Cores.{PlainCore, IsCore, kept_turn, log_of, turn_of}
use Rattle.store_core.specs.Seen.{BeganLast, event_seat, event_seen}

-- ---- looking back through the events

-- behind this front the seat has no event
pub record IsFront (events front : List Event) (seat : ℕ) : Type 0 where
  pub behind : List Event
  pub parts : events ≡ front ++ behind
  pub others : All (λ e. event_seat e ≢ seat) behind

pub whole_front : (events front : List Event) (seat : ℕ) → front ≡ events → IsFront events front seat
whole_front events front seat is = record {
  behind = [];
  parts = sym is ∙ sym (append-nil front);
  others = All-nil (λ (e : Event). event_seat e ≢ seat);
}

pub shorter_front : (events front earlier : List Event) (last : Event) (seat : ℕ) → front ≡ earlier ++ last ∷ []
    → event_seat last ≢ seat → IsFront events front seat → IsFront events earlier seat
shorter_front events front earlier last seat is other so_far = record {
  behind = last ∷ so_far.behind;
  parts =
      so_far.parts
      ∙ (ap (λ (es : List Event). es ++ so_far.behind) is ∙ append_assoc earlier (last ∷ []) so_far.behind);
  others = All-cons (λ (e : Event). event_seat e ≢ seat) last so_far.behind other so_far.others;
}

began_there : (events earlier behind : List Event) (last : Event) (seat : ℕ) → events ≡ earlier ++ last ∷ behind
    → All (λ e. event_seat e ≢ seat) behind → event_seat last ≡ seat
    → (event_seen last ≡ 0) ⊎ BeganLast events seat (event_seen last)
began_there events earlier behind (Begun s key n) seat parts others own = inr (record {
  front = earlier;
  key = key;
  behind = behind;
  parts = subst (λ (m : ℕ). events ≡ earlier ++ Begun m key n ∷ behind) own parts;
  others = others;
})
began_there events earlier behind (Ended s how) seat parts others own = inl refl

-- the last event of the seat is found
pub last_found : (events front earlier : List Event) (last : Event) (seat seen : ℕ) → front ≡ earlier ++ last ∷ []
    → event_seat last ≡ seat → seen ≡ event_seen last → IsFront events front seat
    → (seen ≡ 0) ⊎ BeganLast events seat seen
last_found events front earlier last seat seen is own seen_is so_far =
    subst (λ (n : ℕ). (n ≡ 0) ⊎ BeganLast events seat n) (sym seen_is)
    (began_there events earlier so_far.behind last seat
    (so_far.parts ∙ (ap (λ (es : List Event). es ++ so_far.behind) is ∙ append_assoc earlier (last ∷ []) so_far.behind))
    so_far.others own)

-- ---- flights stay until their seat ends them

kept_first : (f : Flight) (rest : List Flight) (seat : ℕ) (own : Bool) → (f.seat == seat) ≡ own → f.seat ≢ seat
    → Contains (cond (not own) (f ∷ rest) rest) f
kept_first f rest seat true same other = absurd (other (eqb-true f.seat seat same))
kept_first f rest seat false same other = (0, omega arith, refl)

kept_behind : (keep : Bool) (g f : Flight) (rest : List Flight) → Contains rest f → Contains (cond keep (g ∷ rest) rest) f
kept_behind true g f rest (k, lt, is) = (suc k, omega (arith, lt), is)
kept_behind false g f rest has = has

others_stay : (seat : ℕ) (fs : List Flight) (f : Flight) → Contains fs f → f.seat ≢ seat → Contains (without seat fs) f
others_stay seat [] f (k, lt, is) other = absurd (omega (arith, lt))
others_stay seat (g ∷ fs) f (zero, lt, is) other =
    subst (λ (h : Flight). Contains (without seat (g ∷ fs)) h) is
    (kept_first g (without seat fs) seat (g.seat == seat) refl (subst (λ (h : Flight). h.seat ≢ seat) (sym is) other))
others_stay seat (g ∷ fs) f (suc k, lt, is) other =
    kept_behind (not (g.seat == seat)) g f (without seat fs) (others_stay seat fs f (k, omega (arith, lt), is) other)

stays : (s : CoreState) (turn : Turn) (f : Flight) → Contains s.flights f → seat_of turn ≢ f.seat
    → Contains (after s turn).flights f
stays s (begun seat key seen) f has other =
    Contains-append_left s.flights (record { seat = seat; key = key } ∷ []) f has
stays s (kept seat place entry) f has other = others_stay seat s.flights f has (λ same. other (sym same))
stays s (unkept seat) f has other = others_stay seat s.flights f has (λ same. other (sym same))
stays s (spent seat) f has other = others_stay seat s.flights f has (λ same. other (sym same))
stays s (failed seat) f has other = others_stay seat s.flights f has (λ same. other (sym same))

pub stays_through : (s : CoreState) (log : List Turn) (f : Flight) → Contains s.flights f
    → All (λ turn. seat_of turn ≢ f.seat) log → Contains (replayed s log).flights f
stays_through s [] f has others = has
stays_through s (turn ∷ log) f has others =
    stays_through (after s turn) log f
    (stays s turn f has (All-head (λ (t : Turn). seat_of t ≢ f.seat) turn log others))
    (All-tail (λ (t : Turn). seat_of t ≢ f.seat) turn log others)

-- ---- the flight that began last

kept_seat : (seat place : ℕ) (o : Option Entry) → seat_of (kept_turn seat place o) ≡ seat
kept_seat seat place None = refl
kept_seat seat place (Some entry) = refl

turn_seat : (entries : List Entry) (event : Event) → seat_of (turn_of entries event) ≡ event_seat event
turn_seat entries (Begun seat key n) = refl
turn_seat entries (Ended seat (Kept place)) = kept_seat seat place (slice_get entries place)
turn_seat entries (Ended seat Unkept) = refl
turn_seat entries (Ended seat Spent) = refl
turn_seat entries (Ended seat Failed) = refl

-- two flights that are alike in what tells flights apart are the same
pub one_by : {X : Type 0} (part : Flight → X) (fs : List Flight) → AllPairs (λ f g. part f ≢ part g) fs → (f g : Flight)
    → Contains fs f → Contains fs g → part f ≡ part g → f ≡ g
one_by {X} part fs apart f g (i, i_lt, f_is) (j, j_lt, g_is) same = elim (cases_lt i j) [
  | inl before ↦ absurd (apart i j f before j_lt
      (ap part f_is ∙ (same ∙ ap part (sym (get_or_default fs j f g j_lt ∙ g_is)))))
  | inr behind ↦ elim (cases_lt j i) [
    | inl before ↦ absurd (apart j i g before i_lt
        (ap part g_is ∙ (sym same ∙ ap part (sym (get_or_default fs i g f i_lt ∙ f_is)))))
    | inr not_before ↦
        let at : i ≡ j = omega (arith, behind, not_before) in
        sym f_is ∙ (ap (λ (k : ℕ). get_or fs k f) at ∙ (get_or_default fs j f g j_lt ∙ g_is))
  ]
]

-- two flights of one seat are the same
one_flight : (fs : List Flight) → AllPairs (λ f g. f.seat ≢ g.seat) fs → (f g : Flight) → Contains fs f → Contains fs g
    → f.seat ≡ g.seat → f ≡ g
one_flight fs apart f g = one_by (λ (h : Flight). h.seat) fs apart f g

-- a seat that has a flight
pub flies : (s : CoreState) (seat : ℕ) (key : List PlainKeyAtom) → IsFlying s seat key
    → Contains s.flights (record { seat = seat; key = key })
flies s seat key (k, f, lt, at, same) = (k, lt, get_or_default s.flights k _ f lt ∙ (at ∙ same))

module _ (core : PlainCore) (is : IsCore core) (seat seen : ℕ) (began : BeganLast core.events seat seen) where
  abbrev entries : List Entry
  entries = core.state.entries

  abbrev before : List Turn
  before = map (turn_of entries) began.front

  abbrev since : List Turn
  since = map (turn_of entries) began.behind

  log_is : log_of core ≡ before ++ begun seat began.key seen ∷ since
  log_is =
      ap (λ (es : List Event). map (turn_of entries) es) began.parts
      ∙ map-append (turn_of entries) began.front (Begun seat began.key seen ∷ began.behind)

  undecided : FlightsBeginRightly → NoneDecides (take seen entries) began.key
  undecided begin_rightly =
      (begin_rightly core.opening entries before since seat began.key seen
      (subst (λ (log : List Turn). IsLegalLog core.opening log entries) log_is is.legal)).undecided

  others_since : All (λ turn. seat_of turn ≢ seat) since
  others_since =
      All-map (λ (turn : Turn). seat_of turn ≢ seat) (turn_of entries) began.behind
      (λ k d lt. subst (λ (n : ℕ). n ≢ seat) (sym (turn_seat entries (get_or began.behind k d))) (began.others k d lt))

  still_flies : Contains core.state.flights (record { seat = seat; key = began.key })
  still_flies =
      let s : CoreState = replayed (start core.opening) before in
      let flight : Flight = record { seat = seat; key = began.key } in
      subst (λ (t : CoreState). Contains t.flights flight)
      (sym (replayed-append (start core.opening) before (begun seat began.key seen ∷ since))
      ∙ (ap (replayed (start core.opening)) (sym log_is) ∙ is.leads))
      (stays_through (after s (begun seat began.key seen)) since flight
      (Contains-append_right s.flights (flight ∷ []) flight (0, omega arith, refl)) others_since)

  key_is : (key : List PlainKeyAtom) → IsFlying core.state seat key → began.key ≡ key
  key_is key flying =
      ap (λ (g : Flight). g.key)
      (one_flight core.state.flights is.apart.seats (record { seat = seat; key = began.key })
      (record { seat = seat; key = key }) still_flies (flies core.state seat key flying) refl)

-- the entry that ends the flight decides a key that none of those does that the seat had seen
pub ends_with_more : FlightsBeginRightly → (core : PlainCore) (seat place seen : ℕ) (entry : Entry) → IsCore core
    → (seen ≡ 0) ⊎ BeganLast core.events seat seen → MayKeep core.state seat place entry
    → DecidesMore (take seen core.state.entries) entry
ends_with_more begin_rightly core seat place seen entry is (inl none) may = record {
  key = may.key;
  decides = may.decides;
  undecided = λ k d lt. absurd (omega (arith, lt, none, length-take seen core.state.entries));
}
ends_with_more begin_rightly core seat place seen entry is (inr began) may = record {
  key = may.key;
  decides = may.decides;
  undecided = subst (λ (key : List PlainKeyAtom). NoneDecides (take seen core.state.entries) key)
      (key_is core is seat seen began may.key may.flying) (undecided core is seat seen began begin_rightly);
}
