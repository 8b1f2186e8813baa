-- What the first entry that decides a key tells of the entries before a place, and what a seat's flight tells of ends.
use Rattle.std.proofs.Common.{◌≡◌, ◌∙◌, ℕ, ◌<◌, ◌≤◌, List, length, take, Some, get_or, inl, inr, arith, refl, sym, ap, subst}
use Rattle.std.specs.List.{slice_get}
use Rattle.std.proofs.lemmas.Bool.{cases_lt}
use Rattle.std.proofs.lemmas.List.{get_or-take, length-take}
use Rattle.std.proofs.lemmas.Option.{get_or_from_slice_get, slice_get_within}
use Rattle.lin_model.specs.KeyAtom.{PlainKeyAtom}
use Rattle.lin_model.specs.Lists.{Found-from}
use Rattle.cert_check.specs.declared.entry.Entry.{Entry}
use Rattle.cert_check.specs.declared.flight.Flight.{Flight}
use Rattle.cert_check.specs.Decides.{Decides, IsFirstAt, NoneDecides}
use Rattle.cert_check.specs.Machine.{AreApart, CoreState, IsFlying, MayKeep}
use Rattle.store_core.proofs.SeenLemmas.{flies, one_by}

module _ (entries : List Entry) (key : List PlainKeyAtom) (n place : ℕ)
    (first : IsFirstAt (λ e. Decides e key) entries place) where
  -- where the first comes no earlier than n, none of the first n decides
  pub seen_is_not_first : n ≤ place → NoneDecides (take n entries) key
  seen_is_not_first later k d lt =
      let below : k < n = omega (arith, lt, length-take n entries) in
      let within : k < length (take place entries) =
      omega (arith, lt, length-take n entries, length-take place entries, later) in
      subst (λ (e : Entry). ¬ Decides e key)
      (get_or-take place entries k d (omega (arith, below, later)) ∙ sym (get_or-take n entries k d below))
      (first.before k d within)

  -- and where none of them does, it comes no earlier
  pub first_is_seen : NoneDecides (take n entries) key → n ≤ place
  first_is_seen none = elim (cases_lt place n) [
    | inl before ↦
        let found = Found-from (slice_get entries place) (λ e. Decides e key) first.here in
        let within : place < length entries = slice_get_within entries place found.value found.is in
        let at : get_or (take n entries) place found.value ≡ found.value =
        get_or-take n entries place found.value before
        ∙ get_or_from_slice_get entries place found.value found.value found.is in
        absurd (none place found.value (omega (arith, within, before, length-take n entries))
        (subst (λ (e : Entry). Decides e key) (sym at) found.holds))
    | inr behind ↦ behind
  ]

-- a seat has a flight on one key
pub one_key : (s : CoreState) → AreApart s.flights → (seat : ℕ) (key other : List PlainKeyAtom) → IsFlying s seat key
    → IsFlying s seat other → key ≡ other
one_key s apart seat key other one two =
    ap (λ (f : Flight). f.key)
    (one_by (λ (f : Flight). f.seat) s.flights apart.seats (record { seat = seat; key = key })
    (record { seat = seat; key = other }) (flies s seat key one) (flies s seat other two) refl)

-- so what is kept decides that key
pub keeps_for : (s : CoreState) → AreApart s.flights → (seat place : ℕ) (key : List PlainKeyAtom) (entry : Entry)
    → IsFlying s seat key → MayKeep s seat place entry → Decides entry key
keeps_for s apart seat place key entry flying may =
    subst (Decides entry) (one_key s apart seat may.key key may.flying flying) may.decides
