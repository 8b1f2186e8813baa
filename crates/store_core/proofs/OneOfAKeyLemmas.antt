-- Of the flights on one key in a legal log at most one ended with an entry that was kept.
use Rattle.std.proofs.Common.{◌≡◌, ◌≢◌, ◌∙◌, ℕ, ◌<◌, Bool, true, false, List, [], ◌∷◌, ◌++◌, length, ◌⊎◌, inl, inr}
use Rattle.std.proofs.Common.{arith, refl, sym, ap, subst}
use Rattle.std.specs.Prelude.{Contains}
use Rattle.std.specs.List.{All}
use Rattle.std.proofs.lemmas.List.{append_assoc, get_or_append_left, length-append}
use Rattle.std.proofs.lemmas.List.Elements.{All-contains, Contains-append_left, Contains-push}
use Rattle.lin_model.specs.KeyAtom.{PlainKeyAtom}
use Rattle.cert_check.specs.declared.entry.Entry.{Entry}
use Rattle.cert_check.specs.declared.flight.Flight.{Flight}
use Rattle.cert_check.specs.Decides.{Decides}
use Rattle.cert_check.specs.Facts.{IsPossible-parts, replayed-append}
use Rattle.cert_check.specs.Laws.{EntriesStay, FlightsStayApart, GoesOnTo}
use Rattle.cert_check.specs.Logs.{IsLegalLog, IsPossible, entries_after, replayed, start}
use Rattle.cert_check.specs.Machine.{CoreState, MayBegin, MayKeep, Turn, begun, kept, unkept, spent, failed, after, seat_of}
use Rattle.cert_check.specs.Replies.{HasFlown}
use Rattle.store_core.specs.Histories.{KeepsOneOfAKey}
use Rattle.store_core.proofs.ConditionLemmas.{keeps_for}
use Rattle.store_core.proofs.SeenLemmas.{stays_through}

-- ---- two places of one list

-- the second place comes behind the first
record Before {X : Type 0} (front : List X) (x : X) (rest later : List X) (y : X) (end : List X) : Type 0 where
  between : List X
  later_is : later ≡ front ++ x ∷ between
  rest_is : rest ≡ between ++ y ∷ end

one_more : {X : Type 0} (z w : X) (a b : List X) (x y : X) (r s : List X) → z ≡ w → Before a x r b y s
    → Before (z ∷ a) x r (w ∷ b) y s
one_more {X} z w a b x y r s same before = record {
  between = before.between;
  later_is = rw (sym same, before.later_is) refl;
  rest_is = before.rest_is;
}

-- either they are the same, or one comes behind the other
two_places : {X : Type 0} (a b : List X) (x y : X) (r s : List X) → a ++ x ∷ r ≡ b ++ y ∷ s
    → ((a ≡ b) × (x ≡ y)) ⊎ (Before a x r b y s ⊎ Before b y s a x r)
two_places [] [] x y r s same = inl (refl, cc)
two_places [] (z ∷ b) x y r s same =
    let first : x ≡ z = cc in
    let others : r ≡ b ++ y ∷ s = cc in
    inr (inl (record { between = b; later_is = rw (first) refl; rest_is = others }))
two_places (z ∷ a) [] x y r s same =
    let first : z ≡ y = cc in
    let others : a ++ x ∷ r ≡ s = cc in
    inr (inr (record { between = a; later_is = rw (first) refl; rest_is = sym others }))
two_places (z ∷ a) (w ∷ b) x y r s same =
    let first : z ≡ w = cc in
    let others : a ++ x ∷ r ≡ b ++ y ∷ s = cc in
    elim (two_places a b x y r s others) [
      | inl here ↦ inl (rw (first, here.0) refl, here.1)
      | inr (inl before) ↦ inr (inl (one_more z w a b x y r s first before))
      | inr (inr behind) ↦ inr (inr (one_more w z b a y x s r (sym first) behind))
    ]

front_of_all : {X : Type 0} (P : X → Type 0) (xs ys : List X) → All P (xs ++ ys) → All P xs
front_of_all {X} P xs ys all k d lt =
    subst P (get_or_append_left xs ys d k lt) (all k d (omega (arith, lt, length-append xs ys)))

regrouped : {X : Type 0} (xs ys zs : List X) (x y : X)
    → xs ++ x ∷ (ys ++ y ∷ zs) ≡ ((xs ++ x ∷ ys) ++ y ∷ []) ++ zs
regrouped xs ys zs x y =
    sym (append_assoc (xs ++ x ∷ ys) (y ∷ []) zs ∙ append_assoc xs (x ∷ ys) (y ∷ zs))

-- ---- what a piece of a legal log leads to

-- a flight is open until a turn of its seat comes
flies_on : (s : CoreState) (before between : List Turn) (seat seen : ℕ) (key : List PlainKeyAtom)
    → All (λ turn. seat_of turn ≢ seat) between
    → Contains (replayed s (before ++ begun seat key seen ∷ between)).flights (record { seat = seat; key = key })
flies_on s before between seat seen key others =
    let flight : Flight = record { seat = seat; key = key } in
    let mid : CoreState = replayed s before in
    subst (λ (t : CoreState). Contains t.flights flight)
    (sym (replayed-append s before (begun seat key seen ∷ between)))
    (stays_through (after mid (begun seat key seen)) between flight (Contains-push mid.flights flight) others)

flies_in : (s : CoreState) (log before between : List Turn) (seat seen : ℕ) (key : List PlainKeyAtom)
    → log ≡ before ++ begun seat key seen ∷ between → All (λ turn. seat_of turn ≢ seat) between
    → Contains (replayed s log).flights (record { seat = seat; key = key })
flies_in s log before between seat seen key is others =
    subst (λ (l : List Turn). Contains (replayed s l).flights (record { seat = seat; key = key })) (sym is)
    (flies_on s before between seat seen key others)

-- an entry that was kept is there
kept_there : (s : CoreState) (log : List Turn) (seat place : ℕ) (e : Entry)
    → Contains (replayed s (log ++ kept seat place e ∷ [])).entries e
kept_there s log seat place e =
    let mid : CoreState = replayed s log in
    subst (λ (t : CoreState). Contains t.entries e) (sym (replayed-append s log (kept seat place e ∷ [])))
    (Contains-push mid.entries e)

still_there : (entries later : List Entry) (e : Entry) → GoesOnTo entries later → Contains entries e → Contains later e
still_there entries later e goes there =
    subst (λ (es : List Entry). Contains es e) (sym goes.at_end) (Contains-append_left entries goes.new e there)

-- a turn of a legal log might come when it came
came : (opening later : List Entry) (front behind : List Turn) (turn : Turn)
    → IsLegalLog opening (front ++ turn ∷ behind) later
    → IsPossible (start opening) front × IsPossible (replayed (start opening) front) (turn ∷ behind)
came opening later front behind turn legal =
    IsPossible-parts (start opening) front (turn ∷ behind) legal.possible

module _ (stay : EntriesStay) (apart : FlightsStayApart) (opening later : List Entry) (log : List Turn)
    (legal : IsLegalLog opening log later) (key : List PlainKeyAtom) where
  -- what a flight keeps decides its key
  decides_its_key : (seat seen place : ℕ) (e : Entry) → HasFlown log seat key seen (kept seat place e) → Decides e key
  decides_its_key seat seen place e flown =
      let front : List Turn = flown.before ++ begun seat key seen ∷ flown.between in
      let flight : Flight = record { seat = seat; key = key } in
      let parts = came opening later front flown.behind (kept seat place e)
      (subst (λ (l : List Turn). IsLegalLog opening l later) flown.parts legal) in
      let flies : Contains (replayed (start opening) front).flights flight =
      flies_on (start opening) flown.before flown.between seat seen key flown.alone in
      keeps_for (replayed (start opening) front)
      (apart opening (entries_after opening front) front (record { possible = parts.0; leads = refl }))
      seat place key e (flies.0, flight, flies.1, flies.2, refl) parts.1.0

  -- behind its beginning no other flight on the key begins
  none_behind : (seat other seen also place : ℕ) (e : Entry) (one : HasFlown log seat key seen (kept seat place e))
      (front rest : List Turn) → log ≡ front ++ begun other key also ∷ rest
      → Before one.before (begun seat key seen) (one.between ++ kept seat place e ∷ one.behind) front
      (begun other key also) rest → ⊥
  none_behind seat other seen also place e one front rest is before =
      let s : CoreState = replayed (start opening) front in
      let parts = came opening later front rest (begun other key also)
      (subst (λ (l : List Turn). IsLegalLog opening l later) is legal) in
      let may : MayBegin s other key also = parts.1.0 in
      elim (two_places one.between before.between (kept seat place e) (begun other key also) one.behind rest
      before.rest_is) [
        | inl here ↦ let same : kept seat place e ≡ begun other key also = here.1 in absurd (cc)
        | inr (inl ended) ↦
            let flown : List Turn = one.before ++ begun seat key seen ∷ one.between in
            let ends : List Turn = flown ++ kept seat place e ∷ [] in
            let front_is : front ≡ ends ++ ended.between =
            before.later_is
            ∙ (ap (λ (l : List Turn). one.before ++ begun seat key seen ∷ l) ended.later_is
            ∙ regrouped one.before one.between ended.between (begun seat key seen) (kept seat place e)) in
            let goes = stay opening s.entries ends ended.between (record {
              possible = subst (IsPossible (start opening)) front_is parts.0;
              leads = ap (entries_after opening) (sym front_is);
            }) in
            let there : Contains (entries_after opening ends) e = kept_there (start opening) flown seat place e in
            let has : Contains s.entries e = still_there (entries_after opening ends) s.entries e goes there in
            All-contains (λ (d : Entry). ¬ Decides d key) s.entries e may.undecided has
            (decides_its_key seat seen place e one)
        | inr (inr still) ↦
            let flight : Flight = record { seat = seat; key = key } in
            let others : All (λ turn. seat_of turn ≢ seat) before.between =
            front_of_all (λ (turn : Turn). seat_of turn ≢ seat) before.between (begun other key also ∷ still.between)
            (subst (All (λ (turn : Turn). seat_of turn ≢ seat)) still.later_is one.alone) in
            let has : Contains s.flights flight =
            flies_in (start opening) front one.before before.between seat seen key before.later_is others in
            All-contains (λ (f : Flight). f.key ≢ key) s.flights flight may.free_key has refl
      ]

pub one_of_a_key : EntriesStay → FlightsStayApart → (opening later : List Entry) (log : List Turn)
    → IsLegalLog opening log later → KeepsOneOfAKey log
one_of_a_key stay apart opening later log legal key seat other seen also place at e f one two =
    let one_at : log ≡ one.before ++ begun seat key seen ∷ (one.between ++ kept seat place e ∷ one.behind) =
    one.parts ∙ append_assoc one.before (begun seat key seen ∷ one.between) (kept seat place e ∷ one.behind) in
    let two_at : log ≡ two.before ++ begun other key also ∷ (two.between ++ kept other at f ∷ two.behind) =
    two.parts ∙ append_assoc two.before (begun other key also ∷ two.between) (kept other at f ∷ two.behind) in
    elim (two_places one.before two.before (begun seat key seen) (begun other key also)
    (one.between ++ kept seat place e ∷ one.behind) (two.between ++ kept other at f ∷ two.behind)
    (sym one_at ∙ two_at)) [
      | inl here ↦ here.0
      | inr (inl before) ↦
          absurd (none_behind stay apart opening later log legal key seat other seen also place e one two.before
          (two.between ++ kept other at f ∷ two.behind) two_at before)
      | inr (inr before) ↦
          absurd (none_behind stay apart opening later log legal key other seat also seen at f two one.before
          (one.between ++ kept seat place e ∷ one.behind) one_at before)
    ]
