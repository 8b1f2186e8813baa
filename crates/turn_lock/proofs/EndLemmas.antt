-- The rule as a lock is made, and what it tells the seat that has all shares.
use Rattle.std.proofs.Common.{◌≡◌, ◌≢◌, ◌⊎◌, ℕ, zero, suc, ◌+◌, ◌<◌, ◌≤◌, ◌==◌, Bool, cond}
use Rattle.std.proofs.Common.{List, [], ◌∷◌, ◌++◌, length, Option, Some, None, IfSome, IsSome, All}
use Rattle.std.proofs.Common.{arith, refl, sym, ap, subst, ◌∙◌, inl, inr, ⊎_elim, append-nil, eq-eqb, true≢false}
use Rattle.std.proofs.lemmas.List.Elements.{All-head, All-tail, filter-append}
use mathlib.Core.Option as maybe
use mathlib.Core.Option.{some, some-injective, some-ne-none}
use lib.ListN.{get_elem?}
use Rattle.atomic_table.specs.Table.{Me, Final, Seen, opening}
use Rattle.turn_lock.specs.declared.view.View.{View}
use Rattle.turn_lock.specs.declared.view.Stage.TheVariants.{Idle}
use Rattle.turn_lock.specs.Totals.{Begins, one_at, times, total}
use Rattle.turn_lock.specs.Views.{Owns, all_numbers, first_view, numbers_from, of_number, number_count, share_count}
use Rattle.turn_lock.specs.Views.{tickets, tickets_at, turns}
use Rattle.turn_lock.specs.Rule.{Fits, IsHome, IsLocked}
use Rattle.turn_lock.specs.Seats.{IsSeat}
use Rattle.turn_lock.proofs.SumLemmas.{gap, hits, misses, times_few, total_less}
use Rattle.turn_lock.proofs.FrontLemmas.{nothing_more}
use Rattle.turn_lock.proofs.RuleLemmas.{turn_waits}

long_from : (n m : ℕ) → length (numbers_from n m) ≡ m
long_from n zero = refl
long_from n (suc m) = let rest = long_from (suc n) m in omega (arith, rest)

none_from : (k n m : ℕ) → (k < n) ⊎ (n + m ≤ k) → times k (numbers_from n m) ≡ 0
none_from k n zero out = refl
none_from k n (suc m) (inl low) = let rest = none_from k (suc n) m (inl (omega (arith, low))) in
    let miss = misses n k (λ e. absurd (omega (arith, e, low))) in omega (arith, rest, miss)
none_from k n (suc m) (inr high) = let rest = none_from k (suc n) m (inr (omega (arith, high))) in
    let miss = misses n k (λ e. absurd (omega (arith, e, high))) in omega (arith, rest, miss)

once_step : (k n m : ℕ) → n ≤ k → k < n + suc m → Dec (n ≡ k) → (suc n ≤ k → times k (numbers_from (suc n) m) ≡ 1)
    → one_at k n + times k (numbers_from (suc n) m) ≡ 1
once_step k n m low high (yes e) more = let hit = hits n k e in
    let rest = none_from k (suc n) m (inl (let l : k < suc n = omega (arith, e) in l)) in omega (arith, hit, rest)
once_step k n m low high (no ne) more = let miss = misses n k ne in
    let rest = more (above ne) in omega (arith, miss, rest)
  where
    above : n ≢ k → suc n ≤ k
    above ne = omega (arith, low, ne)

once_from : (k n m : ℕ) → n ≤ k → k < n + m → times k (numbers_from n m) ≡ 1
once_from k n zero low high = absurd (omega (arith, low, high))
once_from k n (suc m) low high = once_step k n m low high (native.Mathlib.Decide.ℕ_discrete n k)
    (λ more. once_from k (suc n) m more (let l : k < suc n + m = omega (arith, high) in l))

pub all_long : length all_numbers ≡ 65
unfolding all_numbers
all_long = long_from 0 65

all_once : (k : ℕ) → k < 65 → times k all_numbers ≡ 1
unfolding all_numbers
all_once k low = once_from k 0 65 (omega arith) low

all_none : (k : ℕ) → 65 ≤ k → times k all_numbers ≡ 0
unfolding all_numbers
all_none k high = none_from k 0 65 (inr high)

-- the first seat is at rest
pub first_rests : {T E O : Type 0} (of : O) → IsSeat {T = T} {E = E} 65 (first_view of, [])
first_rests of = record {
  some_share = omega arith;
  shares_are = sym all_long;
  none_apart = refl;
  has_origin = refl;
  no_ticket = refl;
  hand = refl;
}

module _ {T E O : Type 0} (origin : T → O) (events : T → List E) (names : E → ℕ) (of : O) where
  pub opens : (value : T) → events value ≡ [] → origin value ≡ of
      → IsLocked origin events names of (opening (0 ∷ 0 ∷ 0 ∷ []) (Some value ∷ []) (first_view of))
  opens value none same = record {
    log = [];
    served = 0;
    words = refl;
    home = inl (record { none_out = refl; value = value; is_there = refl; origin_is = same; log_is = none });
    shares = (let l = all_long in omega (arith, l));
    once = λ k low. (let l = all_once k low in omega (arith, l));
    no_other = λ k high. (let l = all_none k high in omega (arith, l));
    apart = λ k. omega arith;
    behind = λ k low. refl;
    ahead = λ k high. refl;
    named = λ k d low. absurd (omega (arith, low));
    each = λ j v at. first j v at;
  }
    where
      fits : Fits names of [] 0 (first_view of)
      fits = record {
        seen = ([], refl);
        shorter = (
          [],
          refl,
        );
        own = λ k owns. refl;
        same = refl;
        turn = tt;
        few = omega arith;
      }

      first : (j : ℕ) (v : View E O) → get_elem? (first_view of ∷ []) j ≡ some v → Fits names of [] 0 v
      first zero v at = subst (λ (x : View E O). Fits names of [] 0 x) (some-injective (first_view of) v at) fits
      first (suc j) v at = absurd (some-ne-none v (sym at))

  rest_named : (P : E → Type 0) (xs ys : List E) → All P (xs ++ ys) → All P ys
  rest_named P [] ys all = all
  rest_named P (x ∷ xs) ys all = rest_named P xs ys (All-tail P x (xs ++ ys) all)

  -- a log whose events of each number were seen was seen whole
  all_seen : (seen log : List E) → Begins seen log → All (λ e. names e < 65) log
      → ((k : ℕ) → k < 65 → of_number names k log ≡ of_number names k seen) → log ≡ seen
  all_seen seen log begins named own = by_rest begins.0 begins.1
    where
      by_rest : (rest : List E) → seen ++ rest ≡ log → log ≡ seen
      by_rest [] e = sym e ∙ append-nil seen
      by_rest (x ∷ xs) e = absurd (not_nothing (names x) x xs refl
          (nothing_more (of_number names (names x) seen) (of_number names (names x) (x ∷ xs))
          (sym (filter-append (λ y. names y == names x) seen (x ∷ xs)) ∙ ap (of_number names (names x)) e
          ∙ own (names x) (All-head (λ y. names y < 65) x xs (rest_named (λ y. names y < 65) seen (x ∷ xs)
          (subst (λ (l : List E). All (λ y. names y < 65) l) (sym e) named))))))
        where
          not_nothing : (k : ℕ) (y : E) (ys : List E) → names y ≡ k → of_number names k (y ∷ ys) ≡ [] → ⊥
          not_nothing k y ys same none = let l : length (cond (names y == k) (y ∷ of_number names k ys)
              (of_number names k ys)) ≡ 0 = ap (λ (l : List E). length l) none in
              let m : suc (length (of_number names k ys)) ≡ 0 =
              subst (λ (b : Bool). length (cond b (y ∷ of_number names k ys) (of_number names k ys))
              ≡ 0) (eq-eqb (names y) k same) l in
              absurd (omega (arith, m))

  -- what the seat with all shares finds in the slot
  pub closes : (id : ℕ) (v : View E O) (ws : List ℕ) (xs : List (Option T)) (slot : Option T)
      → Final (Seen (IsLocked origin events names of) id v) ws xs → v.stage ≡ Idle → length v.numbers ≡ 65
      → IsSome v.origin → get_elem? xs 0 ≡ some slot
      → (value : T) × (slot ≡ Some value) × (v.origin ≡ Some (origin value)) × (events value ≡ v.seen)
      × ((k : ℕ) → k < 65 → Owns v k)
  closes id v ws xs slot (s, (r, at), words, homes, there) idle whole known found =
      ⊎_elim at_home (λ o. absurd (let one = o.one_out in let none = no_turns in omega (arith, one, none))) r.home
    where
      no_waits : total tickets s.views ≡ 0
      no_waits = let g = gap tickets share_count s.views id v
          (λ j u here. (r.each j u here).few) at in
          let all = r.shares in let none : tickets_at v.stage ≡ 0 = ap tickets_at idle in omega (
            arith,
            g,
            all,
            none,
            whole,
          )

      no_turns : total turns s.views ≡ 0
      no_turns = let l = total_less turns tickets s.views
          (λ j u here. turn_waits u.stage) in
          let none = no_waits in omega (arith, l, none)

      owns : (k : ℕ) → k < 65 → Owns v k
      owns k low = let g = gap (number_count k) share_count s.views id v
          (λ j u here. times_few k u.numbers) at in
          let all = r.shares in let one = r.once k low in omega (arith, g, all, one, whole)

      fits : Fits names of r.log r.served v
      fits = r.each id v at

      known_origin : (o : Option O) → IfSome o (λ x. x ≡ of) → IsSome o → o ≡ Some of
      known_origin None is there = absurd (true≢false (sym there))
      known_origin (Some o) is there = ap Some is

      at_home : IsHome origin events names of r.log s.homes (total turns s.views)
          → (value : T) × (slot ≡ Some value) × (v.origin ≡ Some (origin value)) × (events value ≡ v.seen)
          × ((k : ℕ) → k < 65 → Owns v k)
      at_home h = (
        h.value,
        some-injective slot (Some h.value) (sym found ∙ there 0 (Some h.value) (ap
            (λ (l : List (maybe.Option (Option T))). get_elem? l 0) h.is_there)),
        known_origin v.origin fits.same known ∙ ap Some (sym h.origin_is),
        h.log_is ∙ all_seen v.seen r.log fits.seen r.named (λ k low. fits.own k (owns k low)),
        owns,
      )

  -- the value in a slot
  abbrev in_slot : T → Option T → T
  in_slot d None = d
  in_slot d (Some x) = x

  -- what is true of the value that was found there
  pub closes_with : (id : ℕ) (v : View E O) (ws : List ℕ) (xs : List (Option T)) (slot : Option T) (value : T)
      → Final (Seen (IsLocked origin events names of) id v) ws xs → v.stage ≡ Idle → length v.numbers ≡ 65
      → IsSome v.origin → get_elem? xs 0 ≡ some slot → slot ≡ Some value
      → (v.origin ≡ Some (origin value)) × (events value ≡ v.seen) × ((k : ℕ) → k < 65 → Owns v k)
  closes_with id v ws xs slot value final idle whole known found is =
      let c = closes id v ws xs slot final idle whole known found in
      let same : c.0 ≡ value = ap (in_slot value) (sym c.1 ∙ is) in
      (c.2 ∙ ap (λ (x : T). Some (origin x)) same, ap events (sym same) ∙ c.3, c.4)

-- the rule as the table is made
pub opens_as : {T E O : Type 0} (origin : T → O) (events : T → List E) (names : E → ℕ) (first value : T)
    (slots before : List (Option T)) → first ≡ value → events value ≡ [] → before ≡ []
    → slots ≡ before ++ Some value ∷ []
    → IsLocked origin events names (origin first) (opening (0 ∷ 0 ∷ 0 ∷ []) slots (first_view (origin first)))
opens_as {T} origin events names first value slots before same none empty is =
    subst (λ (l : List (Option T)). IsLocked origin events names (origin first) (opening (0 ∷ 0 ∷ 0 ∷ []) l
    (first_view (origin first))))
    (sym (is ∙ ap (λ (l : List (Option T)). l ++ Some value ∷ []) empty))
    (opens origin events names (origin first) value none (ap origin (sym same)))

-- a seat at rest, by what its view is
pub rests_as : {T E O : Type 0} (of : O) (m : Me (Option T) (View E O)) → m ≡ (first_view of, []) → IsSeat 65 m
rests_as {T} {E} {O} of m is = subst (λ (x : Me (Option T) (View E O)). IsSeat 65 x) (sym is) (first_rests of)
