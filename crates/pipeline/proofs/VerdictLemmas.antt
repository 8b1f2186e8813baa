-- Right verdicts, from the replies to the first slices.
use Rattle.std.proofs.Common.{◌≡◌, ℕ, ◌<◌, ◌≤◌, ℤ, Bool, true, false, cond, nat_lt, Option, Some, None}
use Rattle.std.proofs.Common.{IsSomeAnd, List, [], ◌∷◌, length, get_or, slice_get, take, arith, refl, sym, subst, ap}
use Rattle.std.proofs.Common.{◌∙◌}
use Rattle.std.specs.List.{All, AllZip, position, position_or_len}
use Rattle.std.proofs.lemmas.Bool.{ltb-false}
use Rattle.std.proofs.lemmas.List.{get_or-map, get_or-take, get_or_default, length-map, length-take, length-take-le}
use Rattle.std.proofs.lemmas.List.{take_all}
use Rattle.std.proofs.lemmas.List.Quantifiers.{position-Some}
use Rattle.std.proofs.lemmas.List.Sums.{fails_before_first}
use Rattle.std.proofs.lemmas.Option.{get_or_from_slice_get, slice_get-get_or, slice_get_within}
use Rattle.std.proofs.lemmas.Slice.Zip.{AllZip-long}
use Rattle.lin_model.specs.Lists.{AllZip-at, IsSomeAnd-found}
use Rattle.lin_model.specs.KeyAtom.{PlainKeyAtom}
use Rattle.lin_model.specs.Truth.{AtomHolds}
use Rattle.lin_model.specs.declared.atom.Atom.{Atom}
use Rattle.lin_model.specs.Conditions.{PlainCondition, Holds, IsSatisfiable}
use Rattle.canoniser.specs.Solutions.{IsFalse, IsFalseAt}
use Rattle.refutation.specs.Reading.{HasNoPoint}
use Rattle.cert_check.specs.declared.reply.Reply.{Reply}
use Rattle.cert_check.specs.Decides.{IsFirst}
use Rattle.cert_check.specs.Laws.{SettledBy}
use Rattle.cert_check.specs.Replies.{has_core, is_spent}
use Rattle.pipeline.specs.declared.answers.Verdict.TheVariants.{Sat, UnsatSlice, Unknown}
use Rattle.pipeline.specs.declared.slice_keys.SliceKey.{SliceKey}
use Rattle.pipeline.specs.Answers.{IsUnsatAtom, NoneHasCore}
use Rattle.pipeline.specs.Keyed.{IsKeyed, AreKeyed, HasLeastFalse}
use Rattle.pipeline.specs.Asking.{AreSettled, EndsAtCore, HasPoint, IsPlaced, IsRightFor, keys_to_ask}
use Rattle.pipeline.proofs.ClassLemmas.{unsat_by_slice}
use Rattle.pipeline.proofs.PlacedLemmas.{all_given, points_found}
use Rattle.pipeline.proofs.PointLemmas.{reply_core}

-- ---- the first that passes a test

-- what is known where none passes
pub none_passes : {X : Type 0} (p : X → Bool) (xs : List X) → position p xs ≡ None → All (λ x. p x ≡ false) xs
none_passes p xs none k d lt = by_test (nat_lt (position_or_len p xs) (length xs)) refl none
  where
    by_test : (b : Bool) → nat_lt (position_or_len p xs) (length xs) ≡ b
        → cond b (Some (position_or_len p xs)) None ≡ None → p (get_or xs k d) ≡ false
    by_test true within there = absurd (cc)
    by_test false past there =
        let end = ltb-false (position_or_len p xs) (length xs) past in
        fails_before_first p xs k d (omega (arith, end, lt))

-- what is known of the first that passes
pub record IsFoundAt {X : Type 0} (p : X → Bool) (xs : List X) (i : ℕ) : Type 0 where
  pub within : i < length xs
  pub here : IsSomeAnd (slice_get xs i) (λ x. p x ≡ true)
  pub at : (d : X) → p (get_or xs i d) ≡ true
  pub before : All (λ x. p x ≡ false) (take i xs)

pub first_passes : {X : Type 0} (p : X → Bool) (xs : List X) (i : ℕ) → position p xs ≡ Some i → IsFoundAt p xs i
first_passes p [] i found = absurd (cc)
first_passes {X} p (x ∷ xs) i found =
    let first = position-Some p (x ∷ xs) i x found in
    record {
      within = first.0;
      here = IsSomeAnd-found (slice_get (x ∷ xs) i) (λ y. p y ≡ true) (get_or (x ∷ xs) i x)
          (slice_get-get_or (x ∷ xs) i x first.0) first.1;
      at = λ d. (position-Some p (x ∷ xs) i d found).1;
      before = λ k d within.
          let low : k < i = omega (arith, within, length-take i (x ∷ xs)) in
          subst (λ (y : X). p y ≡ false) (sym (get_or-take i (x ∷ xs) k d low))
          ((position-Some p (x ∷ xs) i d found).2 k low);
    }

-- so it is the first
first_of : {X : Type 0} (p : X → Bool) (xs : List X) (i : ℕ) → IsFoundAt p xs i
    → IsFirst (λ x. p x ≡ true) xs (Some i)
first_of p xs i found = record {
  here = found.here;
  before = λ k d lt passes.
      let fails = found.before k d lt in absurd (cc);
}

-- ---- the verdicts

-- what settles a slice that was asked
settled_at : (slices : List SliceKey) (replies : List Reply) (i : ℕ) (slice : SliceKey) (reply : Reply)
    → length replies ≤ length slices → AreSettled slices replies → i < length replies
    → slice ≡ get_or slices i slice → SettledBy slice.key (get_or replies i reply)
settled_at slices replies i slice reply few settled lt is =
    let count : length (keys_to_ask slices) ≡ length slices = length-map slices (λ (s : SliceKey). s.key) in
    let enough : length replies ≤ length (keys_to_ask slices) = omega arith in
    let within : i < length slices = omega arith in
    let asked : i < length (take (length replies) (keys_to_ask slices)) =
    omega (arith, length-take-le (length replies) (keys_to_ask slices) enough) in
    let key : get_or (take (length replies) (keys_to_ask slices)) i [] ≡ slice.key =
    get_or-take (length replies) (keys_to_ask slices) i [] lt
    ∙ (get_or-map (λ (s : SliceKey). s.key) slices i slice [] within ∙ ap (λ (s : SliceKey). s.key) (sym is)) in
    subst (λ (k : List PlainKeyAtom). SettledBy k (get_or replies i reply)) key
    (AllZip-at SettledBy (take (length replies) (keys_to_ask slices)) replies i [] reply settled asked)

no_key : SliceKey
no_key = record { key = []; back = [] }

pub right_unsat : (q : PlainCondition) (slices : List SliceKey) (replies : List Reply) (s : ℕ) → AreKeyed q slices
    → EndsAtCore slices replies → AreSettled slices replies → IsFoundAt has_core replies s
    → IsRightFor q slices replies (UnsatSlice s)
right_unsat q slices [] s h ends settled found = absurd (omega (arith, found.within))
right_unsat q slices (r ∷ rest) s h ends settled found =
    let within : s < length slices = omega (arith, found.within, ends.few) in
    let is : get_or slices s no_key ≡ get_or slices s (get_or slices s no_key) =
    get_or_default slices s no_key (get_or slices s no_key) within in
    let by : SettledBy (get_or slices s no_key).key (get_or (r ∷ rest) s r) =
    settled_at slices (r ∷ rest) s (get_or slices s no_key) r ends.few settled found.within is in
    let none : HasNoPoint (get_or slices s no_key).key =
    reply_core (get_or slices s no_key).key (get_or (r ∷ rest) s r) (found.at r) by in
    record {
      keyed = h;
      right = record {
        none_false = h.none_false;
        asked = ends.core_last s found.here;
        before = found.before;
        last = found.here;
        unsatisfiable = unsat_by_slice q slices h s (get_or slices s no_key) within is none;
      };
    }

pub right_unknown : (q : PlainCondition) (slices : List SliceKey) (replies : List Reply) (s : ℕ) → AreKeyed q slices
    → EndsAtCore slices replies → NoneHasCore replies → IsFoundAt is_spent replies s
    → IsRightFor q slices replies (Unknown s)
right_unknown q slices replies s h ends no_core found = record {
  keyed = h;
  right = record {
    none_false = h.none_false;
    asked = ends.all no_core ∙ AllZip-long (IsKeyed q) h.are.classes slices h.each;
    no_core = no_core;
    first = first_of is_spent replies s found;
  };
}

pub right_sat : (q : PlainCondition) (slices : List SliceKey) (replies : List Reply) (values : List ℤ)
    → AreKeyed q slices → Holds q values → AllZip (IsPlaced values) slices replies
    → IsRightFor q slices replies (Sat values)
right_sat q slices replies values h holds placed = record {
  keyed = h;
  right = record {
    none_false = h.none_false;
    holds = holds;
    given = all_given q h.are.classes slices replies values h.each placed;
  };
}

-- where all were asked, none has a core and none is open, each has a point
pub all_found : (slices : List SliceKey) (replies : List Reply) → EndsAtCore slices replies
    → AreSettled slices replies → NoneHasCore replies → All (λ reply. is_spent reply ≡ false) replies
    → AllZip HasPoint slices replies
all_found slices replies ends settled no_core decided =
    let count : length replies ≡ length slices = ends.all no_core in
    let keys : length (keys_to_ask slices) ≤ length replies =
    omega (arith, length-map slices (λ (s : SliceKey). s.key)) in
    points_found slices replies
    (subst (λ (ks : List (List PlainKeyAtom)). AllZip SettledBy ks replies)
    (take_all (length replies) (keys_to_ask slices) keys) settled) no_core decided

-- ---- an atom that no integers satisfy

unsat_by_atom : (q : PlainCondition) (j : ℕ) → IsFalseAt q j → IsSatisfiable q → ⊥
unsat_by_atom q j is_false (values, holds) = of (slice_get q.atoms j) refl is_false
  where
    of : (o : Option Atom) → slice_get q.atoms j ≡ o → IsSomeAnd o IsFalse → ⊥
    of None e k = absurd k
    of (Some atom) e k = k values
        (subst (λ (a : Atom). AtomHolds a values) (get_or_from_slice_get q.atoms j atom atom e)
        (holds.atoms j atom (slice_get_within q.atoms j atom e)))

pub right_unsat_atom : (q : PlainCondition) (j : ℕ) (parts : List Reply) → HasLeastFalse q j → parts ≡ []
    → IsUnsatAtom q j parts
right_unsat_atom q j parts h none = record
    { least = h.least; none_asked = none; unsatisfiable = unsat_by_atom q j h.least.is_false }
