-- Values that are given to the variables of all slices.
use Rattle.std.proofs.Common.{◌≡◌, ℕ, ◌+◌, ◌<◌, ◌≤◌, ℤ, Option, Some, None, IsSomeAnd, List, [], ◌∷◌, ◌++◌}
use Rattle.std.proofs.Common.{length, get_or, take, arith, sym, subst, ◌∙◌, false}
use Rattle.std.specs.List.{All, AllPairs, AllZip, Contains}
use Rattle.std.proofs.lemmas.List.{get_or_default, get_or-take, length-take}
use Rattle.std.proofs.lemmas.List.Elements.{All-cons, All-head, All-nil, All-tail}
use Rattle.lin_model.specs.Conditions.{PlainCondition, Fits, Holds}
use Rattle.lin_model.specs.Terms.{value_at}
use Rattle.slicer.specs.Slices.{PlainSlice}
use Rattle.slicer.specs.Laws.{SlicesPartition}
use Rattle.canoniser.specs.Solutions.{point_of}
use Rattle.cert_check.specs.declared.reply.Reply.{Reply}
use Rattle.cert_check.specs.Laws.{IsPointOf, SettledBy}
use Rattle.cert_check.specs.Replies.{has_core, is_spent, point_in}
use Rattle.pipeline.specs.declared.slice_keys.SliceKey.{SliceKey}
use Rattle.pipeline.specs.Answers.{GivesValues, IsGivenBy, NoneHasCore}
use Rattle.pipeline.specs.Keyed.{IsKeyed, AreKeyed}
use Rattle.pipeline.specs.Asking.{HasPoint, HasWidePoint, IsPlaced, IsWithin, ShareNoVariable, keys_to_ask}
use Rattle.pipeline.proofs.ClassLemmas.{SatisfiesAll, SatisfiesKey, declared_at, sat_by_keys, value_of_point}
use Rattle.pipeline.proofs.KeyedLemmas.{front_more, zip_push}
use Rattle.pipeline.proofs.PointLemmas.{KeyHolds-below, reply_point, some_weaker}

-- ---- which points there are

-- where each reply is settled, none has a core and none is open, each has a point
pub points_found : (slices : List SliceKey) (replies : List Reply) → AllZip SettledBy (keys_to_ask slices) replies
    → NoneHasCore replies → All (λ reply. is_spent reply ≡ false) replies → AllZip HasPoint slices replies
points_found [] [] settled no_core decided = tt
points_found [] (reply ∷ replies) settled no_core decided = absurd settled
points_found (slice ∷ slices) [] settled no_core decided = absurd settled
points_found (slice ∷ slices) (reply ∷ replies) settled no_core decided = (
  reply_point slice.key reply (All-head (λ r. has_core r ≡ false) reply replies no_core)
      (All-head (λ r. is_spent r ≡ false) reply replies decided) settled.0,
  points_found slices replies settled.1 (All-tail (λ r. has_core r ≡ false) reply replies no_core)
      (All-tail (λ r. is_spent r ≡ false) reply replies decided),
)

-- a point of a slice's key has a value for each of its variables
pub points_wide : (q : PlainCondition) (classes : List PlainSlice) (slices : List SliceKey) (replies : List Reply)
    → AllZip (IsKeyed q) classes slices → AllZip HasPoint slices replies → AllZip HasWidePoint slices replies
points_wide q [] [] [] keyed found = tt
points_wide q [] [] (reply ∷ replies) keyed found = absurd found
points_wide q [] (slice ∷ slices) replies keyed found = absurd keyed
points_wide q (s ∷ classes) [] replies keyed found = absurd keyed
points_wide q (s ∷ classes) (slice ∷ slices) [] keyed found = absurd found
points_wide q (s ∷ classes) (slice ∷ slices) (reply ∷ replies) keyed found = (
  some_weaker (IsPointOf slice.key) (λ point. length slice.back ≤ length point) (point_in reply)
      (λ point is. let wide = is.wide in omega (arith, wide, keyed.0.width)) found.0,
  points_wide q classes slices replies keyed.1 found.1,
)

-- the variables of each slice are declared
pub all_within : (q : PlainCondition) (slices : List SliceKey) (n : ℕ) → AreKeyed q slices → n ≡ length q.vars
    → All (IsWithin n) slices
all_within q slices n h is i d lt =
    λ k e low. omega (
      arith,
      is,
      declared_at q slices h i (get_or slices i d) lt
          (get_or_default slices i d (get_or slices i d) lt) k e low,
    )

-- ---- one slice more

-- what a slice was given stays, where another slice is given values
slice_stays : (old new : List ℤ) (one other : SliceKey) (reply : Reply) → ShareNoVariable one other
    → ((w : ℕ) → (Contains other.back w → ⊥) → value_at new w ≡ value_at old w) → IsPlaced old one reply
    → IsPlaced new one reply
slice_stays old new one other reply apart kept placed =
    some_weaker (GivesValues one.back old) (GivesValues one.back new) (point_in reply)
    (λ point gives. record {
      wide = gives.wide;
      each = λ v lt. kept (get_or one.back v 0)
          (λ has. apart (get_or one.back v 0) (v, lt, get_or_default one.back v (get_or one.back v 0) 0 lt) has)
          ∙ gives.each v lt;
    }) placed

slices_stay : (old new : List ℤ) (slices : List SliceKey) (replies : List Reply) (other : SliceKey)
    → All (λ one. ShareNoVariable one other) slices
    → ((w : ℕ) → (Contains other.back w → ⊥) → value_at new w ≡ value_at old w)
    → AllZip (IsPlaced old) slices replies → AllZip (IsPlaced new) slices replies
slices_stay old new [] [] other apart kept placed = tt
slices_stay old new [] (reply ∷ replies) other apart kept placed = absurd placed
slices_stay old new (one ∷ slices) [] other apart kept placed = absurd placed
slices_stay old new (one ∷ slices) (reply ∷ replies) other apart kept placed = (
  slice_stays old new one other reply (All-head (λ s. ShareNoVariable s other) one slices apart) kept placed.0,
  slices_stay old new slices replies other (All-tail (λ s. ShareNoVariable s other) one slices apart) kept placed.1,
)

-- the slices before one have no variable in common with it
before_apart : (slices : List SliceKey) (i : ℕ) (slice : SliceKey) → AllPairs ShareNoVariable slices
    → i < length slices → slice ≡ get_or slices i slice → All (λ one. ShareNoVariable one slice) (take i slices)
before_apart slices i slice apart lt is k d within =
    let before : k < i = omega (arith, within, length-take i slices) in
    subst (λ (one : SliceKey). ShareNoVariable one slice) (sym (get_or-take i slices k d before))
    (subst (λ (other : SliceKey). ShareNoVariable (get_or slices k d) other)
    (get_or_default slices i d slice lt ∙ sym is) (apart k i d before lt))

pub placed_next : (old new : List ℤ) (slices : List SliceKey) (replies : List Reply) (i : ℕ) (slice : SliceKey)
    (reply : Reply) → AllPairs ShareNoVariable slices → i < length slices → slice ≡ get_or slices i slice
    → i < length replies → reply ≡ get_or replies i reply → AllZip (IsPlaced old) (take i slices) (take i replies)
    → IsPlaced new slice reply → ((w : ℕ) → (Contains slice.back w → ⊥) → value_at new w ≡ value_at old w)
    → AllZip (IsPlaced new) (take (i + 1) slices) (take (i + 1) replies)
placed_next old new slices replies i slice reply apart lt is within read before placed kept =
    subst (λ (ss : List SliceKey). AllZip (IsPlaced new) ss (take (i + 1) replies))
    (sym (front_more slices i slice lt is))
    (subst (λ (rs : List Reply). AllZip (IsPlaced new) (take i slices ++ slice ∷ []) rs)
    (sym (front_more replies i reply within read))
    (zip_push (IsPlaced new) (take i slices) (take i replies) slice reply
    (slices_stay old new (take i slices) (take i replies) slice (before_apart slices i slice apart lt is) kept before)
    placed))

-- ---- values for all slices

-- the values of a slice's variables satisfy its key
slice_satisfied : (q : PlainCondition) (s : PlainSlice) (slice : SliceKey) (values : List ℤ) (o : Option (List ℤ))
    → IsKeyed q s slice → IsSomeAnd o (IsPointOf slice.key) → IsSomeAnd o (GivesValues slice.back values)
    → SatisfiesKey values slice
slice_satisfied q s slice values None keyed found placed = absurd found
slice_satisfied q s slice values (Some point) keyed found placed =
    KeyHolds-below slice.key point (point_of slice.back values)
    (λ v lt. let low : v < length slice.back = omega (arith, lt, keyed.width) in
    sym (value_of_point slice.back values v low ∙ placed.each v low)) found.holds

all_satisfied : (q : PlainCondition) (classes : List PlainSlice) (slices : List SliceKey) (replies : List Reply)
    (values : List ℤ) → AllZip (IsKeyed q) classes slices → AllZip HasPoint slices replies
    → AllZip (IsPlaced values) slices replies → SatisfiesAll slices values
all_satisfied q [] [] replies values keyed found placed = All-nil (SatisfiesKey values)
all_satisfied q [] (slice ∷ slices) replies values keyed found placed = absurd keyed
all_satisfied q (s ∷ classes) [] replies values keyed found placed = absurd keyed
all_satisfied q (s ∷ classes) (slice ∷ slices) [] values keyed found placed = absurd found
all_satisfied q (s ∷ classes) (slice ∷ slices) (reply ∷ replies) values keyed found placed =
    All-cons (SatisfiesKey values) slice slices
    (slice_satisfied q s slice values (point_in reply) keyed.0 found.0 placed.0)
    (all_satisfied q classes slices replies values keyed.1 found.1 placed.1)

-- so the query holds
pub values_hold : (q : PlainCondition) (slices : List SliceKey) (replies : List Reply) (values : List ℤ)
    (h : AreKeyed q slices) → SlicesPartition → Fits q.vars q.atoms → AllZip HasPoint slices replies
    → AllZip (IsPlaced values) slices replies → length values ≡ length q.vars → Holds q values
values_hold q slices replies values h partition fits found placed long =
    sat_by_keys q slices h values partition fits
    (all_satisfied q h.are.classes slices replies values h.each found placed) long

-- and each slice has its values from its reply
pub all_given : (q : PlainCondition) (classes : List PlainSlice) (slices : List SliceKey) (replies : List Reply)
    (values : List ℤ) → AllZip (IsKeyed q) classes slices → AllZip (IsPlaced values) slices replies
    → AllZip (IsGivenBy q values) classes replies
all_given q [] [] [] values keyed placed = tt
all_given q [] [] (reply ∷ replies) values keyed placed = absurd placed
all_given q [] (slice ∷ slices) replies values keyed placed = absurd keyed
all_given q (s ∷ classes) [] replies values keyed placed = absurd keyed
all_given q (s ∷ classes) (slice ∷ slices) [] values keyed placed = absurd placed
all_given q (s ∷ classes) (slice ∷ slices) (reply ∷ replies) values keyed placed = (
  subst (λ (order : List ℕ). IsSomeAnd (point_in reply) (GivesValues order values)) keyed.0.numbered placed.0,
  all_given q classes slices replies values keyed.1 placed.1,
)
