-- From what the slices come to, to their keys.
use Rattle.std.proofs.Common.{◌≡◌, ◌↔◌, ℕ, zero, suc, ◌<◌, ◌≤◌, ℤ, Bool, true, false, cond, nat_lt, Option, Some, None}
use Rattle.std.proofs.Common.{IsSomeAnd, List, [], ◌∷◌, ◌++◌, length, get_or, slice_get, arith, refl, sym, subst, ap}
use Rattle.std.proofs.Common.{◌∙◌}
use Rattle.std.specs.List.{All, AllPairs, AllZip, Any, Contains, filter_map}
use Rattle.std.proofs.lemmas.Bool.{ltb-false}
use Rattle.std.proofs.lemmas.Slice.Zip.{AllZip-long}
use Rattle.std.proofs.lemmas.List.Elements.{All-contains, All-head, All-tail}
use Rattle.lin_model.specs.Truth.{AtomHolds, IsAssignment}
use Rattle.lin_model.specs.Conditions.{PlainCondition, Fits}
use Rattle.lin_model.specs.declared.atom.Atom.{Atom}
use Rattle.lin_model.specs.KeyAtom.{PlainKeyAtom}
use Rattle.lin_model.specs.Key.{KeyHolds}
use Rattle.lin_model.specs.Lists.{Contains-filter_map, nil_from_none, Found-at, within_from_IsSomeAnd, AllZip-at}
use Rattle.slicer.specs.Slices.{PlainSlice, AreSlices, AreClasses, IsSliceOf, least, IsVariableFree, IsFront}
use Rattle.slicer.specs.Names.{NamesNothingAt, atom_vars}
use Rattle.slicer.specs.Linked.{alone}
use Rattle.slicer.specs.Laws.{SlicesPartition}
use Rattle.canoniser.specs.declared.canonical.Canonical.{Canonical}
use Rattle.canoniser.specs.declared.canonical.Canonical.TheVariants.{False, Key}
use Rattle.canoniser.specs.Facts.{no_key}
use Rattle.canoniser.specs.Solutions.{IsFalse, IsFalseAt, SliceHolds, point_of}
use Rattle.canoniser.specs.Answers.{Canonises}
use Rattle.pipeline.specs.declared.slice_keys.SliceKey.{SliceKey}
use Rattle.pipeline.specs.Answers.{NoneIsFalse, IsLeastFalse}
use Rattle.pipeline.specs.Keyed.{HoldsAt, IsKeyed, AreKeyed, KeepsKeyLimits, HasKey, IsNotBelow}
use Rattle.pipeline.specs.Keyed.{IsLeastFalseAmong, keys_in}

-- ---- lists

-- what holds of all that is given holds of what an element gives
pub All-filter_map : {X Y : Type 0} (h : X → Option Y) (P : Y → Type 0) (xs : List X) (x : X) (y : Y)
    → All P (filter_map h xs) → Contains xs x → h x ≡ Some y → P y
All-filter_map h P xs x y all has is = All-contains P (filter_map h xs) y all (Contains-filter_map h xs x y has is)

-- ---- atoms that no integers satisfy

-- an atom of a slice that comes to a number no less isn't one
none_before : (q : PlainCondition) (s : PlainSlice) (c : Canonical) (i j : ℕ) → Canonises q s c → IsNotBelow j c
    → Contains s.atoms i → i < j → IsFalseAt q i → ⊥
none_before q s (False n) i j h below has lt bad = h.first i has (omega (arith, below, lt)) bad
none_before q s (Key key back) i j h below has lt bad = h.none_false i has bad

none_in_key : (q : PlainCondition) (s : PlainSlice) (c : Canonical) (i : ℕ) → Canonises q s c → HasKey c
    → Contains s.atoms i → IsFalseAt q i → ⊥
none_in_key q s (False n) i h is has bad = absurd is
none_in_key q s (Key key back) i h is has bad = h.none_false i has bad

-- a slice that has the atom, and what it comes to
pub record Found (q : PlainCondition) (slices : List PlainSlice) (cs : List Canonical) (i : ℕ) : Type 0 where
  pub slice : PlainSlice
  pub place : ℕ
  pub within : place < length cs
  pub has : Contains slice.atoms i
  pub each : (e : Canonical) → Canonises q slice (get_or cs place e)

find_slice : (q : PlainCondition) (slices : List PlainSlice) (cs : List Canonical) (i : ℕ) → SlicesPartition
    → Fits q.vars q.atoms → AreSlices q slices → AllZip (Canonises q) slices cs → i < length q.atoms
    → Found q slices cs i
find_slice q slices cs i law fits are zip lt = of ((law q slices fits.in_range are).each_atom i lt)
  where
    of : Any (λ slice. Contains slice.atoms i) slices → Found q slices cs i
    of (k, s, within, is, has) = record {
      slice = s;
      place = k;
      within = omega (arith, within, AllZip-long (Canonises q) slices cs zip);
      has = has;
      each =
          λ e. subst (λ (x : PlainSlice). Canonises q x (get_or cs k e)) is
          (AllZip-at (Canonises q) slices cs k s e zip within);
    }

-- there is an atom of this number
has_number : (q : PlainCondition) (i : ℕ) → IsFalseAt q i → i < length q.atoms
has_number q i bad = within_from_IsSomeAnd q.atoms IsFalse i bad

pub least_is_false : (q : PlainCondition) (slices : List PlainSlice) (cs : List Canonical) (j : ℕ) → SlicesPartition
    → Fits q.vars q.atoms → AreSlices q slices → AllZip (Canonises q) slices cs → IsLeastFalseAmong cs j
    → IsLeastFalse q j
least_is_false q slices cs j law fits are zip false_j = record {
  is_false = told false_j.one;
  least = λ i lt bad. let f = find_slice q slices cs i law fits are zip (has_number q i bad) in
      none_before q f.slice (get_or cs f.place (False j)) i j (f.each (False j))
      (false_j.least f.place (False j) f.within) f.has lt bad;
}
  where
    told : Contains cs (False j) → IsFalseAt q j
    told (k, lt, is) = let within : k < length slices =
        omega (arith, lt, AllZip-long (Canonises q) slices cs zip) in
        (subst (Canonises q (get_or slices k (record { vars = []; atoms = [] }))) is
        (AllZip-at (Canonises q) slices cs k (record { vars = []; atoms = [] }) (False j) zip within)).is_false

none_is_false : (q : PlainCondition) (slices : List PlainSlice) (cs : List Canonical) → SlicesPartition
    → Fits q.vars q.atoms → AreSlices q slices → AllZip (Canonises q) slices cs → All HasKey cs → NoneIsFalse q
none_is_false q slices cs law fits are zip keys i bad =
    let f = find_slice q slices cs i law fits are zip (has_number q i bad) in
    none_in_key q f.slice (get_or cs f.place (False 0)) i (f.each (False 0))
    (keys f.place (False 0) f.within) f.has bad

-- ---- slices with variables

above_zero : (n : ℕ) → nat_lt 0 (suc n) ≡ true
above_zero n = by_test (nat_lt 0 (suc n)) refl
  where
    by_test : (t : Bool) → nat_lt 0 (suc n) ≡ t → nat_lt 0 (suc n) ≡ true
    by_test true e = e
    by_test false e = absurd (omega (arith, ltb-false 0 (suc n) e))

some_width : (xs ys : List ℕ) → ((v : ℕ) → Contains xs v ↔ Contains ys v) → 0 < length ys → nat_lt 0 (length xs) ≡ true
some_width [] [] same lt = absurd (omega arith)
some_width [] (y ∷ ys) same lt = absurd (no_such ((same y).1 (0, omega arith, refl)))
  where
    no_such : Contains [] y → ⊥
    no_such (k, l, is) = omega arith
some_width (x ∷ xs) ys same lt = above_zero (length xs)

no_width : (xs : List ℕ) → ((v : ℕ) → Contains xs v ↔ Contains [] v) → xs ≡ []
no_width xs same = nil_from_none xs (λ v has. no_such v ((same v).0 has))
  where
    no_such : (v : ℕ) → Contains [] v → ⊥
    no_such v (k, l, is) = omega arith

keep : (b : Bool) (k : SliceKey) (ks : List SliceKey) → b ≡ true → cond b (k ∷ ks) ks ≡ k ∷ ks
keep true k ks is = refl
keep false k ks is = absurd (cc)

-- each slice has a variable, and each comes to a key
classes-keyed : (q : PlainCondition) (classes : List PlainSlice) (cs : List Canonical)
    → All (λ s. 0 < length s.vars) classes → AllZip (Canonises q) classes cs → All HasKey cs
    → AllZip (IsKeyed q) classes (keys_in cs)
classes-keyed q [] [] some zip keys = tt
classes-keyed q [] (c ∷ cs) some zip keys = absurd zip
classes-keyed q (s ∷ classes) [] some zip keys = absurd zip
classes-keyed q (s ∷ classes) (False j ∷ cs) some zip keys = absurd (All-head HasKey (False j) cs keys)
classes-keyed q (s ∷ classes) (Key key back ∷ cs) some zip keys =
    subst (AllZip (IsKeyed q) (s ∷ classes))
    (sym (keep (nat_lt 0 (length back)) (record { key = key; back = back }) (keys_in cs)
    (some_width back s.vars zip.0.vars (All-head (λ t. 0 < length t.vars) s classes some)))) (
      zip.0,
      classes-keyed q classes cs (All-tail (λ t. 0 < length t.vars) s classes some) zip.1
          (All-tail HasKey (Key key back) cs keys),
    )

-- the slice of a class has its least variable
class-has_var : (q : PlainCondition) (s : PlainSlice) → IsSliceOf q (least s) s → 0 < length s.vars
class-has_var q s is = of s.vars ((is.vars.just (least s)).1 (is.declared, alone))
  where
    of : (xs : List ℕ) → Contains xs (least s) → 0 < length xs
    of xs (k, lt, e) = omega (arith, lt)

classes-have_vars : (q : PlainCondition) (classes : List PlainSlice) → All (λ s. IsSliceOf q (least s) s) classes
    → All (λ s. 0 < length s.vars) classes
classes-have_vars q classes each k d lt = class-has_var q (get_or classes k d) (each k d lt)

-- ---- the slice without variables

-- its atoms hold whatever the assignment
always_holds : (q : PlainCondition) (s : PlainSlice) (c : Canonical) → s.vars ≡ [] → Canonises q s c → HasKey c
    → (values : List ℤ) → IsAssignment q.vars values → SliceHolds q s values
always_holds q s (False j) none h is values assigned = absurd is
always_holds q s (Key key back) none h is values assigned =
    let empty : back ≡ [] =
    no_width back (subst (λ (vs : List ℕ). (v : ℕ) → Contains back v ↔ Contains vs v) none h.vars) in
    (h.same values assigned).1 (subst (λ (k : List PlainKeyAtom). KeyHolds k (point_of back values))
    (sym (no_key q s key (sym h.numbered ∙ empty) h.is_key)) (λ k d lt. absurd (omega arith)))

pub atom_holds_at : (q : PlainCondition) (s : PlainSlice) (values : List ℤ) (j : ℕ) → SliceHolds q s values
    → Contains s.atoms j → j < length q.atoms → HoldsAt q values j
atom_holds_at q s values j holds has lt = of (slice_get q.atoms j) refl
  where
    of : (o : Option Atom) → slice_get q.atoms j ≡ o → IsSomeAnd o (λ atom. AtomHolds atom values)
    of None e = let there = (Found-at q.atoms j lt).is in absurd (cc)
    of (Some atom) e =
        All-filter_map (λ j. slice_get q.atoms j) (λ atom. AtomHolds atom values) s.atoms j atom holds has e

-- ---- how many slices have variables

-- the least variables rise with the places
rises : (classes : List PlainSlice) (k : ℕ) (d : PlainSlice) → AllPairs (λ s t. least s < least t) classes
    → k < length classes → k ≤ least (get_or classes k d)
rises classes zero d ordered lt = omega arith
rises classes (suc k) d ordered lt = omega
    (arith, rises classes k d ordered (omega (arith, lt)), ordered k (suc k) d (omega arith) lt)

few_classes : (q : PlainCondition) (classes : List PlainSlice) → Fits q.vars q.atoms → AreClasses q classes
    → length classes ≤ 64
few_classes q [] fits are = omega arith
few_classes q (s ∷ classes) fits are = omega (
  arith,
  rises (s ∷ classes) (length classes) s are.by_least (omega arith),
  (are.each (length classes) s (omega arith)).declared,
  fits.few_vars,
)

few_keys : (q : PlainCondition) (classes : List PlainSlice) (keys : List SliceKey) → Fits q.vars q.atoms
    → AreClasses q classes → AllZip (IsKeyed q) classes keys → length keys ≤ 64
few_keys q classes keys fits are each =
    omega (arith, few_classes q classes fits are, AllZip-long (IsKeyed q) classes keys each)

-- ---- the keys

drop_key : (b : Bool) (k : SliceKey) (ks : List SliceKey) → b ≡ false → cond b (k ∷ ks) ks ≡ ks
drop_key true k ks is = absurd (cc)
drop_key false k ks is = refl

is_false : (xs : List ℕ) → xs ≡ [] → nat_lt 0 (length xs) ≡ false
is_false xs e = ap (λ (ys : List ℕ). nat_lt 0 (length ys)) e

-- the slice without variables stands in front
one_front : (q : PlainCondition) (s : PlainSlice) (slices : List PlainSlice) (are : AreSlices q slices)
    (cs : List Canonical) → Fits q.vars q.atoms → IsVariableFree (NamesNothingAt q.atoms) s
    → AllZip (Canonises q) (s ∷ are.classes) cs → All HasKey cs → All KeepsKeyLimits (keys_in cs) → NoneIsFalse q
    → AreKeyed q (keys_in cs)
one_front q s slices are [] fits free zip keys limits none_false = absurd zip
one_front q s slices are (False j ∷ cs) fits free zip keys limits none_false =
    absurd (All-head HasKey (False j) cs keys)
one_front q s slices are (Key key back ∷ cs) fits free zip keys limits none_false = record {
  slices = slices;
  are = are;
  each = each;
  few = few_keys q are.classes (keys_in (Key key back ∷ cs)) fits are.linked each;
  limits = limits;
  none_false = none_false;
  variable_free = λ values assigned j names. atom_holds_at q s values j
      (always_holds q s (Key key back) free.vars zip.0 tt values assigned) ((free.atoms.just j).1 names)
      (has_atom j names);
}
  where
    empty : back ≡ []
    empty = no_width back (subst (λ (vs : List ℕ). (v : ℕ) → Contains back v ↔ Contains vs v) free.vars zip.0.vars)

    each : AllZip (IsKeyed q) are.classes (keys_in (Key key back ∷ cs))
    each = subst (AllZip (IsKeyed q) are.classes)
        (sym (drop_key (nat_lt 0 (length back)) (record { key = key; back = back }) (keys_in cs)
        (is_false back empty)))
        (classes-keyed q are.classes cs (classes-have_vars q are.classes are.linked.each) zip.1
        (All-tail HasKey (Key key back) cs keys))

    has_atom : (j : ℕ) → NamesNothingAt q.atoms j → j < length q.atoms
    has_atom j names = within_from_IsSomeAnd q.atoms (λ atom. atom_vars atom ≡ []) j names

pub keys_are_keyed : (q : PlainCondition) (slices : List PlainSlice) (cs : List Canonical) → SlicesPartition
    → Fits q.vars q.atoms → AreSlices q slices → AllZip (Canonises q) slices cs → All HasKey cs
    → All KeepsKeyLimits (keys_in cs) → AreKeyed q (keys_in cs)
keys_are_keyed q slices cs law fits are zip keys limits = of are.front are.variable_free are.joined
  where
    joined : (front : List PlainSlice) → slices ≡ front ++ are.classes → AllZip (Canonises q) (front ++ are.classes) cs
    joined front is = subst (λ (ss : List PlainSlice). AllZip (Canonises q) ss cs) is zip

    without_front : slices ≡ are.classes → AllZip (IsKeyed q) are.classes (keys_in cs)
    without_front is =
        classes-keyed q are.classes cs (classes-have_vars q are.classes are.linked.each)
        (subst (λ (ss : List PlainSlice). AllZip (Canonises q) ss cs) is zip) keys

    of : (front : List PlainSlice) → IsFront (NamesNothingAt q.atoms) front → slices ≡ front ++ are.classes
        → AreKeyed q (keys_in cs)
    of [] none is = record {
      slices = slices;
      are = are;
      each = without_front is;
      few = few_keys q are.classes (keys_in cs) fits are.linked (without_front is);
      limits = limits;
      none_false = none_is_false q slices cs law fits are zip keys;
      variable_free = λ values assigned j names. absurd (none j names);
    }
    of (s ∷ []) one is =
        one_front q s slices are cs fits one (joined (s ∷ []) is) keys limits
        (none_is_false q slices cs law fits are zip keys)
    of (s ∷ t ∷ more) bad is = absurd bad
