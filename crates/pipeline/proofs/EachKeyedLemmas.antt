-- Every query has keys for its slices, or a least atom that no integers satisfy.
use Rattle.std.proofs.Common.{◌≡◌, ◌≢◌, ℕ, ◌+◌, ◌≤◌, zero, suc, Option, Some, None, List, [], ◌∷◌, length, take, get_or}
use Rattle.std.proofs.Common.{Bool, true, false, cond, nat_lt, ◌⊎◌, inl, inr, subst, arith}
use Rattle.std.specs.List.{All, AllPairs, AllZip, Contains}
use Rattle.std.proofs.Math.Seq.{take-length}
use Rattle.std.proofs.lemmas.List.{get_or_default}
use Rattle.std.proofs.lemmas.List.Elements.{All-cons, All-nil, All-head, All-tail, All-weaker}
use Rattle.lin_model.specs.Conditions.{PlainCondition, IsCondition}
use Rattle.lin_model.specs.Lists.{Contains-first, Contains-later}
use Rattle.slicer.specs.Slices.{PlainSlice, AreSlices}
use Rattle.slicer.specs.Laws.{EachHasSlices, SlicesPartition}
use Rattle.canoniser.specs.declared.canonical.Canonical.{Canonical}
use Rattle.canoniser.specs.declared.canonical.Canonical.TheVariants.{False, Key}
use Rattle.canoniser.specs.Answers.{Canonises}
use Rattle.canoniser.specs.OneKey.{AreWithinLimits, IsWithinLimits, EachHasCanonical}
use Rattle.pipeline.specs.declared.slice_keys.SliceKey.{SliceKey}
use Rattle.pipeline.specs.Keyed.{AreKeyed, KeepsKeyLimits, HasLeastFalse, HasKey}
use Rattle.pipeline.specs.Keyed.{IsLeastFalseAmong, least_with, keys_in}
use Rattle.pipeline.proofs.KeyedLemmas.{IsLeastSoFar, least_more}
use Rattle.pipeline.proofs.SliceLemmas.{least_is_false, keys_are_keyed}

-- ---- what each slice comes to

record CanonicalsOf (q : PlainCondition) (slices : List PlainSlice) : Type 0 where
  pub canonicals : List Canonical
  pub each : AllZip (Canonises q) slices canonicals
  pub limits : All IsWithinLimits canonicals

canonicals_of : EachHasCanonical → (q : PlainCondition) → IsCondition q → (slices : List PlainSlice)
    → AreSlices q slices → (rest : List PlainSlice) → ((s : PlainSlice) → Contains rest s → Contains slices s)
    → CanonicalsOf q rest
canonicals_of law q fits slices are [] among = record { canonicals = []; each = tt; limits = All-nil IsWithinLimits }
canonicals_of law q fits slices are (s ∷ rest) among =
    let here = law q s fits (record { slices = slices; all = are; one = among s (Contains-first s rest) }) in
    let later = canonicals_of law q fits slices are rest (λ t has. among t (Contains-later s rest t has)) in
    record {
      canonicals = here.canonical ∷ later.canonicals;
      each = (here.canonises, later.each);
      limits = All-cons IsWithinLimits here.canonical later.canonicals here.limits later.limits;
    }

-- ---- the least number that is false

record LeastOf (canonicals : List Canonical) (i : ℕ) : Type 0 where
  pub least : Option ℕ
  pub is : IsLeastSoFar (take i canonicals) least

least_of : (canonicals : List Canonical) (i : ℕ) → i ≤ length canonicals → LeastOf canonicals i
least_of canonicals zero few = record { least = None; is = All-nil HasKey }
least_of canonicals (suc i) few =
    let before = least_of canonicals i (omega arith) in
    let c = get_or canonicals i (False 0) in
    let more =
    least_more canonicals i c before.least (omega arith)
    (get_or_default canonicals i (False 0) c (omega arith)) before.is in
    let next : i + 1 ≡ suc i = omega arith in
    record {
      least = least_with before.least c;
      is =
          subst (λ (n : ℕ). IsLeastSoFar (take n canonicals) (least_with before.least c)) next more;
    }

record SomeFalseAmong (canonicals : List Canonical) : Type 0 where
  pub number : ℕ
  pub least : IsLeastFalseAmong canonicals number

false_or_keys : (canonicals : List Canonical) → SomeFalseAmong canonicals ⊎ All HasKey canonicals
false_or_keys canonicals =
    let all = least_of canonicals (length canonicals) (omega arith) in
    by_least all.least (subst (λ (cs : List Canonical). IsLeastSoFar cs all.least) (take-length canonicals) all.is)
  where
    by_least : (least : Option ℕ) → IsLeastSoFar canonicals least → SomeFalseAmong canonicals ⊎ All HasKey canonicals
    by_least None keys = inr keys
    by_least (Some j) least = inl (record { number = j; least = least })

-- ---- the keys

-- the key and the way back of a slice keep the limits of their types
abbrev KeepsLimits : SliceKey → Type 0
KeepsLimits k = AreWithinLimits k.key k.back

limits_by : (wide : Bool) (k : SliceKey) (rest : List SliceKey) → KeepsLimits k → All KeepsLimits rest
    → All KeepsLimits (cond wide (k ∷ rest) rest)
limits_by true k rest here later = All-cons KeepsLimits k rest here later
limits_by false k rest here later = later

limits_in : (canonicals : List Canonical) → All IsWithinLimits canonicals → All KeepsLimits (keys_in canonicals)
limits_in [] limits = All-nil KeepsLimits
limits_in (False j ∷ canonicals) limits = limits_in canonicals (All-tail IsWithinLimits (False j) canonicals limits)
limits_in (Key key back ∷ canonicals) limits =
    limits_by (nat_lt 0 (length back)) (record { key = key; back = back }) (keys_in canonicals)
    (All-head IsWithinLimits (Key key back) canonicals limits)
    (limits_in canonicals (All-tail IsWithinLimits (Key key back) canonicals limits))

-- the query's least atom that no integers satisfy
pub record SomeFalse (q : PlainCondition) : Type 0 where
  pub number : ℕ
  pub is : HasLeastFalse q number

-- no variable stands twice in the way back
abbrev pub HasDistinct : SliceKey → Type 0
HasDistinct k = AllPairs ◌≢◌ k.back

-- the keys of a query's slices
pub record SomeKeys (q : PlainCondition) : Type 0 where
  pub keys : List SliceKey
  pub are : AreKeyed q keys
  pub distinct : All HasDistinct keys

pub keys_or_false : EachHasSlices → SlicesPartition → EachHasCanonical → (q : PlainCondition) → IsCondition q
    → SomeKeys q ⊎ SomeFalse q
keys_or_false slices_exist parts canonical_exists q fits =
    let some = slices_exist q in
    let all = canonicals_of canonical_exists q fits some.slices some.are some.slices (λ s has. has) in
    elim (false_or_keys all.canonicals) [
      | inl one ↦ inr (record {
        number = one.number;
        is = record {
          slices = some.slices;
          are = some.are;
          least =
              least_is_false q some.slices all.canonicals one.number parts fits.fits some.are all.each one.least;
        };
      })
      | inr keys ↦ inl (record {
        keys = keys_in all.canonicals;
        are =
            keys_are_keyed q some.slices all.canonicals parts fits.fits some.are all.each keys
            (All-weaker KeepsLimits KeepsKeyLimits (λ k limits. limits.key) (keys_in all.canonicals)
            (limits_in all.canonicals all.limits));
        distinct =
            All-weaker KeepsLimits HasDistinct (λ k limits. limits.distinct) (keys_in all.canonicals)
            (limits_in all.canonicals all.limits);
      })
    ]
