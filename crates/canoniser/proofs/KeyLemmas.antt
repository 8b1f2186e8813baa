-- Where the key of canonical atoms and bounds holds.
use Rattle.std.proofs.Common.{◌≡◌, ◌↔◌, ◌⊎◌, ℕ, ◌<◌, ℤ, pos, List, ◌++◌, length, Result, Ok, Err, refl, sym, subst, inl}
use Rattle.std.proofs.Common.{inr, arith}
use Rattle.std.specs.Prelude.{slice_index, ◌≤ℤ◌}
use Rattle.std.specs.List.{Contains, slice_get}
use Rattle.std.specs.Result.{IfOk}
use Rattle.std.proofs.lemmas.Int.{ints}
use Rattle.std.proofs.lemmas.List.{get_or-map}
use Rattle.std.proofs.lemmas.List.Elements.{All-contains, Contains-append_cases, Contains-append_left}
use Rattle.std.proofs.lemmas.List.Elements.{Contains-append_right}
use Rattle.std.proofs.lemmas.Option.{slice_get_within, get_or_from_slice_get}
use Rattle.lin_model.specs.Terms.{PlainVar, VarFits}
use Rattle.lin_model.specs.Conditions.{PlainCondition}
use Rattle.lin_model.specs.Truth.{InBounds, IsAssignment}
use Rattle.lin_model.specs.Form.{form_value, value_at}
use Rattle.lin_model.specs.KeyAtom.{PlainKeyAtom, KeyAtomHolds}
use Rattle.lin_model.specs.Key.{KeyHolds, Ascends}
use Rattle.lin_model.specs.Bounded.{variable}
use Rattle.lin_model.specs.Lists.{Found, Found-from, IsSomeAnd-found}
use Rattle.atom_implies.specs.Implies.{Covers}
use Rattle.atom_implies.specs.Facts.{HoldsWherever-implied}
use Rattle.canoniser.specs.Keys.{upper_atom, lower_atom, IsBound, IsStrongest}
use Rattle.canoniser.specs.Strongest.{IsKeyWithBounds, IsOneOf, VarsFit}
use Rattle.canoniser.specs.Solutions.{point_of, KeepsBounds}
use Rattle.canoniser.proofs.ImplicationLemmas.{IsCovered, covered_has, Covers-each}

-- the value of a variable alone
form_value-variable : (v : ℕ) (point : List ℤ) → form_value (variable v) point ≡ value_at point v
form_value-variable v point = omega (arith, ints)

-- a point satisfies the bounds of a variable exactly where its value is within them
upper_holds : (v : ℕ) (var : PlainVar) (point : List ℤ)
    → KeyAtomHolds (upper_atom v var) point ↔ (value_at point v ≤ℤ var.hi)
upper_holds v var point =
    let value = form_value-variable v point in
    (λ holds. grind (arith, ints), λ below. grind (arith, ints))

lower_holds : (v : ℕ) (var : PlainVar) (point : List ℤ)
    → KeyAtomHolds (lower_atom v var) point ↔ (var.lo ≤ℤ value_at point v)
lower_holds v var point =
    let value = form_value-variable v point in
    (λ holds. grind (arith, ints), λ above. grind (arith, ints))

-- what a key implies holds where the key does
pub covered_holds : (key : List PlainKeyAtom) (a : PlainKeyAtom) (point : List ℤ) → IsCovered key a → KeyHolds key point
    → KeyAtomHolds a point
covered_holds key a point covered holds =
    HoldsWherever-implied covered.1 a covered.4 point
    (All-contains (λ b. KeyAtomHolds b point) key covered.1 holds (covered_has key a covered))

-- the values of a slice's variables, by number
value_at-point_of : (order : List ℕ) (values : List ℤ) (v : ℕ) → v < length order
    → value_at (point_of order values) v ≡ value_at values (slice_index order v)
value_at-point_of order values v lt = get_or-map (λ (w : ℕ). value_at values w) order v 0 (pos 0) lt

-- the bounds of a variable hold at the point of an assignment
pub bound_holds : (c : PlainCondition) (order : List ℕ) (a : PlainKeyAtom) (values : List ℤ) → IsBound c order a
    → IsAssignment c.vars values → KeyAtomHolds a (point_of order values)
bound_holds c order a values bound assignment =
    let v = bound.0 in
    let w = slice_index order v in
    let point = point_of order values in
    let found = Found-from (slice_get c.vars w) (λ var. (a ≡ upper_atom v var) ⊎ (a ≡ lower_atom v var)) bound.2 in
    let var = found.value in
    let declared = slice_get_within c.vars w var found.is in
    let there : InBounds var (value_at values w) =
    subst (λ (x : PlainVar). InBounds x (value_at values w)) (get_or_from_slice_get c.vars w var var found.is)
    (assignment.within w var declared) in
    let here : InBounds var (value_at point v) =
    subst (λ (n : ℤ). InBounds var n) (sym (value_at-point_of order values v bound.1)) there in
    elim found.holds [
      | inl upper ↦ subst (λ (b : PlainKeyAtom). KeyAtomHolds b point) (sym upper)
          ((upper_holds v var point).1 here.high)
      | inr lower ↦ subst (λ (b : PlainKeyAtom). KeyAtomHolds b point) (sym lower)
          ((lower_holds v var point).1 here.low)
    ]

-- the bounds of the variable of this number are covered
pub record BoundsCovered (key : List PlainKeyAtom) (v : ℕ) (var : PlainVar) : Type 0 where
  pub upper : IsCovered key (upper_atom v var)
  pub lower : IsCovered key (lower_atom v var)
  pub fits : VarFits var

pub BoundsCovered-found : (c : PlainCondition) (order : List ℕ) (canonical key : List PlainKeyAtom)
    → IsKeyWithBounds c order canonical key → (v : ℕ) → v < length order
    → Found (slice_get c.vars (slice_index order v)) (BoundsCovered key v)
BoundsCovered-found c order canonical key is v lt =
    let o = slice_get c.vars (slice_index order v) in
    let found = Found-from o VarFits (is.vars_fit v lt) in
    let var = found.value in
    let bounds = λ (a : PlainKeyAtom) (one : (a ≡ upper_atom v var) ⊎ (a ≡ lower_atom v var)). is.covered a
    (inr (v, lt, IsSomeAnd-found o (λ w. (a ≡ upper_atom v w) ⊎ (a ≡ lower_atom v w)) var found.is one)) in
    record {
      value = var;
      is = found.is;
      holds = record {
        upper = bounds (upper_atom v var) (inl refl);
        lower =
            bounds (lower_atom v var) (inr refl);
        fits = found.holds;
      };
    }

-- what satisfies the key is within the bounds
pub KeepsBounds-covered : (c : PlainCondition) (order : List ℕ) (canonical key : List PlainKeyAtom)
    → IsKeyWithBounds c order canonical key → KeepsBounds c order key
KeepsBounds-covered c order canonical key is point holds v lt =
    let found = BoundsCovered-found c order canonical key is v lt in
    let var = found.value in
    IsSomeAnd-found (slice_get c.vars (slice_index order v)) (λ w. InBounds w (value_at point v)) var found.is (record {
      low = (lower_holds v var point).0 (covered_holds key (lower_atom v var) point found.holds.lower holds);
      high = (upper_holds v var point).0 (covered_holds key (upper_atom v var) point found.holds.upper holds);
    })

-- what follows from three facts of a value
pub IfOk_three : {T E : Type 0} (r : Result T E) (A B C P : T → Type 0) → ((x : T) → A x → B x → C x → P x) → IfOk r A
    → IfOk r B → IfOk r C → IfOk r P
IfOk_three (Ok x) A B C P all a b c = all x a b c
IfOk_three (Err e) A B C P all a b c = tt

-- the strongest of the atoms and the bounds, told as one list
pub IsKeyWithBounds-joined : (c : PlainCondition) (order : List ℕ) (canonical bounds given key : List PlainKeyAtom)
    → given ≡ canonical ++ bounds → ((a : PlainKeyAtom) → Contains bounds a ↔ IsBound c order a) → VarsFit c order
    → Ascends key → ((a : PlainKeyAtom) → Contains key a ↔ IsStrongest (Contains given) a) → Covers key given
    → IsKeyWithBounds c order canonical key
IsKeyWithBounds-joined c order canonical bounds given key joined just fit ascends strongest covers =
    let to : (a : PlainKeyAtom) → Contains given a → IsOneOf c order canonical a =
    λ a has. elim (Contains-append_cases canonical bounds a
    (subst (λ (xs : List PlainKeyAtom). Contains xs a) joined has)) [
      | inl said ↦ inl said
      | inr bound ↦
          inr ((just a).0 bound)
    ] in
    let from : (a : PlainKeyAtom) → IsOneOf c order canonical a → Contains given a =
    λ a one. subst (λ (xs : List PlainKeyAtom). Contains xs a) (sym joined)
    (elim one [
      | inl said ↦ Contains-append_left canonical bounds a said
      | inr bound ↦
          Contains-append_right canonical bounds a ((just a).1 bound)
    ]) in
    record {
      ascends = ascends;
      just = λ a. (
        λ has. let is = (strongest a).0 has in record {
          one = to a is.one;
          alone =
              λ b one implied. is.alone b (from b one) implied;
        },
        λ is. (strongest a).1 (record { one = from a is.one; alone = λ b has implied. is.alone b (to b has) implied }),
      );
      covered = λ a one. Covers-each key given covers a (from a one);
      vars_fit = fit;
    }
