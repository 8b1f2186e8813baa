-- What the key of a slice promises.
use Rattle.std.proofs.Common.{◌≡◌, ◌≢◌, ◌↔◌, ℕ, ◌≤◌, ℤ, List, length, get_or, refl, sym, subst, inl, inr}
use Rattle.std.specs.List.{All, Any, slice_get}
use Rattle.std.proofs.lemmas.List.Elements.{All-contains, Contains-get_or}
use Rattle.lin_model.specs.Conditions.{PlainCondition}
use Rattle.lin_model.specs.Truth.{AtomHolds, IsAssignment}
use Rattle.lin_model.specs.Form.{form_width}
use Rattle.lin_model.specs.KeyAtom.{PlainKeyAtom, KeyAtomHolds}
use Rattle.lin_model.specs.Key.{KeyHolds}
use Rattle.lin_model.specs.Lists.{Given-filter_map, IsSomeAnd-found}
use Rattle.slicer.specs.Laws.{HasNamed}
use Rattle.slicer.specs.Slices.{PlainSlice}
use Rattle.atom_implies.specs.Laws.{TableIsRight}
use Rattle.canoniser.specs.declared.atom_form.AtomForm.{AtomForm}
use Rattle.canoniser.specs.declared.atom_form.AtomForm.TheVariants.{True, False, KeyAtom}
use Rattle.canoniser.specs.Forms.{canonical_form, key_atoms}
use Rattle.canoniser.specs.Numbering.{atoms_of, order_of}
use Rattle.canoniser.specs.Keys.{IsGiven, IsStrongest, IsKeyOf}
use Rattle.canoniser.specs.Strongest.{IsKeyWithBounds, IsOneOf}
use Rattle.canoniser.specs.Solutions.{IsFalse, NoneIsFalseAmong, point_of, SliceHolds, HaveSameSolutions, IsCanonised}
use Rattle.canoniser.specs.SliceForms.{AreKeyAtoms}
use Rattle.canoniser.proofs.KeyAtomsLemmas.{Contains-key_atoms}
use Rattle.canoniser.proofs.KeyLemmas.{bound_holds, covered_holds, KeepsBounds-covered}
use Rattle.canoniser.proofs.KeyWidthLemmas.{key_width-order, IsBounded-covered}
use Rattle.canoniser.proofs.MeaningLemmas.{key_atom-holds, true-holds, false-is_false}
use Rattle.canoniser.proofs.CanonicalLemmas.{key_atom-narrow}
use Rattle.canoniser.proofs.NumberingLemmas.{order_of-distinct, order_of-vars, order_of-names}

-- no canonical form is False where some integers satisfy each atom
none_false : (c : PlainCondition) (s : PlainSlice) → NoneIsFalseAmong c s.atoms
    → All (λ atom. canonical_form (order_of c s) atom ≢ False) (atoms_of c s)
none_false c s none k d lt is =
    let atom = get_or (atoms_of c s) k d in
    let has = Contains-get_or (atoms_of c s) k d lt in
    let number = Given-filter_map (λ j. slice_get c.atoms j) s.atoms atom has in
    let false = false-is_false (order_of c s) atom (order_of-distinct c s) (order_of-names c s atom has) is in
    none number.element number.among
    (IsSomeAnd-found (slice_get c.atoms number.element) IsFalse atom number.gives false)

-- the strongest of the same atoms are the same
pub IsStrongest-same : (One Other : PlainKeyAtom → Type 0) → ((a : PlainKeyAtom) → One a → Other a)
    → ((a : PlainKeyAtom) → Other a → One a) → (a : PlainKeyAtom) → IsStrongest One a → IsStrongest Other a
IsStrongest-same One Other to from a is = record {
  one = to a is.one;
  alone =
      λ b other implied. is.alone b (from b other) implied;
}

-- the canonical atoms of a slice
abbrev canonical_atoms : PlainCondition → PlainSlice → List PlainKeyAtom
canonical_atoms c s = key_atoms (order_of c s) (atoms_of c s)

IsGiven-one_of : (c : PlainCondition) (s : PlainSlice) (a : PlainKeyAtom)
    → IsOneOf c (order_of c s) (canonical_atoms c s) a → IsGiven c s a
IsGiven-one_of c s a one = elim one [
  | inl has ↦ inl ((Contains-key_atoms (order_of c s) (atoms_of c s) a).0 has)
  | inr bound ↦ inr bound
]

one_of_IsGiven : (c : PlainCondition) (s : PlainSlice) (a : PlainKeyAtom) → IsGiven c s a
    → IsOneOf c (order_of c s) (canonical_atoms c s) a
one_of_IsGiven c s a given = elim given [
  | inl any ↦ inl ((Contains-key_atoms (order_of c s) (atoms_of c s) a).1 any)
  | inr bound ↦ inr bound
]

-- the key of a slice is that of its canonical atoms and bounds
abbrev IsKeyOfAtoms : PlainCondition → PlainSlice → List PlainKeyAtom → Type 0
IsKeyOfAtoms c s key = IsKeyWithBounds c (order_of c s) (canonical_atoms c s) key

IsKeyOf-made : (c : PlainCondition) (s : PlainSlice) (key : List PlainKeyAtom) → NoneIsFalseAmong c s.atoms
    → IsKeyOfAtoms c s key → IsKeyOf c s key
IsKeyOf-made c s key none is =
    let One = IsOneOf c (order_of c s) (canonical_atoms c s) in
    record {
      none_false = none_false c s none;
      ascends = is.ascends;
      just = λ a. (
        λ has. IsStrongest-same One (IsGiven c s) (IsGiven-one_of c s) (one_of_IsGiven c s) a ((is.just a).0 has),
        λ strongest.
            (is.just a).1 (IsStrongest-same (IsGiven c s) One (one_of_IsGiven c s) (IsGiven-one_of c s) a strongest),
      );
    }

-- an atom holds at the values exactly where the canonical atom that is its form holds at their point
holds_at : (c : PlainCondition) (s : PlainSlice) (a : PlainKeyAtom) (values : List ℤ)
    (any : Any (λ atom. canonical_form (order_of c s) atom ≡ KeyAtom a) (atoms_of c s))
    → AtomHolds any.1 values ↔ KeyAtomHolds a (point_of (order_of c s) values)
holds_at c s a values any =
    key_atom-holds (order_of c s) any.1 a (order_of-distinct c s)
    (order_of-names c s any.1 (any.0, any.2, any.3)) any.4 values

-- where the slice's atoms hold, the key holds
key_holds : (c : PlainCondition) (s : PlainSlice) (key : List PlainKeyAtom) (values : List ℤ) → IsKeyOfAtoms c s key
    → IsAssignment c.vars values → SliceHolds c s values → KeyHolds key (point_of (order_of c s) values)
key_holds c s key values is assignment holds k d lt =
    let order = order_of c s in
    let a = get_or key k d in
    elim ((is.just a).0 (Contains-get_or key k d lt)).one [
      | inl has ↦ (
          let any = (Contains-key_atoms order (atoms_of c s) a).0 has in
          let at = All-contains (λ atom. AtomHolds atom values) (atoms_of c s) any.1 holds (any.0, any.2, any.3) in
          (holds_at c s a values any).0 at
          )
      | inr bound ↦ bound_holds c order a values bound assignment
    ]

-- where the key holds, the slice's atoms hold
slice_holds : (c : PlainCondition) (s : PlainSlice) (key : List PlainKeyAtom) (values : List ℤ)
    → NoneIsFalseAmong c s.atoms
    → IsKeyOfAtoms c s key → KeyHolds key (point_of (order_of c s) values) → SliceHolds c s values
slice_holds c s key values none is holds k d lt =
    by_form (canonical_form (order_of c s) (get_or (atoms_of c s) k d)) refl
  where
    by_form : (form : AtomForm) → canonical_form (order_of c s) (get_or (atoms_of c s) k d) ≡ form
        → AtomHolds (get_or (atoms_of c s) k d) values
    by_form True form_is =
        let atom = get_or (atoms_of c s) k d in
        let names = order_of-names c s atom (Contains-get_or (atoms_of c s) k d lt) in
        true-holds (order_of c s) atom (order_of-distinct c s) names form_is values
    by_form False form_is = absurd (none_false c s none k d lt form_is)
    by_form (KeyAtom a) form_is =
        let atom = get_or (atoms_of c s) k d in
        let has = Contains-get_or (atoms_of c s) k d lt in
        let any : Any (λ x. canonical_form (order_of c s) x ≡ KeyAtom a) (atoms_of c s) =
        (has.0, atom, has.1, has.2, form_is) in
        let covered = is.covered a (inl ((Contains-key_atoms (order_of c s) (atoms_of c s) a).1 any)) in
        (holds_at c s a values any).1 (covered_holds key a (point_of (order_of c s) values) covered holds)

HaveSameSolutions-made : (c : PlainCondition) (s : PlainSlice) (key : List PlainKeyAtom) → NoneIsFalseAmong c s.atoms
    → IsKeyOfAtoms c s key → HaveSameSolutions c s (order_of c s) key
HaveSameSolutions-made c s key none is values assignment =
    (key_holds c s key values is assignment, slice_holds c s key values none is)

-- no canonical atom is wider than there are variables
canonical_narrow : (c : PlainCondition) (s : PlainSlice)
    → All (λ a. form_width a.form ≤ length (order_of c s)) (canonical_atoms c s)
canonical_narrow c s k d lt =
    let order = order_of c s in
    let a = get_or (canonical_atoms c s) k d in
    let any = (Contains-key_atoms order (atoms_of c s) a).0 (Contains-get_or (canonical_atoms c s) k d lt) in
    key_atom-narrow order any.1 a any.4

IsCanonised-of : TableIsRight → (c : PlainCondition) (s : PlainSlice) (key : List PlainKeyAtom) → HasNamed c s
    → NoneIsFalseAmong c s.atoms → IsKeyOfAtoms c s key → IsCanonised c s (order_of c s) key
IsCanonised-of right c s key named none is =
    let order = order_of c s in
    let canonical = canonical_atoms c s in
    let width = key_width-order c order canonical key is (canonical_narrow c s) in
    record {
      none_false = none;
      numbered = refl;
      vars = order_of-vars c s named;
      is_key = IsKeyOf-made c s key none is;
      width = width;
      same = HaveSameSolutions-made c s key none is;
      bounds = KeepsBounds-covered c order canonical key is;
      bounded = IsBounded-covered right c order canonical key is width;
    }

pub IsCanonised-made : TableIsRight → (c : PlainCondition) (s : PlainSlice) (order : List ℕ)
    (canonical key : List PlainKeyAtom) → HasNamed c s → order ≡ order_of c s → AreKeyAtoms c s canonical
    → IsKeyWithBounds c order canonical key → IsCanonised c s order key
IsCanonised-made right c s order canonical key named numbered forms is =
    let of_order = subst (λ (o : List ℕ). IsKeyWithBounds c o canonical key) numbered is in
    let of_atoms =
    subst (λ (atoms : List PlainKeyAtom). IsKeyWithBounds c (order_of c s) atoms key) forms.are of_order in
    let canonised = IsCanonised-of right c s key named forms.none_false of_atoms in
    subst (λ (o : List ℕ). IsCanonised c s o key) (sym numbered) canonised
