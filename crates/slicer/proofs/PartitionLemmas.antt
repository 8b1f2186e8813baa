-- The slices of a condition part it.
use Rattle.std.proofs.Common.{◌≡◌, ℕ, ◌+◌, ◌<◌, List, [], ◌∷◌, ◌++◌, length, get_or, Option, Some, refl}
use Rattle.std.proofs.Common.{arith, sym, subst, ◌∙◌, length-append}
use Rattle.std.specs.Prelude.{All, Any, AllPairs, Contains, IsSomeAnd, slice_get}
use Rattle.std.proofs.lemmas.List.{get_or-append-add}
use Rattle.std.proofs.lemmas.Option.{get_or_from_slice_get, slice_get_within}
use Rattle.std.proofs.lemmas.List.Elements.{All-cons}
use Rattle.std.proofs.lemmas.List.Kept.{AllPairs-cons}
use Rattle.lin_model.specs.Conditions.{PlainCondition, AtomNamesBelow}
use Rattle.lin_model.specs.declared.atom.Atom.{Atom}
use Rattle.lin_model.specs.Lists.{Found-at, Found-from, IsSomeAnd-found, nothing_in_nil}
use Rattle.slicer.specs.Facts.{below_from_Names}
use Rattle.slicer.specs.Linked.{longer}
use Rattle.slicer.specs.Names.{Names, NamesAt, NamesNothingAt, NamesDeclared, atom_vars}
use Rattle.slicer.specs.Slices.{PlainSlice, IsSliceOf, AreClasses, IsVariableFree, IsFront, least}
use Rattle.slicer.specs.Laws.{AreApart, HasNamed, SlicesPartition}
use Rattle.slicer.proofs.ChainLemmas.{Chain-append, Chain-turned}
use Rattle.slicer.proofs.UniqueLemmas.{least_is_same}

-- an atom names only declared variables
atom_below : (c : PlainCondition) (j : ℕ) (v : ℕ) → NamesDeclared c → NamesAt c.atoms j v → v < length c.vars
atom_below c j v declared names =
    let found = Found-from (slice_get c.atoms j) (λ a. Names a v) names in
    let atom = found.value in
    let within = slice_get_within c.atoms j atom found.is in
    let below : AtomNamesBelow (length c.vars) atom =
    subst (AtomNamesBelow (length c.vars)) (get_or_from_slice_get c.atoms j atom atom found.is)
    (declared j atom within) in
    below_from_Names (length c.vars) atom v below found.holds

-- two variables that one atom names are linked
named_together : (c : PlainCondition) (j u v : ℕ) → NamesAt c.atoms j u → NamesAt c.atoms j v
    → Any (λ atom. Names atom u × Names atom v) c.atoms
named_together c j u v one other =
    let found = Found-from (slice_get c.atoms j) (λ a. Names a u) one in
    let atom = found.value in
    let names : Names atom v = subst (λ (o : Option Atom). IsSomeAnd o (λ a. Names a v)) found.is other in (
      j,
      atom,
      slice_get_within c.atoms j atom found.is,
      get_or_from_slice_get c.atoms j atom atom found.is,
      (found.holds, names),
    )

-- no atom names a variable and none
names_or_not : (atoms : List Atom) (j v : ℕ) → NamesNothingAt atoms j → ¬ NamesAt atoms j v
names_or_not atoms j v none some =
    let found = Found-from (slice_get atoms j) (λ a. Names a v) some in
    let nothing : atom_vars found.value ≡ [] =
    subst (λ (o : Option Atom). IsSomeAnd o (λ a. atom_vars a ≡ [])) found.is none in
    nothing_in_nil v (subst (λ (xs : List ℕ). Contains xs v) nothing found.holds)

-- two classes of different least variables have nothing in common
classes_apart : (c : PlainCondition) (s t : PlainSlice) → IsSliceOf c (least s) s → IsSliceOf c (least t) t
    → least s < least t → AreApart s t
classes_apart c s t a b less = record {
  vars = λ v in_s in_t.
      let joined =
      Chain-append Names c.atoms ((a.vars.just v).0 in_s).1
      (Chain-turned Names c.atoms ((b.vars.just v).0 in_t).1) in
      let same = least_is_same c s t a b joined in
      omega arith;
  atoms = λ j in_s in_t.
      let one = (a.atoms.just j).0 in_s in
      let other = (b.atoms.just j).0 in_t in
      let joined =
      Chain-append Names c.atoms (longer one.1 (named_together c j one.0 other.0 one.2 other.2))
      (Chain-turned Names c.atoms other.1) in
      let same = least_is_same c s t a b joined in
      omega arith;
}

-- a class and the slice without variables have nothing in common
variable_free_apart : (c : PlainCondition) (variable_free s : PlainSlice)
    → IsVariableFree (NamesNothingAt c.atoms) variable_free → IsSliceOf c (least s) s → AreApart variable_free s
variable_free_apart c variable_free s a b = record {
  vars = λ v in_free in_s. nothing_in_nil v (subst (λ (xs : List ℕ). Contains xs v) a.vars in_free);
  atoms = λ j in_free in_s. let named =
      (b.atoms.just j).0 in_s in names_or_not c.atoms j named.0 ((a.atoms.just j).0 in_free) named.2;
}

-- a class has the variables that its atoms name
class_named : (c : PlainCondition) (s : PlainSlice) → NamesDeclared c → IsSliceOf c (least s) s → HasNamed c s
class_named c s declared a j v in_s names =
    let one = (a.atoms.just j).0 in_s in
    (a.vars.just v).1 (atom_below c j v declared names, longer one.1 (named_together c j one.0 v one.2 names))

-- what some slice of the classes has, some slice of all has
Any-behind : (P : PlainSlice → Type 0) (front classes : List PlainSlice) → Any P classes → Any P (front ++ classes)
Any-behind P front classes some =
    let total = length-append front classes in
    let within = some.2 in
    (length front + some.0, some.1, omega arith, get_or-append-add front classes some.0 some.1 ∙ some.3, some.4)

-- which slice has an atom
atom_in_some : (c : PlainCondition) (front classes : List PlainSlice) (j : ℕ) (atom : Atom) (vars : List ℕ)
    → NamesDeclared c → IsFront (NamesNothingAt c.atoms) front → AreClasses c classes → slice_get c.atoms j ≡ Some atom
    → atom_vars atom ≡ vars → Any (λ slice. Contains slice.atoms j) (front ++ classes)
atom_in_some c [] classes j atom [] declared none are is vars =
    absurd (none j (IsSomeAnd-found (slice_get c.atoms j) (λ (a : Atom). atom_vars a ≡ []) atom is vars))
atom_in_some c (slice ∷ []) classes j atom [] declared variable_free are is vars = (
  0,
  slice,
  omega arith,
  refl,
  (variable_free.atoms.just j).1
      (IsSomeAnd-found (slice_get c.atoms j) (λ (a : Atom). atom_vars a ≡ []) atom is vars),
)
atom_in_some c (slice ∷ another ∷ more) classes j atom [] declared two are is vars = absurd two
atom_in_some c front classes j atom (v ∷ vs) declared variable_free are is vars =
    let names : NamesAt c.atoms j v = IsSomeAnd-found (slice_get c.atoms j) (λ (a : Atom). Names a v) atom is
    (subst (λ (xs : List ℕ). Contains xs v) (sym vars) (0, omega arith, refl)) in
    let some = are.every v (atom_below c j v declared names) in
    let its : IsSliceOf c (least some.1) some.1 =
    subst (λ (s : PlainSlice). IsSliceOf c (least s) s) some.3 (are.each some.0 some.1 some.2) in
    Any-behind (λ (s : PlainSlice). Contains s.atoms j) front classes
    (some.0, some.1, some.2, some.3, (its.atoms.just j).1 (v, ((its.vars.just v).0 some.4).1, names))

-- in front of the classes too all slices are apart
all_apart : (c : PlainCondition) (front classes : List PlainSlice) → IsFront (NamesNothingAt c.atoms) front
    → AreClasses c classes → AllPairs AreApart (front ++ classes)
all_apart c [] classes none are = λ i j d before within. classes_apart c (get_or classes i d) (get_or classes j d)
    (are.each i d (omega arith)) (are.each j d within) (are.by_least i j d before within)
all_apart c (variable_free ∷ []) classes is are =
    AllPairs-cons AreApart variable_free classes
    (λ k d within. variable_free_apart c variable_free (get_or classes k d) is (are.each k d within))
    (λ i j d before within. classes_apart c (get_or classes i d) (get_or classes j d) (are.each i d (omega arith))
    (are.each j d within) (are.by_least i j d before within))
all_apart c (s ∷ t ∷ more) classes two are = absurd two

all_named : (c : PlainCondition) (front classes : List PlainSlice) → NamesDeclared c
    → IsFront (NamesNothingAt c.atoms) front → AreClasses c classes → All (HasNamed c) (front ++ classes)
all_named c [] classes declared none are =
    λ k d within. class_named c (get_or classes k d) declared (are.each k d within)
all_named c (variable_free ∷ []) classes declared is are =
    All-cons (HasNamed c) variable_free classes
    (λ j v in_free names. absurd (names_or_not c.atoms j v ((is.atoms.just j).0 in_free) names))
    (λ k d within. class_named c (get_or classes k d) declared (are.each k d within))
all_named c (s ∷ t ∷ more) classes declared two are = absurd two

pub AreSlices-partition : SlicesPartition
AreSlices-partition c slices declared are = rw are.joined record {
  each_var = λ v lt. Any-behind (λ (s : PlainSlice). Contains s.vars v) are.front are.classes (are.linked.every v lt);
  each_atom = λ j lt. let found = Found-at c.atoms j lt in
      atom_in_some c are.front are.classes j found.value
      (atom_vars found.value) declared are.variable_free are.linked found.is refl;
  apart = all_apart c are.front are.classes are.variable_free are.linked;
  named = all_named c are.front are.classes declared are.variable_free are.linked;
}
