-- The canonical atoms of a slice, one atom after another.
use Rattle.std.proofs.Common.{◌≡◌, ◌↔◌, ℕ, ◌+◌, ◌<◌, ◌≤◌, List, [], ◌∷◌, ◌++◌, length, take, get_or, Option, Some}
use Rattle.std.proofs.Common.{sym, ap, ◌∙◌, subst, inl, inr, arith}
use Rattle.std.specs.List.{Any, AllPairs, Contains, slice_get, filter_map, cons_option}
use Rattle.std.specs.Option.{IsSomeAnd}
use Rattle.std.proofs.lemmas.List.{take_more, length-take, get_or-take, get_or_default}
use Rattle.std.proofs.lemmas.List.Elements.{Contains-get_or, Contains-push_cases, filter_map-append}
use Rattle.std.proofs.lemmas.Bool.{cases_lt}
use Rattle.std.proofs.lemmas.Bool.Decides.{eqb_tells}
use Rattle.std.proofs.lemmas.Option.{slice_get_within, get_or_from_slice_get}
use Rattle.lin_model.specs.Conditions.{PlainCondition, AtomNamesBelow, Fits}
use Rattle.lin_model.specs.declared.atom.Atom.{Atom}
use Rattle.lin_model.specs.KeyAtom.{PlainKeyAtom}
use Rattle.lin_model.specs.Facts.{AtomNamesBelow-larger}
use Rattle.lin_model.specs.Lists.{Given-filter_map, Contains-filter_map, length-filter_map, IsSomeAnd-found}
use Rattle.slicer.specs.Slices.{PlainSlice}
use Rattle.canoniser.specs.declared.atom_form.AtomForm.{AtomForm}
use Rattle.canoniser.specs.declared.atom_form.AtomForm.TheVariants.{True, False, KeyAtom}
use Rattle.canoniser.specs.Forms.{canonical_form, key_atom_in, key_atoms}
use Rattle.canoniser.specs.Numbering.{atoms_of}
use Rattle.canoniser.specs.Solutions.{IsFalse, IsFalseAt, NoneIsFalseAmong, IsFirstFalse}

-- the atoms of these numbers
abbrev pub atoms_at : PlainCondition → List ℕ → List Atom
atoms_at c numbers = filter_map (λ j. slice_get c.atoms j) numbers

pub atoms_at-more : (c : PlainCondition) (numbers : List ℕ) (i : ℕ) (atom : Atom) → i < length numbers
    → slice_get c.atoms (get_or numbers i 0) ≡ Some atom
    → atoms_at c (take (i + 1) numbers) ≡ atoms_at c (take i numbers) ++ atom ∷ []
atoms_at-more c numbers i atom lt is =
    ap (atoms_at c) (take_more numbers i 0 lt)
    ∙ filter_map-append (λ (j : ℕ). slice_get c.atoms j) (take i numbers) (get_or numbers i 0 ∷ [])
    ∙ ap (λ (o : Option Atom). atoms_at c (take i numbers) ++ cons_option o []) is

-- one more atom
pub key_atoms-push : (order : List ℕ) (atoms : List Atom) (atom : Atom) (form : AtomForm)
    → canonical_form order atom ≡ form
    → key_atoms order (atoms ++ atom ∷ []) ≡ key_atoms order atoms ++ cons_option (key_atom_in form) []
key_atoms-push order atoms atom form is =
    filter_map-append (λ x. key_atom_in (canonical_form order x)) atoms (atom ∷ [])
    ∙ ap (λ (f : AtomForm). key_atoms order atoms ++ cons_option (key_atom_in f) []) is

key_atom_from : (form : AtomForm) (a : PlainKeyAtom) → key_atom_in form ≡ Some a → form ≡ KeyAtom a
key_atom_from True a e = absurd (cc)
key_atom_from False a e = absurd (cc)
key_atom_from (KeyAtom b) a e = let same : b ≡ a = cc in ap KeyAtom same

-- they are just the canonical forms that are atoms
pub Contains-key_atoms : (order : List ℕ) (atoms : List Atom) (a : PlainKeyAtom)
    → Contains (key_atoms order atoms) a ↔ Any (λ atom. canonical_form order atom ≡ KeyAtom a) atoms
Contains-key_atoms order atoms a =
    let h : Atom → Option PlainKeyAtom = λ atom. key_atom_in (canonical_form order atom) in (
      λ has.
          let given = Given-filter_map h atoms a has in
          let among = given.among in
          let is = key_atom_from (canonical_form order given.element) a given.gives in
          (among.0, given.element, among.1, among.2, is),
      λ any. Contains-filter_map h atoms any.1 a (any.0, any.2, any.3) (ap key_atom_in any.4),
    )

-- no more than the slice has atoms
pub few_key_atoms : (c : PlainCondition) (s : PlainSlice) (order : List ℕ)
    → length (key_atoms order (atoms_of c s)) ≤ length s.atoms
few_key_atoms c s order =
    omega (
      arith,
      length-filter_map (λ atom. key_atom_in (canonical_form order atom)) (atoms_of c s),
      length-filter_map (λ j. slice_get c.atoms j) s.atoms,
    )

-- an atom at its number
pub IsFalseAt-found : (c : PlainCondition) (j : ℕ) (atom : Atom) → slice_get c.atoms j ≡ Some atom → IsFalseAt c j
    → IsFalse atom
IsFalseAt-found c j atom is at = subst (λ (o : Option Atom). IsSomeAnd o IsFalse) is at

pub NoneIsFalseAmong-more : (c : PlainCondition) (numbers : List ℕ) (i : ℕ) (atom : Atom) → i < length numbers
    → slice_get c.atoms (get_or numbers i 0) ≡ Some atom → NoneIsFalseAmong c (take i numbers) → ¬ IsFalse atom
    → NoneIsFalseAmong c (take (i + 1) numbers)
NoneIsFalseAmong-more c numbers i atom lt is so_far satisfied j has at =
    let number = get_or numbers i 0 in
    elim (Contains-push_cases (take i numbers) number j
    (subst (λ (xs : List ℕ). Contains xs j) (take_more numbers i 0 lt) has)) [
      | inl earlier ↦ so_far j earlier at
      | inr last ↦ satisfied (IsFalseAt-found c number atom is (subst (IsFalseAt c) (sym last) at))
    ]

-- of ascending numbers, one that is less than that at a place stands before it
Contains-before : (xs : List ℕ) (i x : ℕ) → AllPairs ◌<◌ xs → i < length xs → Contains xs x → x < get_or xs i 0
    → Contains (take i xs) x
Contains-before xs i x ascending lt has below =
    let k = has.0 in
    let at_k : get_or xs k 0 ≡ x = get_or_default xs k 0 x has.1 ∙ has.2 in
    elim (cases_lt k i) [
      | inl before ↦ (k, omega (arith, length-take i xs), get_or-take i xs k x before ∙ has.2)
      | inr later ↦ elim (eqb_tells k i) [
        | inl same ↦ (let e = ap (λ (n : ℕ). get_or xs n 0) same.1 in absurd (omega arith))
        | inr other ↦ (let ne = other.1 in let up = ascending i k 0 (omega arith) has.1 in absurd (omega arith))
      ]
    ]

-- the first of ascending numbers
pub IsFirstFalse-here : (c : PlainCondition) (s : PlainSlice) (i : ℕ) (atom : Atom) → AllPairs ◌<◌ s.atoms
    → i < length s.atoms → slice_get c.atoms (get_or s.atoms i 0) ≡ Some atom → NoneIsFalseAmong c (take i s.atoms)
    → IsFalse atom → IsFirstFalse c s (get_or s.atoms i 0)
IsFirstFalse-here c s i atom ascending lt is so_far false =
    let j = get_or s.atoms i 0 in
    record {
      in_slice = Contains-get_or s.atoms i 0 lt;
      is_false = IsSomeAnd-found (slice_get c.atoms j) IsFalse atom is false;
      first = λ k has below. so_far k (Contains-before s.atoms i k ascending lt has below);
    }

-- what names only variables of a condition names only variables below 64
pub AtomNamesBelow-64 : (c : PlainCondition) (j : ℕ) (atom : Atom) → Fits c.vars c.atoms
    → slice_get c.atoms j ≡ Some atom → AtomNamesBelow 64 atom
AtomNamesBelow-64 c j atom fits is =
    let within = slice_get_within c.atoms j atom is in
    let n = length c.vars in
    let few = fits.few_vars in
    let here : AtomNamesBelow n atom =
    subst (AtomNamesBelow n) (get_or_from_slice_get c.atoms j atom atom is) (fits.in_range j atom within) in
    AtomNamesBelow-larger n 64 few atom here
