-- One atom of a slice, over the slice's variables.
use Rattle.std.proofs.Common.{◌≡◌, ◌≢◌, ◌↔◌, ℕ, ◌+◌, ◌<◌, ◌≤◌, List, [], ◌∷◌, ◌++◌, length, take, get_or, Some, refl}
use Rattle.std.proofs.Common.{sym, ap, ◌∙◌, subst, arith, append-nil}
use Rattle.std.specs.List.{All, AllPairs, slice_get, cons_option}
use Rattle.std.proofs.lemmas.List.Elements.{Contains-get_or}
use Rattle.std.proofs.Math.Seq.{take-length}
use Rattle.lin_model.specs.Conditions.{PlainCondition, AtomNamesBelow, Fits}
use Rattle.lin_model.specs.declared.atom.Atom.{Atom}
use Rattle.lin_model.specs.KeyAtom.{PlainKeyAtom}
use Rattle.lin_model.specs.Lists.{Contains-filter_map}
use Rattle.slicer.specs.Laws.{HasNamed}
use Rattle.slicer.specs.Slices.{PlainSlice}
use Rattle.canoniser.specs.declared.atom_form.AtomForm.{AtomForm}
use Rattle.canoniser.specs.declared.atom_form.AtomForm.TheVariants.{True, False, KeyAtom}
use Rattle.canoniser.specs.Forms.{canonical_form, key_atom_in, key_atoms}
use Rattle.canoniser.specs.Numbering.{order_of}
use Rattle.canoniser.specs.Keys.{IsSliceIn}
use Rattle.canoniser.specs.Solutions.{IsFalse, NoneIsFalseAmong, IsFirstFalse}
use Rattle.canoniser.specs.SliceForms.{AreKeyAtoms}
use Rattle.canoniser.proofs.SliceLemmas.{NamesOnly, IsWithin-slice}
use Rattle.canoniser.proofs.KeyAtomsLemmas.{atoms_at, atoms_at-more, key_atoms-push, NoneIsFalseAmong-more}
use Rattle.canoniser.proofs.KeyAtomsLemmas.{IsFirstFalse-here}
use Rattle.canoniser.proofs.KeyAtomsLemmas.{AtomNamesBelow-64}
use Rattle.canoniser.proofs.FalseLemmas.{is_false-tells}
use Rattle.canoniser.proofs.NumberingLemmas.{order_of-distinct, order_of-below, order_of-few, order_of-names}

-- the atom stands at a place of the slice, whose variables are in this order
pub record IsTurn (c : PlainCondition) (s : PlainSlice) (order : List ℕ) (i : ℕ) (atom : Atom) : Type 0 where
  pub fits : Fits c.vars c.atoms
  pub slice : IsSliceIn c s
  pub numbered : order ≡ order_of c s
  pub place : i < length s.atoms
  pub read : slice_get c.atoms (get_or s.atoms i 0) ≡ Some atom

-- the variables in their order are at most 64, each once, and of the condition
pub record IsOrder (c : PlainCondition) (order : List ℕ) : Type 0 where
  pub distinct : AllPairs ◌≢◌ order
  pub few : length order ≤ 64
  pub declared : All (λ v. v < length c.vars) order
  pub in_range : All (λ v. v < 64) order

-- the variables in their order stand there once each
distinct-turn : (c : PlainCondition) (s : PlainSlice) (order : List ℕ) → order ≡ order_of c s → AllPairs ◌≢◌ order
distinct-turn c s order numbered = subst (AllPairs ◌≢◌) (sym numbered) (order_of-distinct c s)

pub IsOrder-slice : (c : PlainCondition) (s : PlainSlice) (order : List ℕ) → Fits c.vars c.atoms → HasNamed c s
    → IsSliceIn c s → order ≡ order_of c s → IsOrder c order
IsOrder-slice c s order fits named one numbered =
    let of_slice : All (λ v. v < length c.vars) (order_of c s) =
    λ k d lt. order_of-below c s named one (get_or (order_of c s) k d) (Contains-get_or (order_of c s) k d lt) in
    let declared : All (λ v. v < length c.vars) order =
    subst (λ (o : List ℕ). All (λ v. v < length c.vars) o) (sym numbered) of_slice in
    let few_vars = fits.few_vars in
    record {
      distinct = distinct-turn c s order numbered;
      few = subst (λ (o : List ℕ). length o ≤ 64) (sym numbered) (order_of-few c s fits named one);
      declared = declared;
      in_range = λ k d lt. let below = declared k d lt in omega arith;
    }

-- the atom names only variables that have a number
NamesOnly-turn : (c : PlainCondition) (s : PlainSlice) (order : List ℕ) (i : ℕ) (atom : Atom) → IsTurn c s order i atom
    → NamesOnly order atom
NamesOnly-turn c s order i atom turn =
    subst (λ (o : List ℕ). NamesOnly o atom) (sym turn.numbered)
    (order_of-names c s atom
    (Contains-filter_map (λ (j : ℕ). slice_get c.atoms j) s.atoms (get_or s.atoms i 0) atom
    (Contains-get_or s.atoms i 0 turn.place) turn.read))

pub AtomNamesBelow-turn : (c : PlainCondition) (s : PlainSlice) (order : List ℕ) (i : ℕ) (atom : Atom)
    → IsTurn c s order i atom → AtomNamesBelow 64 atom
AtomNamesBelow-turn c s order i atom turn = AtomNamesBelow-64 c (get_or s.atoms i 0) atom turn.fits turn.read

-- no integers satisfy an atom exactly where its canonical form is False
is_false-turn : (c : PlainCondition) (s : PlainSlice) (order : List ℕ) (i : ℕ) (atom : Atom) → IsTurn c s order i atom
    → IsFalse atom ↔ (canonical_form order atom ≡ False)
is_false-turn c s order i atom turn =
    is_false-tells order atom (distinct-turn c s order turn.numbered) (NamesOnly-turn c s order i atom turn)

pub IsFirstFalse-turn : (c : PlainCondition) (s : PlainSlice) (order : List ℕ) (i : ℕ) (atom : Atom)
    → IsTurn c s order i atom → NoneIsFalseAmong c (take i s.atoms) → canonical_form order atom ≡ False
    → IsFirstFalse c s (get_or s.atoms i 0)
IsFirstFalse-turn c s order i atom turn before is =
    let false = (is_false-turn c s order i atom turn).1 is in
    IsFirstFalse-here c s i atom (IsWithin-slice c s turn.slice).ascending turn.place turn.read before false

pub NoneIsFalseAmong-turn : (c : PlainCondition) (s : PlainSlice) (order : List ℕ) (i : ℕ) (atom : Atom)
    → IsTurn c s order i atom → NoneIsFalseAmong c (take i s.atoms) → canonical_form order atom ≢ False
    → NoneIsFalseAmong c (take (i + 1) s.atoms)
NoneIsFalseAmong-turn c s order i atom turn before other =
    NoneIsFalseAmong-more c s.atoms i atom turn.place turn.read before
    (λ false. other ((is_false-turn c s order i atom turn).0 false))

-- some integers satisfy each atom before a place, and these are their canonical atoms
pub record AreKeyAtomsBefore (c : PlainCondition) (s : PlainSlice) (order : List ℕ) (i : ℕ)
    (canonical : List PlainKeyAtom) : Type 0 where
  pub none_false : NoneIsFalseAmong c (take i s.atoms)
  pub are : canonical ≡ key_atoms order (atoms_at c (take i s.atoms))

-- one more atom
more_key_atoms : (c : PlainCondition) (s : PlainSlice) (order : List ℕ) (i : ℕ) (atom : Atom)
    (canonical : List PlainKeyAtom) (form : AtomForm) → IsTurn c s order i atom
    → AreKeyAtomsBefore c s order i canonical → canonical_form order atom ≡ form
    → canonical ++ cons_option (key_atom_in form) [] ≡ key_atoms order (atoms_at c (take (i + 1) s.atoms))
more_key_atoms c s order i atom canonical form turn before is =
    ap (λ (xs : List PlainKeyAtom). xs ++ cons_option (key_atom_in form) []) before.are
    ∙ sym (ap (key_atoms order) (atoms_at-more c s.atoms i atom turn.place turn.read)
    ∙ key_atoms-push order (atoms_at c (take i s.atoms)) atom form is)

-- one that all integers satisfy
pub AreKeyAtomsBefore-true : (c : PlainCondition) (s : PlainSlice) (order : List ℕ) (i : ℕ) (atom : Atom)
    (canonical : List PlainKeyAtom) → IsTurn c s order i atom → AreKeyAtomsBefore c s order i canonical
    → canonical_form order atom ≡ True → AreKeyAtomsBefore c s order (i + 1) canonical
AreKeyAtomsBefore-true c s order i atom canonical turn before is = record {
  none_false = NoneIsFalseAmong-turn c s order i atom turn before.none_false (λ false. cc);
  are = sym (append-nil canonical) ∙ more_key_atoms c s order i atom canonical True turn before is;
}

-- one that says the same as a canonical atom
pub AreKeyAtomsBefore-key_atom : (c : PlainCondition) (s : PlainSlice) (order : List ℕ) (i : ℕ) (atom : Atom)
    (canonical : List PlainKeyAtom) (a : PlainKeyAtom) → IsTurn c s order i atom
    → AreKeyAtomsBefore c s order i canonical → canonical_form order atom ≡ KeyAtom a
    → AreKeyAtomsBefore c s order (i + 1) (canonical ++ a ∷ [])
AreKeyAtomsBefore-key_atom c s order i atom canonical a turn before is = record {
  none_false = NoneIsFalseAmong-turn c s order i atom turn before.none_false (λ false. cc);
  are = more_key_atoms c s order i atom canonical (KeyAtom a) turn before is;
}

pub AreKeyAtomsBefore-none : (c : PlainCondition) (s : PlainSlice) (order : List ℕ)
    → AreKeyAtomsBefore c s order 0 []
AreKeyAtomsBefore-none c s order = record { none_false = λ j has. absurd (omega (arith, has.1)); are = refl }

-- all atoms
pub AreKeyAtoms-all : (c : PlainCondition) (s : PlainSlice) (order : List ℕ) (i : ℕ) (canonical : List PlainKeyAtom)
    → order ≡ order_of c s → i ≡ length s.atoms → AreKeyAtomsBefore c s order i canonical → AreKeyAtoms c s canonical
AreKeyAtoms-all c s order i canonical numbered end before =
    let all : take i s.atoms ≡ s.atoms = ap (λ (n : ℕ). take n s.atoms) end ∙ take-length s.atoms in
    record {
      none_false = subst (NoneIsFalseAmong c) all before.none_false;
      are = before.are ∙ ap (λ (o : List ℕ). key_atoms o (atoms_at c (take i s.atoms))) numbered
          ∙ ap (λ (numbers : List ℕ). key_atoms (order_of c s) (atoms_at c numbers)) all;
    }
