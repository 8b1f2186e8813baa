-- The atoms of a slice, all of them: some integers satisfy each, or one is the first that none satisfy.
use Rattle.std.proofs.Common.{◌≡◌, ℕ, ◌+◌, ◌<◌, ◌≤◌, zero, suc, List, length, take, get_or, ◌⊎◌, inl, inr, refl, subst}
use Rattle.std.proofs.Common.{arith}
use Rattle.std.specs.List.{All, slice_get}
use Rattle.std.proofs.Math.Seq.{take-length}
use Rattle.std.proofs.lemmas.List.Elements.{Contains-get_or}
use Rattle.lin_model.specs.Conditions.{PlainCondition, IsCondition, AtomFits}
use Rattle.lin_model.specs.declared.atom.Atom.{Atom}
use Rattle.lin_model.specs.KeyAtom.{IsCanonical}
use Rattle.lin_model.specs.Lists.{Given-filter_map, Found-at, All-at}
use Rattle.slicer.specs.Slices.{PlainSlice}
use Rattle.canoniser.specs.declared.atom_form.AtomForm.{AtomForm}
use Rattle.canoniser.specs.declared.atom_form.AtomForm.TheVariants.{True, False, KeyAtom}
use Rattle.canoniser.specs.Forms.{canonical_form, key_atoms}
use Rattle.canoniser.specs.Keys.{IsSliceIn}
use Rattle.canoniser.specs.Numbering.{atoms_of, order_of}
use Rattle.canoniser.specs.Solutions.{NoneIsFalseAmong, IsFirstFalse}
use Rattle.canoniser.proofs.CanonicalLemmas.{key_atom-canonical}
use Rattle.canoniser.proofs.KeyAtomsLemmas.{Contains-key_atoms}
use Rattle.canoniser.proofs.SliceLemmas.{IsWithin-slice}
use Rattle.canoniser.proofs.TurnLemmas.{IsTurn, IsFirstFalse-turn, NoneIsFalseAmong-turn}

pub record SomeFalse (c : PlainCondition) (s : PlainSlice) : Type 0 where
  pub number : ℕ
  pub first : IsFirstFalse c s number

-- the atom at a place of the slice
record OneTurn (c : PlainCondition) (s : PlainSlice) (i : ℕ) : Type 0 where
  pub atom : Atom
  pub turn : IsTurn c s (order_of c s) i atom

turn_of : (c : PlainCondition) (s : PlainSlice) → IsCondition c → IsSliceIn c s → (i : ℕ) → i < length s.atoms
    → OneTurn c s i
turn_of c s fits one i lt =
    let j = get_or s.atoms i 0 in
    let declared : j < length c.atoms = (IsWithin-slice c s one).atoms j (Contains-get_or s.atoms i 0 lt) in
    let found = Found-at c.atoms j declared in
    record {
      atom = found.value;
      turn = record { fits = fits.fits; slice = one; numbered = refl; place = lt; read = found.is };
    }

none_more : (c : PlainCondition) (s : PlainSlice) (i : ℕ) → OneTurn c s i → NoneIsFalseAmong c (take i s.atoms)
    → NoneIsFalseAmong c (take (i + 1) s.atoms) ⊎ SomeFalse c s
none_more c s i here so_far = by_form (canonical_form (order_of c s) here.atom) refl
  where
    by_form : (form : AtomForm) → canonical_form (order_of c s) here.atom ≡ form
        → NoneIsFalseAmong c (take (i + 1) s.atoms) ⊎ SomeFalse c s
    by_form True is = inl (NoneIsFalseAmong-turn c s (order_of c s) i here.atom here.turn so_far (λ false. cc))
    by_form False is =
        let first = IsFirstFalse-turn c s (order_of c s) i here.atom here.turn so_far is in
        inr (record { number = get_or s.atoms i 0; first = first })
    by_form (KeyAtom a) is = inl (NoneIsFalseAmong-turn c s (order_of c s) i here.atom here.turn so_far (λ false. cc))

none_before : (c : PlainCondition) (s : PlainSlice) → IsCondition c → IsSliceIn c s → (i : ℕ) → i ≤ length s.atoms
    → NoneIsFalseAmong c (take i s.atoms) ⊎ SomeFalse c s
none_before c s fits one zero few = inl (λ j has. absurd (omega (arith, has.1)))
none_before c s fits one (suc i) few =
    let next : i + 1 ≡ suc i = omega arith in
    elim (none_before c s fits one i (omega arith)) [
      | inl so_far ↦
          subst (λ (n : ℕ). NoneIsFalseAmong c (take n s.atoms) ⊎ SomeFalse c s) next
          (none_more c s i (turn_of c s fits one i (omega arith)) so_far)
      | inr some ↦ inr some
    ]

-- some integers satisfy each atom of the slice, or one is the first that none satisfy
pub none_or_first : (c : PlainCondition) (s : PlainSlice) → IsCondition c → IsSliceIn c s
    → NoneIsFalseAmong c s.atoms ⊎ SomeFalse c s
none_or_first c s fits one =
    subst (λ (numbers : List ℕ). NoneIsFalseAmong c numbers ⊎ SomeFalse c s) (take-length s.atoms)
    (none_before c s fits one (length s.atoms) (omega arith))

-- the canonical atoms of a slice are canonical
pub key_atoms-canonical : (c : PlainCondition) (s : PlainSlice) → IsCondition c → length (order_of c s) ≤ 64
    → All IsCanonical (key_atoms (order_of c s) (atoms_of c s))
key_atoms-canonical c s fits few k d lt =
    let order = order_of c s in
    let a = get_or (key_atoms order (atoms_of c s)) k d in
    let any = (Contains-key_atoms order (atoms_of c s) a).0 (Contains-get_or (key_atoms order (atoms_of c s)) k d lt) in
    let number = Given-filter_map (λ j. slice_get c.atoms j) s.atoms any.1 (any.0, any.2, any.3) in
    let atom_fits = All-at AtomFits c.atoms number.element any.1 fits.atoms number.gives in
    key_atom-canonical order any.1 a few atom_fits any.4
