-- What the atoms of a slice come to, all together.
use Rattle.std.specs.Prelude.{◌≡◌, List}
use Rattle.lin_model.specs.Conditions.{PlainCondition}
use Rattle.lin_model.specs.KeyAtom.{PlainKeyAtom}
use Rattle.slicer.specs.Slices.{PlainSlice}
use Rattle.canoniser.specs.declared.slice_forms.SliceForms.{SliceForms}
use Rattle.canoniser.specs.declared.slice_forms.SliceForms.TheVariants.{False, Atoms}
use Rattle.canoniser.specs.Forms.{key_atoms}
use Rattle.canoniser.specs.Numbering.{atoms_of, order_of}
use Rattle.canoniser.specs.Solutions.{IsFirstFalse, NoneIsFalseAmong}

-- some integers satisfy each atom of the slice, and these are their canonical atoms
pub record AreKeyAtoms (c : PlainCondition) (s : PlainSlice) (canonical : List PlainKeyAtom) : Type 0 where
  pub none_false : NoneIsFalseAmong c s.atoms
  pub are : canonical ≡ key_atoms (order_of c s) (atoms_of c s)

-- the first atom that no integers satisfy, where there is one; otherwise the canonical atoms
abbrev pub AreForms : PlainCondition → PlainSlice → SliceForms → Type 0
AreForms c s (False j) = IsFirstFalse c s j
AreForms c s (Atoms canonical) = AreKeyAtoms c s canonical.items
