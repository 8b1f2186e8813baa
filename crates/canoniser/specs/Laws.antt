-- What doesn't change the key of a slice.
use Rattle.std.specs.Prelude.{◌≡◌, ◌↔◌, ℕ, ◌+◌, ◌<◌, List, ◌++◌, length, take, drop, map, slice_index_or, Contains}
use Rattle.std.specs.Prelude.{option_map}
use Rattle.lin_model.specs.Terms.{PlainVar, PlainTerm}
use Rattle.lin_model.specs.Conditions.{PlainCondition, Fits}
use Rattle.lin_model.specs.declared.atom.Atom.{Atom}
use Rattle.lin_model.specs.KeyAtom.{PlainKeyAtom}
use Rattle.slicer.specs.Slices.{PlainSlice}
use Rattle.canoniser.specs.Keys.{IsSliceIn, IsKeyOf}
use Rattle.canoniser.specs.Factors.{IsScaled}

-- two slices, each of its condition, have the same keys
abbrev pub HaveSameKeys : PlainCondition → PlainSlice → PlainCondition → PlainSlice → Type 0
HaveSameKeys c s d t = (key : List PlainKeyAtom) → IsKeyOf c s key ↔ IsKeyOf d t key

-- the condition with its atom of the number i once more after itself
abbrev pub repeated : ℕ → PlainCondition → PlainCondition
repeated i c = record { vars = c.vars; atoms = take (i + 1) c.atoms ++ drop i c.atoms }

-- where an atom is repeated after itself, the slice of the same variables has the same keys
abbrev pub RepeatingKeepsKeys : Type 0
RepeatingKeepsKeys = (c : PlainCondition) (i : ℕ) (s t : PlainSlice) → Fits c.vars c.atoms → i < length c.atoms
    → IsSliceIn c s → IsSliceIn (repeated i c) t → s.vars ≡ t.vars → HaveSameKeys c s (repeated i c) t

-- each of the numbers below n has another one below n, from which the second function leads back
pub record IsOneToOne (n : ℕ) (f g : ℕ → ℕ) : Type 0 where
  pub within : (v : ℕ) → v < n → f v < n
  pub back : (v : ℕ) → v < n → g (f v) ≡ v

-- the atom with the variable f v in the place of each variable v
abbrev pub renumbered_term : (ℕ → ℕ) → PlainTerm → PlainTerm
renumbered_term f term = record { factor = term.factor; var = option_map f term.var }

abbrev pub renumbered : (ℕ → ℕ) → Atom → Atom
renumbered f atom = record {
  left = map (renumbered_term f) atom.left;
  cmp = atom.cmp;
  right =
      map (renumbered_term f) atom.right;
}

pub record HaveSameBounds (var other : PlainVar) : Type 0 where
  pub lo : var.lo ≡ other.lo
  pub hi : var.hi ≡ other.hi

-- the second condition is the first with its variables numbered otherwise, each with its bounds
pub record IsRenumbered (f : ℕ → ℕ) (c d : PlainCondition) : Type 0 where
  pub count : length d.vars ≡ length c.vars
  pub bounds : (v : ℕ) (var : PlainVar) → v < length c.vars
      → HaveSameBounds (slice_index_or c.vars v var) (slice_index_or d.vars (f v) var)
  pub atoms : d.atoms ≡ map (renumbered f) c.atoms

-- where variables are numbered otherwise, one to one and with their bounds, the slice of the same variables has the
-- same keys
abbrev pub RenumberingKeepsKeys : Type 0
RenumberingKeepsKeys = (c d : PlainCondition) (s t : PlainSlice) (f g : ℕ → ℕ) → Fits c.vars c.atoms
    → IsOneToOne (length c.vars) f g → IsOneToOne (length c.vars) g f → IsRenumbered f c d → IsSliceIn c s
    → IsSliceIn d t
    → ((v : ℕ) → v < length c.vars → Contains s.vars v ↔ Contains t.vars (f v)) → HaveSameKeys c s d t

-- where both sides of atoms are multiplied by positive numbers, a slice has the same keys
abbrev pub FactorsKeepKeys : Type 0
FactorsKeepKeys = (c d : PlainCondition) (s : PlainSlice) → IsScaled c d → HaveSameKeys c s d s
