-- Laws of the texts of canonical atoms.
use Rattle.std.specs.Prelude.{◌≡◌, ℕ, ◌≤◌, Bool, false, ◌⊎◌, List, [], ◌∷◌, ◌++◌, length}
use Rattle.lin_model.specs.KeyAtom.{PlainKeyAtom, IsCanonical}
use Rattle.lin_text.specs.declared.fault.TextKind.{TextKind}
use Rattle.lin_text.specs.Pieces.{Piece, line_end}
use Rattle.lin_text.specs.FirstFaults.{HasFaultFrom}
use Rattle.lin_text.specs.FoundLaws.{IsOver}
use Rattle.lin_text.specs.KeyAtoms.{key_atom_text}
use Rattle.lin_text.specs.KeyAtomTexts.{SpellsAtom, HasAtomFault, atom_rules, IsAtomText}

-- what is written for a canonical atom spells it, wherever the line ends behind it
abbrev pub WrittenAtomIsSpelled : Type 0
WrittenAtomIsSpelled = (in_proof : Bool) (front rest : List ℕ) (a : PlainKeyAtom) → IsCanonical a → IsOver rest
    → SpellsAtom in_proof (front ++ (key_atom_text a ++ rest)) (length front) a (line_end ∷ [])

-- a text spells one canonical atom at most from a place on
abbrev pub AtomSpelledOnce : Type 0
AtomSpelledOnce = (in_proof : Bool) (bytes : List ℕ) (at : ℕ) (a b : PlainKeyAtom) (after behind : List Piece)
    → SpellsAtom in_proof bytes at a after → SpellsAtom in_proof bytes at b behind → (a ≡ b) × (after ≡ behind)

-- a line that spells a canonical atom has no fault
abbrev pub SpelledAtomHasNoFault : Type 0
SpelledAtomHasNoFault = (in_proof : Bool) (bytes : List ℕ) (at : ℕ) (a : PlainKeyAtom) (kind : TextKind) (place : ℕ)
    → SpellsAtom in_proof bytes at a (line_end ∷ []) → HasAtomFault in_proof bytes at kind place → ⊥

-- what is written for a canonical atom is a text of it
abbrev pub WrittenAtomIsText : Type 0
WrittenAtomIsText = (a : PlainKeyAtom) → IsCanonical a → IsAtomText (key_atom_text a) a

-- a text is one of one canonical atom at most
abbrev pub AtomTextOnce : Type 0
AtomTextOnce = (bytes : List ℕ) (a b : PlainKeyAtom) → IsAtomText bytes a → IsAtomText bytes b → a ≡ b

-- a text of a canonical atom has no fault
abbrev pub AtomTextHasNoFault : Type 0
AtomTextHasNoFault = (bytes : List ℕ) (a : PlainKeyAtom) (kind : TextKind) (place : ℕ) → IsAtomText bytes a
    → HasFaultFrom atom_rules false bytes false 0 kind place → ⊥

-- each place of a text spells a canonical atom, up to the end of its line, or its line has a first fault from there on
abbrev pub AtomSpelledOrFaulty : Type 0
AtomSpelledOrFaulty = (in_proof : Bool) (bytes : List ℕ) (at : ℕ) → at ≤ length bytes
    → ((a : PlainKeyAtom) × SpellsAtom in_proof bytes at a (line_end ∷ []))
    ⊎ ((kind : TextKind) × (place : ℕ) × HasAtomFault in_proof bytes at kind place)

-- a text is one of a canonical atom, or has a first fault
abbrev pub AtomTextOrFaulty : Type 0
AtomTextOrFaulty = (bytes : List ℕ) → ((a : PlainKeyAtom) × IsAtomText bytes a)
    ⊎ ((kind : TextKind) × (place : ℕ) × HasFaultFrom atom_rules false bytes false 0 kind place)

-- an atom's line has at most one first fault, at one place
abbrev pub OneFirstAtomFault : Type 0
OneFirstAtomFault = (in_proof : Bool) (bytes : List ℕ) (at : ℕ) (k j : TextKind) (a b : ℕ)
    → HasAtomFault in_proof bytes at k a → HasAtomFault in_proof bytes at j b → (k ≡ j) × (a ≡ b)

-- so has a text of one atom
abbrev pub OneFirstAtomTextFault : Type 0
OneFirstAtomTextFault = (bytes : List ℕ) (k j : TextKind) (a b : ℕ)
    → HasFaultFrom atom_rules false bytes false 0 k a → HasFaultFrom atom_rules false bytes false 0 j b
    → (k ≡ j) × (a ≡ b)
