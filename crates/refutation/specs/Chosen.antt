-- A choice among the atoms of a key, and a tree that is read over a whole key from the bounds of the chosen atoms alone.
use Rattle.std.specs.Prelude.{◌≡◌, Bool, true, false, List, [], ◌∷◌}
use Rattle.lin_model.specs.KeyAtom.{PlainKeyAtom}
use Rattle.refutation.specs.declared.leaf.LeafTerm.{LeafTerm}
use Rattle.refutation.specs.declared.node.Node.{Node}
use Rattle.refutation.specs.Bounds.{key_bounds}
use Rattle.refutation.specs.Box.{PlainBox}
use Rattle.refutation.specs.Reading.{read_over}

-- the chosen atoms, in order: those at whose place the choice has true
abbrev pub chosen : List PlainKeyAtom → List Bool → List PlainKeyAtom
chosen [] choice = []
chosen (a ∷ atoms) [] = []
chosen (a ∷ atoms) (true ∷ choice) = a ∷ chosen atoms choice
chosen (a ∷ atoms) (false ∷ choice) = chosen atoms choice

-- the box that the chosen atoms bound
abbrev pub chosen_box : List PlainKeyAtom → List Bool → PlainBox
chosen_box key choice = record { bounds = key_bounds (chosen key choice); sides = [] }

-- each node finds an undecided box and may stand there, the box given being the first, and nodes and terms end just as
-- no box is left
pub record ClosesBox (key : List PlainKeyAtom) (box : PlainBox) (nodes : List Node) (terms : List LeafTerm) : Type 0
  where
    pub no_rest : (read_over false key nodes terms (box ∷ [])).rest ≡ []
    pub no_terms : (read_over false key nodes terms (box ∷ [])).terms ≡ []
    pub no_boxes : (read_over false key nodes terms (box ∷ [])).boxes ≡ []
