-- What cores keep.
use Rattle.std.specs.Prelude.{◌≡◌, ℕ, ◌<◌, Bool, false, IfSome, List, length, slice_get, slice_index_or}
use Rattle.lin_model.specs.KeyAtom.{PlainKeyAtom}
use Rattle.lin_model.specs.Key.{IsKey}
use Rattle.refutation.specs.Chosen.{chosen, chosen_box, ClosesBox}
use Rattle.refutation.specs.Reading.{Refutes}
use Rattle.refutation.specs.Tree.{PlainTree}
use Rattle.unsat_core.specs.Cores.{HasNamed, IsCoreOf, RefutesChosen, is_bound}
use Rattle.std.specs.Prelude.{◌↔◌}

-- a tree, by the new numbers, refutes a choice that has all atoms which it names just where, as it is, it closes the box
-- that the chosen atoms bound
abbrev pub ChoicesAreClosedAlike : Type 0
ChoicesAreClosedAlike = (key : List PlainKeyAtom) (tree : PlainTree) (choice : List Bool)
    → length choice ≡ length key → HasNamed key tree choice
    → RefutesChosen key tree choice ↔ ClosesBox key (chosen_box key choice) tree.nodes tree.terms

-- an atom that isn't chosen gives no bound
abbrev pub HasBounds : List PlainKeyAtom → List Bool → Type 0
HasBounds key choice = (i : ℕ) → i < length key → slice_index_or choice i false ≡ false
    → IfSome (slice_get key i) (λ a. is_bound a ≡ false)

-- what a tree refutes it refutes without the atoms that it doesn't name and that give no bound
abbrev pub OthersCanGo : Type 0
OthersCanGo = (key : List PlainKeyAtom) (tree : PlainTree) (choice : List Bool)
    → length choice ≡ length key → HasNamed key tree choice → HasBounds key choice
    → Refutes key tree.nodes tree.terms → RefutesChosen key tree choice

-- chosen atoms of a key are a key
abbrev pub ChosenAreKeys : Type 0
ChosenAreKeys = (key : List PlainKeyAtom) (choice : List Bool) → IsKey key → IsKey (chosen key choice)

-- each key that a tree refutes has a core
pub record HasCore (key : List PlainKeyAtom) (tree : PlainTree) : Type 0 where
  pub core : List PlainKeyAtom
  pub core_tree : PlainTree
  pub is : IsCoreOf key tree core core_tree

abbrev pub RefutedKeysHaveCores : Type 0
RefutedKeysHaveCores = (key : List PlainKeyAtom) (tree : PlainTree) → Refutes key tree.nodes tree.terms
    → HasCore key tree
