-- What the node of a box keeps.
use Rattle.std.specs.Prelude.{◌≡◌, ℕ, ◌<◌, ℤ, true, Option, Some, None, List, length, slice_index_or}
use Rattle.lin_model.specs.KeyAtom.{PlainKeyAtom}
use Rattle.refutation.specs.declared.node.Node.{Node}
use Rattle.refutation.specs.declared.node.Node.TheVariants.{Split, NeSplit, Combo, Fixed, Empty, Left}
use Rattle.refutation.specs.Box.{PlainBox}
use Rattle.refutation.specs.Boxed.{IsCut}
use Rattle.refutation.specs.Reading.{names_ne}
use Rattle.refutation.specs.SearchOrder.{Numbered}
use Rattle.refutation.specs.SearchTree.{IsFair}

-- the number of an atom of the key, where there is the atom
abbrev pub IsNumberOf : List PlainKeyAtom → Option Numbered → Option ℕ → Type 0
IsNumberOf key None number = number ≡ None
IsNumberOf key (Some f) number =
    (number ≡ Some f.number) × (f.number < length key)
    × ((d : PlainKeyAtom) → slice_index_or key f.number d ≡ f.atom)

-- a fair split whose cut lies between the sides of its variable
pub record IsFairCut (key : List PlainKeyAtom) (box : PlainBox) (v : ℕ) (cut : ℤ) : Type 0 where
  pub lo : ℤ
  pub hi : ℤ
  pub fair : IsFair key box (Split v cut)
  pub between : IsCut box.bounds v lo hi cut

-- a split by an atom `form != c` of the key, by which no split above the box is
pub record IsFairNeSplit (key : List PlainKeyAtom) (box : PlainBox) (i : ℕ) : Type 0 where
  pub fair : IsFair key box (NeSplit i)
  pub of_key : names_ne key i ≡ true

-- a node that splits the box fairly
abbrev pub SplitsFairly : List PlainKeyAtom → PlainBox → Node → Type 0
SplitsFairly key box (Split v cut) = IsFairCut key box v cut
SplitsFairly key box (NeSplit i) = IsFairNeSplit key box i
SplitsFairly key box (Combo count) = ⊥
SplitsFairly key box (Fixed i) = ⊥
SplitsFairly key box Empty = ⊥
SplitsFairly key box Left = ⊥
