-- Trees of a search: finished ones, and open ones, whose undecided boxes are marked.
use Rattle.std.specs.Prelude.{◌≡◌, ◌≢◌, ℕ, suc, ◌*◌, ◌<◌, ℤ, ◌-ℤ◌, Bool, true, false, if◌then◌else◌, int_lt, Option}
use Rattle.std.specs.Prelude.{Some, None, IsSomeAnd, List, [], ◌∷◌, unsigned_abs}
use Rattle.std.specs.List.{All, AllPairs, count_by, range_with_len, find}
use Rattle.lin_model.specs.KeyAtom.{PlainKeyAtom}
use Rattle.lin_model.specs.Key.{KeyHolds, key_width}
use Rattle.refutation.specs.declared.leaf.LeafTerm.{LeafTerm}
use Rattle.refutation.specs.declared.node.Node.{Node}
use Rattle.refutation.specs.declared.node.Node.TheVariants.{Split, NeSplit, Combo, Fixed, Empty, Left}
use Rattle.refutation.specs.Bounds.{PlainBounds, lower_of, upper_of, key_bounds, is_empty}
use Rattle.refutation.specs.Box.{PlainBox, is_ne, left_half, right_half}
use Rattle.refutation.specs.Leaf.{ClosedByOneAtom, ClosedBySumOfTwo}
use Rattle.refutation.specs.Reading.{Met, TreeReading, tree_reading}
use Rattle.refutation.specs.SearchOrder.{lowest_corner, step}

-- ---- nodes

-- the node splits its box
abbrev pub is_inner : Node → Bool
is_inner (Split v cut) = true
is_inner (NeSplit i) = true
is_inner (Combo count) = false
is_inner (Fixed i) = false
is_inner Empty = false
is_inner Left = false

-- the node leaves its box undecided
abbrev pub is_left : Node → Bool
is_left (Split v cut) = false
is_left (NeSplit i) = false
is_left (Combo count) = false
is_left (Fixed i) = false
is_left Empty = false
is_left Left = true

-- how many inner nodes there are
abbrev pub inner_count : List Node → ℕ
inner_count nodes = count_by is_inner nodes

-- no inner node stands behind a Left
abbrev pub NoInnerAfterLeft : List Node → Type 0
NoInnerAfterLeft nodes = AllPairs (λ node later. is_left node ≡ true → is_inner later ≡ false) nodes

-- a split of a variable of the key into two halves that aren't empty
pub record IsFairSplit (key : List PlainKeyAtom) (box : PlainBox) (v : ℕ) (cut : ℤ) : Type 0 where
  pub of_key : v < key_width key
  pub left : is_empty (left_half box v cut).bounds ≡ false
  pub right : is_empty (right_half box v cut).bounds ≡ false

-- what an inner node keeps: a fair split, or a split by an atom that no split above the box is by
abbrev pub IsFair : List PlainKeyAtom → PlainBox → Node → Type 0
IsFair key box (Split v cut) = IsFairSplit key box v cut
IsFair key box (NeSplit i) = All (λ side. side.atom ≢ i) box.sides
IsFair key box (Combo count) = ⊥
IsFair key box (Fixed i) = ⊥
IsFair key box Empty = ⊥
IsFair key box Left = ⊥

-- ---- readings

-- the reading of a tree in which Left may stand
abbrev pub search_reading : List PlainKeyAtom → List Node → List LeafTerm → TreeReading
search_reading key nodes terms = tree_reading true key nodes terms

-- the boxes that a tree leaves undecided, besides those that a Left marks
abbrev pub undecided_boxes : List PlainKeyAtom → List Node → List LeafTerm → List PlainBox
undecided_boxes key nodes terms = (search_reading key nodes terms).boxes

-- the first Left that is read, with its box
abbrev pub first_left : List Met → Option Met
first_left met = find (λ m. is_left m.node) met

-- ---- search trees

-- a box that has to be split: nothing closes it at a glance, and its lowest corner isn't a model
pub record IsUndecided (key : List PlainKeyAtom) (box : PlainBox) : Type 0 where
  pub not_by_one : ¬ ClosedByOneAtom key box
  pub not_by_two : ¬ ClosedBySumOfTwo key box
  pub corner_fails : ¬ KeyHolds key (lowest_corner key box.bounds)

-- an inner node where a search puts one: fair, at a box that has to be split, and the one that the box asks for
pub record IsSearchSplit (key : List PlainKeyAtom) (box : PlainBox) (node : Node) : Type 0 where
  pub fair : IsFair key box node
  pub undecided : IsUndecided key box
  pub in_order : step key box ≡ Some node

-- where an inner node is met, it is the one that a search puts at its box
abbrev pub KeepsOrder : List PlainKeyAtom → Met → Type 0
KeepsOrder key m = is_inner m.node ≡ true → IsSearchSplit key m.box m.node

-- each node and each term is read, and the inner nodes are those of a search that begins with the root box of the key;
-- boxes may be left
pub record IsSearchTree (key : List PlainKeyAtom) (nodes : List Node) (terms : List LeafTerm) : Type 0 where
  pub no_rest : (search_reading key nodes terms).rest ≡ []
  pub no_terms : (search_reading key nodes terms).terms ≡ []
  pub in_order : All (KeepsOrder key) (search_reading key nodes terms).met

-- a tree of a search that was ended after just this many splits: all inner nodes stand before its first Left, it decides
-- every box, and the box at its first Left is one that has to be split
pub record IsOpenTree (key : List PlainKeyAtom) (splits : ℕ) (nodes : List Node) (terms : List LeafTerm) : Type 0 where
  pub search : IsSearchTree key nodes terms
  pub inner : inner_count nodes ≡ splits
  pub no_boxes : undecided_boxes key nodes terms ≡ []
  pub left_last : NoInnerAfterLeft nodes
  pub first : IsSomeAnd (first_left (search_reading key nodes terms).met) (λ (m : Met). IsUndecided key m.box)

-- ---- how many splits a search may need

-- how many numbers stand from one side to the other, 0 where they cross; room is asked where both sides are there
abbrev pub number_between : Option ℤ → Option ℤ → ℕ
number_between None o = 0
number_between (Some l) None = 0
number_between (Some l) (Some u) = if int_lt u l then 0 else suc (unsigned_abs (u -ℤ l))

-- the product of the numbers of values of these variables
abbrev pub points_over : PlainBounds → List ℕ → ℕ
points_over b [] = 1
points_over b (v ∷ vs) = number_between (lower_of b v) (upper_of b v) * points_over b vs

-- 2 for each atom `form != c`
abbrev pub doubling : List PlainKeyAtom → ℕ
doubling [] = 1
doubling (a ∷ atoms) = (if is_ne a then 2 else 1) * doubling atoms

-- the number of points of the key's bounds over the variables below its width, doubled for each atom `form != c`
unfoldable pub room : List PlainKeyAtom → ℕ
room key = points_over (key_bounds key) (range_with_len 0 (key_width key)) * doubling key
