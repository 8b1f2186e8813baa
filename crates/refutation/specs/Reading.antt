-- How the nodes of a tree are read over the undecided boxes, once, and what the reading says of the tree.
use Rattle.std.specs.Prelude.{◌≡◌, ◌≢◌, ◌⊎◌, ℕ, ◌^◌, ℤ, Bool, true, false, ◌&&◌, if◌then◌else◌, nat_lt, nat_le, Option}
use Rattle.std.specs.Prelude.{Some, None, List, [], ◌∷◌, ◌++◌, length, take, drop, unsigned_abs, slice_get}
use Rattle.std.specs.Option.{option_map_or}
use Rattle.lin_model.specs.KeyAtom.{PlainKeyAtom}
use Rattle.lin_model.specs.Key.{KeyHolds}
use Rattle.refutation.specs.declared.leaf.LeafTerm.{LeafTerm}
use Rattle.refutation.specs.declared.node.Node.{Node}
use Rattle.refutation.specs.declared.node.Node.TheVariants.{Split, NeSplit, Combo, Fixed, Empty, Left}
use Rattle.refutation.specs.Box.{PlainBox, root_box, is_ne, left_half, right_half, on_side}
use Rattle.refutation.specs.Leaf.{combo, fixed, empty, closes}

-- ---- one node

-- a variable and a cut that a split may have
abbrev pub is_split : ℕ → ℤ → Bool
is_split v cut = nat_lt v 64 && nat_le (unsigned_abs cut) (2 ^ 32)

-- the number is that of an atom `form != c` of the key
abbrev pub names_ne : List PlainKeyAtom → ℕ → Bool
names_ne key i = option_map_or is_ne (slice_get key i) false

-- what a node leaves: the boxes that take the place of the one that it treats, and the terms not yet taken
pub record Treated : Type 0 where
  pub boxes : List PlainBox
  pub terms : List LeafTerm

-- what a leaf leaves, where it decides the box
abbrev pub closed_by : Bool → List LeafTerm → Option Treated
closed_by closed terms = if closed then Some (record { boxes = []; terms = terms }) else None

-- what a node leaves of a box, None where it may not stand there: it is unlawful, or a leaf that this box is not closed
-- by. The flag says whether Left may stand, which decides its box without closing it
unfoldable pub treated : Bool → List PlainKeyAtom → PlainBox → Node → List LeafTerm → Option Treated
treated may_leave key box (Split v cut) terms =
    if is_split v cut then Some (record { boxes = left_half box v cut ∷ right_half box v cut ∷ []; terms = terms }) else
    None
treated may_leave key box (NeSplit i) terms =
    if names_ne key i then Some (record { boxes = on_side box i false ∷ on_side box i true ∷ []; terms = terms }) else
    None
treated may_leave key box (Combo count) terms =
    closed_by (nat_le count (length terms) && closes key box (combo (take count terms))) (drop count terms)
treated may_leave key box (Fixed i) terms = closed_by (closes key box (fixed i)) terms
treated may_leave key box Empty terms = closed_by (closes key box empty) terms
treated may_leave key box Left terms = closed_by may_leave terms

-- ---- all nodes

-- a node and the undecided box that it finds
pub record Met : Type 0 where
  pub node : Node
  pub box : PlainBox

-- how far the nodes were read: each node with the box that it found, the nodes and terms that were not read, and the
-- boxes left undecided
pub record TreeReading : Type 0 where
  pub met : List Met
  pub rest : List Node
  pub terms : List LeafTerm
  pub boxes : List PlainBox

-- no node is read
abbrev pub nothing_read : List Node → List LeafTerm → List PlainBox → TreeReading
nothing_read nodes terms boxes = record { met = []; rest = nodes; terms = terms; boxes = boxes }

-- the reading, with this node before
abbrev pub behind : Node → PlainBox → TreeReading → TreeReading
behind node box r =
    record { met = record { node = node; box = box } ∷ r.met; rest = r.rest; terms = r.terms; boxes = r.boxes }

-- the nodes are read in order, each treating the first undecided box, up to the first that finds no box or may not
-- stand there. Say that `Split, Empty` is read over one box, and that its lower half is empty: the split is met with
-- the box, Empty with the lower half, no node is the rest, and the upper half is left
unfoldable pub read_over : Bool → List PlainKeyAtom → List Node → List LeafTerm → List PlainBox → TreeReading
read_over may_leave key [] terms boxes = nothing_read [] terms boxes
read_over may_leave key (node ∷ nodes) terms [] = nothing_read (node ∷ nodes) terms []
read_over may_leave key (node ∷ nodes) terms (box ∷ boxes) =
    option_map_or
    (λ (r : Treated). behind node box (read_over may_leave key nodes r.terms (r.boxes ++ boxes)))
    (treated may_leave key box node terms)
    (nothing_read (node ∷ nodes) terms (box ∷ boxes))

-- the reading of a whole tree, from the root box of the key
abbrev pub tree_reading : Bool → List PlainKeyAtom → List Node → List LeafTerm → TreeReading
tree_reading may_leave key nodes terms = read_over may_leave key nodes terms (root_box key ∷ [])

-- ---- what a tree refutes

-- the reading of a tree that has to close every box: no Left may stand in it
abbrev pub strict_reading : List PlainKeyAtom → List Node → List LeafTerm → TreeReading
strict_reading key nodes terms = tree_reading false key nodes terms

-- each node is read, every box is closed, and no term is to spare
pub record Refutes (key : List PlainKeyAtom) (nodes : List Node) (terms : List LeafTerm) : Type 0 where
  pub no_rest : (strict_reading key nodes terms).rest ≡ []
  pub no_terms : (strict_reading key nodes terms).terms ≡ []
  pub no_boxes : (strict_reading key nodes terms).boxes ≡ []

-- node i, counted from 0, finds an undecided box and may not stand there, and is the first such node
pub record FailsAt (key : List PlainKeyAtom) (nodes : List Node) (terms : List LeafTerm) (i : ℕ) : Type 0 where
  pub before : length (strict_reading key nodes terms).met ≡ i
  pub some_rest : (strict_reading key nodes terms).rest ≢ []
  pub some_boxes : (strict_reading key nodes terms).boxes ≢ []

-- each node is read, and some box is still undecided
pub record EndsEarly (key : List PlainKeyAtom) (nodes : List Node) (terms : List LeafTerm) : Type 0 where
  pub no_rest : (strict_reading key nodes terms).rest ≡ []
  pub some_boxes : (strict_reading key nodes terms).boxes ≢ []

-- every box is closed, and nodes or terms are still to come
pub record GoesOn (key : List PlainKeyAtom) (nodes : List Node) (terms : List LeafTerm) : Type 0 where
  pub no_boxes : (strict_reading key nodes terms).boxes ≡ []
  pub some_left : ((strict_reading key nodes terms).rest ≢ []) ⊎ ((strict_reading key nodes terms).terms ≢ [])

-- no list of whole numbers makes every atom hold
abbrev pub HasNoPoint : List PlainKeyAtom → Type 0
HasNoPoint key = (point : List ℤ) → KeyHolds key point → ⊥
