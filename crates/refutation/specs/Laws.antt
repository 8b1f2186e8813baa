-- What refutations and bounds keep.
use Rattle.std.specs.Prelude.{◌≡◌, ℕ, ◌^◌, ◌<◌, ◌≤◌, ℤ, Result, Ok, Err, pos, ◌+ℤ◌, ◌-ℤ◌, ◌*ℤ◌, ◌<ℤ◌, false}
use Rattle.std.specs.Prelude.{Some, IsTrue, List, [], ◌∷◌, length, unsigned_abs}
use Rattle.lin_model.specs.Form.{form_value}
use Rattle.lin_model.specs.KeyAtom.{PlainKeyAtom}
use Rattle.lin_model.specs.Key.{IsKey, KeyHolds}
use Rattle.lin_model.specs.Bounded.{IsBounded}
use Rattle.refutation.specs.declared.fault.TreeFault.{TreeFault}
use Rattle.refutation.specs.declared.fault.TreeFault.TheVariants.{NodeFails, TreeEnds, TreeGoesOn, NoMemory}
use Rattle.refutation.specs.declared.leaf.LeafTerm.{LeafTerm}
use Rattle.refutation.specs.declared.node.Node.{Node}
use Rattle.refutation.specs.declared.side.Side.{Side}
use Rattle.refutation.specs.Bounds.{PlainBounds, with_lower, with_upper, is_empty, key_bounds, IsWithin}
use Rattle.refutation.specs.Box.{PlainBox, root_box}
use Rattle.refutation.specs.Boxed.{IsBoxedIn, IsBoxed, HasShortSides, IsCut}
use Rattle.refutation.specs.Glance.{SomeUnitCloses, SomePairCloses}
use Rattle.refutation.specs.Leaf.{PlainLeaf, Closes, Multiple, multiples_of, combo_closes, fixed_closes}
use Rattle.refutation.specs.Leaf.{ClosedByOneAtom, ClosedBySumOfTwo}
use Rattle.refutation.specs.Reading.{Refutes, FailsAt, EndsEarly, GoesOn, HasNoPoint}
use Rattle.refutation.specs.SearchTree.{IsOpenTree, room}

-- what each answer of the check says of the tree; want of memory is no answer
abbrev pub IsTreeAnswer : List PlainKeyAtom → List Node → List LeafTerm → Result (Unit {0}) TreeFault → Type 0
IsTreeAnswer key nodes terms (Ok u) = Refutes key nodes terms
IsTreeAnswer key nodes terms (Err (NodeFails i)) = FailsAt key nodes terms i
IsTreeAnswer key nodes terms (Err TreeEnds) = EndsEarly key nodes terms
IsTreeAnswer key nodes terms (Err TreeGoesOn) = GoesOn key nodes terms
IsTreeAnswer key nodes terms (Err NoMemory) = ⊥

-- one answer is right, and no other
pub record HasOneTreeAnswer (key : List PlainKeyAtom) (nodes : List Node) (terms : List LeafTerm) : Type 0 where
  pub answer : Result (Unit {0}) TreeFault
  pub is : IsTreeAnswer key nodes terms answer
  pub alone : (other : Result (Unit {0}) TreeFault) → IsTreeAnswer key nodes terms other → other ≡ answer

-- each tree has one answer
abbrev pub EachTreeHasOneAnswer : Type 0
EachTreeHasOneAnswer =
    (key : List PlainKeyAtom) (nodes : List Node) (terms : List LeafTerm) → HasOneTreeAnswer key nodes terms

-- no point satisfies a key that some tree refutes
abbrev pub RefutedHasNoPoint : Type 0
RefutedHasNoPoint =
    (key : List PlainKeyAtom) (nodes : List Node) (terms : List LeafTerm) → IsKey key → Refutes key nodes terms
    → HasNoPoint key

-- a key that bounds each of its variables on both sides has both sides of each
abbrev pub BoundedIsBoxed : Type 0
BoundedIsBoxed = (key : List PlainKeyAtom) → IsKey key → IsBounded key → IsBoxed key

-- an open tree of a boxed key has fewer splits than the key has room
abbrev pub OpenTreesAreBelowRoom : Type 0
OpenTreesAreBelowRoom =
    (key : List PlainKeyAtom) (splits : ℕ) (nodes : List Node) (terms : List LeafTerm) → IsKey key → IsBoxed key
    → IsOpenTree key splits nodes terms → splits < room key

-- the halves of a cut are as the whole: not empty, boxed and short; and so is the cut short
pub record AreProperHalves (b : PlainBounds) (v : ℕ) (cut : ℤ) : Type 0 where
  pub left_full : is_empty b ≡ false → is_empty (with_upper b v cut) ≡ false
  pub right_full : is_empty b ≡ false → is_empty (with_lower b v (cut +ℤ pos 1)) ≡ false
  pub left_boxed : (key : List PlainKeyAtom) → IsBoxedIn key b → IsBoxedIn key (with_upper b v cut)
  pub right_boxed : (key : List PlainKeyAtom) → IsBoxedIn key b → IsBoxedIn key (with_lower b v (cut +ℤ pos 1))
  pub left_short : HasShortSides b → HasShortSides (with_upper b v cut)
  pub right_short : HasShortSides b → HasShortSides (with_lower b v (cut +ℤ pos 1))
  pub short_cut : HasShortSides b → unsigned_abs cut ≤ 2 ^ 32

-- a cut between the sides of a variable leaves such halves
abbrev pub CutsLeaveProperHalves : Type 0
CutsLeaveProperHalves = (b : PlainBounds) (v : ℕ) (lo hi cut : ℤ) → IsCut b v lo hi cut → AreProperHalves b v cut

-- no side of a key's bounds is beyond 2^32 in size
abbrev pub KeyBoundsAreShort : Type 0
KeyBoundsAreShort = (key : List PlainKeyAtom) → HasShortSides (key_bounds key)

-- no leaf closes the root box of a key that a point satisfies
abbrev pub RootsOfModelsStayOpen : Type 0
RootsOfModelsStayOpen =
    (key : List PlainKeyAtom) (leaf : PlainLeaf) (point : List ℤ) → IsKey key → KeyHolds key point
    → ¬ Closes key (root_box key) leaf

-- one atom closes a box that isn't empty only where a form has one value that fails, or a factor 1 or -1 closes it
abbrev pub OneIsTried : Type 0
OneIsTried =
    (key : List PlainKeyAtom) (box : PlainBox) → is_empty box.bounds ≡ false
    → ((i : ℕ) → i < length key → fixed_closes key box.bounds i ≡ false) → ¬ SomeUnitCloses key box
    → ¬ ClosedByOneAtom key box

-- the sum of two closes a box only where such factors of two do
abbrev pub TwoAreTried : Type 0
TwoAreTried = (key : List PlainKeyAtom) (box : PlainBox) → ¬ SomePairCloses key box → ¬ ClosedBySumOfTwo key box

-- what the multiples are worth at a point, each less its constant
abbrev pub worth : List Multiple → List ℤ → ℤ
worth [] point = pos 0
worth (m ∷ ms) point = ((m.weight *ℤ form_value m.form point) -ℤ (m.weight *ℤ m.constant)) +ℤ worth ms point

-- the terms stand for multiples that are worth more than 0 at the point
pub record IsPositiveAt (key : List PlainKeyAtom) (sides : List Side) (terms : List LeafTerm) (point : List ℤ) : Type 0
  where
    pub multiples : List Multiple
    pub are : multiples_of key sides terms ≡ Some multiples
    pub positive : pos 0 <ℤ worth multiples point

-- the sum of a combination that closes a box is positive at each point within the bounds
abbrev pub CombinationsArePositive : Type 0
CombinationsArePositive =
    (key : List PlainKeyAtom) (box : PlainBox) (terms : List LeafTerm) (point : List ℤ) → IsKey key
    → IsWithin box.bounds point → IsTrue (combo_closes key box terms) → IsPositiveAt key box.sides terms point
