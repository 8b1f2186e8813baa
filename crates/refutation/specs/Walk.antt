-- The walk over a tree: one box at hand, and the turns that lead to it from the root.
use Rattle.std.specs.Prelude.{◌≡◌, ℕ, ◌-◌, ◌^◌, ◌<◌, ◌≤◌, Bool, true, false, Option, Some, None, List, [], ◌∷◌, ◌++◌}
use Rattle.std.specs.Prelude.{length, take, drop, unsigned_abs, slice_set, if◌then◌else◌, reverse}
use Rattle.refutation.specs.declared.leaf.LeafTerm.{LeafTerm}
use Rattle.refutation.specs.declared.turn.Turn.{Turn}
use Rattle.refutation.specs.declared.turn.Turn.TheVariants.{SplitLeft, SplitRight, NeLeft, NeRight}
use Rattle.refutation.specs.Bounds.{IsSide}
use Rattle.refutation.specs.Box.{PlainBox, right_half, on_side}
use Rattle.refutation.specs.Reading.{Treated}

-- what holds of the first box and of those behind it, where there is a first
abbrev pub OnFirst : List PlainBox → (PlainBox → List PlainBox → Type 0) → Type 0
OnFirst [] P = Unit {0}
OnFirst (box ∷ boxes) P = P box boxes

-- the limits of a turn
abbrev pub IsTurn : Turn → Type 0
IsTurn (SplitLeft v cut upper) = (v < 64) × (unsigned_abs cut ≤ 2 ^ 32) × IsSide upper
IsTurn (SplitRight v lower) = (v < 64) × IsSide lower
IsTurn (NeLeft i) = Unit {0}
IsTurn NeRight = Unit {0}

-- the box without its last side
abbrev pub without_last_side : PlainBox → PlainBox
without_last_side box = record { bounds = box.bounds; sides = take (length box.sides - 1) box.sides }

-- the box that was split, from the half that the turn leads to
abbrev pub parent : Turn → PlainBox → PlainBox
parent (SplitLeft v cut upper) box =
    record {
      bounds = record { lower = box.bounds.lower; upper = slice_set box.bounds.upper v upper };
      sides = box.sides;
    }
parent (SplitRight v lower) box =
    record {
      bounds = record { lower = slice_set box.bounds.lower v lower; upper = box.bounds.upper };
      sides = box.sides;
    }
parent (NeLeft i) box = without_last_side box
parent NeRight box = without_last_side box

-- the half of a box that waits while the walk is in the turn's half
abbrev pub other_half : Turn → PlainBox → List PlainBox
other_half (SplitLeft v cut upper) box = right_half box v cut ∷ []
other_half (SplitRight v lower) box = []
other_half (NeLeft i) box = on_side box i true ∷ []
other_half NeRight box = []

-- the boxes that wait, the turns being given from the box at hand to the root
unfoldable pub waiting : List Turn → PlainBox → List PlainBox
waiting [] box = []
waiting (turn ∷ turns) box = other_half turn (parent turn box) ++ waiting turns (parent turn box)

-- from a box that was split to its other half, where that waits, by a turn that leads back
abbrev pub MovesOn : Turn → Option Turn → PlainBox → PlainBox → Type 0
MovesOn turn None box new = (other_half turn box ≡ []) × (new ≡ box)
MovesOn turn (Some next) box new =
    (other_half turn box ≡ new ∷ []) × (parent next new ≡ box) × (other_half next box ≡ [])

-- the undecided boxes of a walk: the box at hand, where it is one, and those that wait
abbrev pub undecided : Bool → List Turn → PlainBox → List PlainBox
undecided open_ turns box = if open_ then box ∷ waiting (reverse turns) box else []

-- what a node did that is allowed or not: nothing, or it put boxes in the place of the first and took n terms
abbrev pub Puts : Bool → List PlainBox → ℕ → Option ℕ → List PlainBox → List PlainBox → Type 0
Puts false boxes n taken rest new = taken ≡ None
Puts true boxes n taken rest new = (taken ≡ Some n) × (new ≡ boxes ++ rest)

-- what a node did, by what the definition leaves of the first box
abbrev pub Treats : Option Treated → List LeafTerm → Option ℕ → List PlainBox → List PlainBox → Type 0
Treats None terms taken rest new = taken ≡ None
Treats (Some r) terms taken rest new =
    (n : ℕ) × (taken ≡ Some n) × (n ≤ length terms) × (r.terms ≡ drop n terms) × (new ≡ r.boxes ++ rest)
