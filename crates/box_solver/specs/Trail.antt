-- The trail of a search: from the box at hand back to the root, the turns that were taken, the last one first.
use Rattle.std.specs.Prelude.{◌≡◌, ℕ, ◌-◌, ◌^◌, ◌<◌, ◌≤◌, ℤ, pos, Bool, true, false, not, Option, Some, None, List, [], ◌∷◌, ◌++◌}
use Rattle.std.specs.Prelude.{if◌then◌else◌, ◌==◌, length, take, unsigned_abs, slice_set}
use Rattle.std.specs.List.{All, count_by}
use Rattle.lin_model.specs.declared.key.TheConstants.{MAX_KEY_ATOMS}
use Rattle.refutation.specs.Bounds.{PlainBounds}
use Rattle.refutation.specs.Box.{PlainBox, right_half, on_side}
use Rattle.refutation.specs.Boxed.{HasBothSides}
use Rattle.refutation.specs.SearchOrder.{upper_or_zero}
use Rattle.box_solver.specs.declared.turn.TheConstants.{NO_VARIABLE}
use Rattle.box_solver.specs.declared.turn.Turn.{Turn}
use Rattle.box_solver.specs.declared.turn.Turn.TheVariants.{CutLeft, CutRight, NeLeft, NeRight}
use Rattle.box_solver.specs.Region.{TrailItem}

-- ---- items and turns

-- the item for a turn: the variable that was cut and the side that the turn moved, or no variable and the number of the
-- atom; the flag says whether the turn leads to the right half
abbrev pub item_of : Turn → TrailItem
item_of (CutLeft v upper) = (v, upper, false)
item_of (CutRight v lower) = (v, lower, true)
item_of (NeLeft i) = (NO_VARIABLE, pos i, false)
item_of (NeRight i) = (NO_VARIABLE, pos i, true)

-- the turn that an item is for
abbrev pub turn_of : TrailItem → Turn
turn_of (v, n, right) =
    if v == NO_VARIABLE then (if right then NeRight (unsigned_abs n) else NeLeft (unsigned_abs n)) else
    (if right then CutRight v n else CutLeft v n)

-- the limits of a turn
abbrev pub IsTurn : Turn → Type 0
IsTurn (CutLeft v upper) = (v < 64) × (unsigned_abs upper ≤ 2 ^ 32)
IsTurn (CutRight v lower) = (v < 64) × (unsigned_abs lower ≤ 2 ^ 32)
IsTurn (NeLeft i) = i < MAX_KEY_ATOMS
IsTurn (NeRight i) = i < MAX_KEY_ATOMS

-- both sides of the variable that the turn cut are there
abbrev pub HasCutSides : PlainBounds → Turn → Type 0
HasCutSides b (CutLeft v upper) = HasBothSides b v
HasCutSides b (CutRight v lower) = HasBothSides b v
HasCutSides b (NeLeft i) = Unit {0}
HasCutSides b (NeRight i) = Unit {0}

-- the item is one for a turn above a box with these bounds
pub record IsTrailItem (b : PlainBounds) (item : TrailItem) : Type 0 where
  pub limits : IsTurn (turn_of item)
  pub sides : HasCutSides b (turn_of item)

-- so is each item
abbrev pub IsTrail : PlainBounds → List TrailItem → Type 0
IsTrail b trail = All (IsTrailItem b) trail

-- ---- boxes

-- the box without its last side
abbrev pub without_last_side : PlainBox → PlainBox
without_last_side box = record { bounds = box.bounds; sides = take (length box.sides - 1) box.sides }

-- the box that was split, from the half that the turn leads to
abbrev pub parent : Turn → PlainBox → PlainBox
parent (CutLeft v upper) box =
    record {
      bounds = record { lower = box.bounds.lower; upper = slice_set box.bounds.upper v (Some upper) };
      sides = box.sides;
    }
parent (CutRight v lower) box =
    record {
      bounds = record { lower = slice_set box.bounds.lower v (Some lower); upper = box.bounds.upper };
      sides = box.sides;
    }
parent (NeLeft i) box = without_last_side box
parent (NeRight i) box = without_last_side box

-- the half that waits while the search is in the half that the turn leads to; the cut is this half's upper side
abbrev pub other_half : Turn → PlainBox → List PlainBox
other_half (CutLeft v upper) box = right_half (parent (CutLeft v upper) box) v (upper_or_zero box.bounds v) ∷ []
other_half (CutRight v lower) box = []
other_half (NeLeft i) box = on_side (without_last_side box) i true ∷ []
other_half (NeRight i) box = []

-- the boxes that wait, from the box at hand back to the root
unfoldable pub waiting : List TrailItem → PlainBox → List PlainBox
waiting [] box = []
waiting (item ∷ items) box = other_half (turn_of item) box ++ waiting items (parent (turn_of item) box)

-- the boxes that are undecided: the one at hand and those that wait
abbrev pub undecided : List TrailItem → PlainBox → List PlainBox
undecided trail box = box ∷ waiting trail box

-- from the half that a turn leads to: to the other half, where it waits, by a turn that leads there, or else back to the
-- box that was split
abbrev pub MovesOn : Turn → Option Turn → PlainBox → PlainBox → Type 0
MovesOn turn None old new = (other_half turn old ≡ []) × (new ≡ parent turn old)
MovesOn turn (Some next) old new =
    (other_half turn old ≡ new ∷ []) × (parent next new ≡ parent turn old) × (other_half next new ≡ [])

-- the search is in the first half of a split, so that the other one waits
abbrev pub is_first_half : TrailItem → Bool
is_first_half (v, n, right) = not right

-- how many boxes wait
abbrev pub waiting_count : List TrailItem → ℕ
waiting_count trail = count_by is_first_half trail
