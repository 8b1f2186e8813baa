-- What waits on a trail, on small worked values, as the checker computes them.
use Rattle.std.proofs.Common.{◌≡◌, ℤ, pos, true, false, Option, Some, List, [], ◌∷◌, refl}
use Rattle.refutation.specs.declared.side.Side.{Side}
use Rattle.refutation.specs.Box.{PlainBox}
use Rattle.box_solver.specs.declared.turn.Turn.TheVariants.{CutLeft, CutRight, NeLeft, NeRight}
use Rattle.box_solver.specs.Region.{TrailItem}
use Rattle.box_solver.specs.Trail.{item_of, turn_of, parent, waiting, waiting_count}

-- one variable from lo to hi
abbrev from_to : ℤ → ℤ → List Side → PlainBox
from_to lo hi sides = record { bounds = record { lower = Some lo ∷ []; upper = Some hi ∷ [] }; sides = sides }

-- the lower side and the upper side of atom 5
abbrev below : Side
below = record { atom = 5; upper = false }

abbrev above : Side
above = record { atom = 5; upper = true }

-- items for turns, and back
check_cut : turn_of (item_of (CutRight 3 (pos 7))) ≡ CutRight 3 (pos 7)
check_cut = refl

check_ne : turn_of (item_of (NeLeft 5)) ≡ NeLeft 5
check_ne = refl

-- 0 to 9 was cut at 4, and the search is in the half from 0 to 4: the half from 5 to 9 waits
check_cut_left : waiting (item_of (CutLeft 0 (pos 9)) ∷ []) (from_to (pos 0) (pos 4) [])
    ≡ from_to (pos 5) (pos 9) [] ∷ []
unfolding waiting
check_cut_left = refl

-- from the half above nothing waits, and the whole is behind it
check_cut_right : waiting (item_of (CutRight 0 (pos 0)) ∷ []) (from_to (pos 5) (pos 9) []) ≡ []
unfolding waiting
check_cut_right = refl

check_parent : parent (CutRight 0 (pos 0)) (from_to (pos 5) (pos 9) []) ≡ from_to (pos 0) (pos 9) []
check_parent = refl

-- 0 to 9 was cut at 4, the upper half was split by atom 5, and its lower side was cut at 6: from 5 to 6 below the atom,
-- there wait 7 to 9 below it, and 5 to 9 above it
abbrev trail : List TrailItem
trail = item_of (CutLeft 0 (pos 9)) ∷ item_of (NeLeft 5) ∷ item_of (CutRight 0 (pos 0)) ∷ []

check_three : waiting trail (from_to (pos 5) (pos 6) (below ∷ []))
    ≡ from_to (pos 7) (pos 9) (below ∷ []) ∷ from_to (pos 5) (pos 9) (above ∷ []) ∷ []
unfolding waiting
check_three = refl

check_count : waiting_count trail ≡ 2
check_count = refl
