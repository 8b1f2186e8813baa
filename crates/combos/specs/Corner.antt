-- Two corners of bounds: each variable at its lower side, or each at its upper side; where that side is missing at the
-- other one, and at 0 where both are. What terms are worth there.
use Rattle.std.specs.Prelude.{ℕ, ℤ, pos, ◌-ℤ◌, ◌*ℤ◌, Bool, true, false, Option, List, map}
use Rattle.std.specs.Option.{option_map, unwrap_or}
use Rattle.lin_model.specs.Form.{form_value}
use Rattle.lin_model.specs.KeyAtom.{PlainKeyAtom}
use Rattle.refutation.specs.declared.leaf.LeafTerm.{LeafTerm}
use Rattle.refutation.specs.Bounds.{PlainBounds, lower_of, upper_of, variables}
use Rattle.refutation.specs.Box.{PlainBox}
use Rattle.refutation.specs.Leaf.{Multiple, multiple_of}

-- the value of a variable at the lowest corner, or at the highest
abbrev pub corner_side : PlainBounds → Bool → ℕ → ℤ
corner_side b false v = unwrap_or (lower_of b v) (unwrap_or (upper_of b v) (pos 0))
corner_side b true v = unwrap_or (upper_of b v) (unwrap_or (lower_of b v) (pos 0))

-- the corner, as a point
unfoldable pub corner : PlainBounds → Bool → List ℤ
corner b highest = map (corner_side b highest) variables

-- what a multiple is worth at a point
abbrev pub worth_of : List ℤ → Multiple → ℤ
worth_of point m = (m.weight *ℤ form_value m.form point) -ℤ (m.weight *ℤ m.constant)

-- what a term is worth at a corner of a box, None where it stands for no multiple
abbrev pub corner_value : List PlainKeyAtom → PlainBox → Bool → LeafTerm → Option ℤ
corner_value key box highest term =
    option_map (worth_of (corner box.bounds highest)) (multiple_of key box.sides term)
