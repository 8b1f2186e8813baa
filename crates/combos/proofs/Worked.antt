-- Corners, what terms are worth there, and which leaves are plain, on small worked values, as the checker computes them.
use Rattle.std.proofs.Common.{◌≡◌, ℕ, ℤ, pos, negsuc, true, false, List, [], ◌∷◌, Some, None, refl}
use Rattle.std.proofs.lemmas.List.Elements.{All-nil, All-cons}
use Rattle.lin_model.specs.declared.form.FormTerm.{FormTerm}
use Rattle.lin_model.specs.declared.op.Op.TheVariants.{Le, Ge, Ne}
use Rattle.lin_model.specs.Form.{value_at}
use Rattle.lin_model.specs.KeyAtom.{PlainKeyAtom}
use Rattle.refutation.specs.declared.leaf.LeafTerm.{LeafTerm}
use Rattle.refutation.specs.declared.leaf.On.TheVariants.{Atom as OnAtom, Side as OnSide}
use Rattle.refutation.specs.declared.side.Side.{Side}
use Rattle.refutation.specs.Bounds.{PlainBounds, variables, least}
use Rattle.refutation.specs.Box.{PlainBox}
use Rattle.refutation.specs.Leaf.{combo, combo_closes, summed_form, is_positive_sum}
use Rattle.refutation.specs.Reading.{names_ne}
use Rattle.combos.specs.Corner.{corner, corner_value}
use Rattle.combos.specs.Found.{AreNeSides, StaysOpen, is_unit_term}

-- 2 <= v0 <= 5, v1 <= 7, and v2 free
abbrev some_sides : PlainBounds
some_sides =
    record { lower = Some (pos 2) ∷ None ∷ None ∷ []; upper = Some (pos 5) ∷ Some (pos 7) ∷ None ∷ [] }

-- `v0 - v1 <= -1`, `v0 - v1 >= 1`, `v0 - v1 != 0`
abbrev difference : List FormTerm
difference = record { var = 0; coef = pos 1 } ∷ record { var = 1; coef = negsuc 0 } ∷ []

abbrev key : List PlainKeyAtom
key =
    record { form = difference; op = Le; constant = negsuc 0 } ∷ record { form = difference; op = Ge; constant = pos 1 }
    ∷ record { form = difference; op = Ne; constant = pos 0 } ∷ []

abbrev box : PlainBox
box = record { bounds = some_sides; sides = record { atom = 2; upper = false } ∷ [] }

abbrev on_atom : ℕ → ℤ → LeafTerm
on_atom i factor = record { on = OnAtom i; factor = factor }

-- ---- corners

-- the lowest corner has 2, 7 and 0, the highest 5, 7 and 0
check_lowest : value_at (corner some_sides false) 0 ≡ pos 2
unfolding corner variables
check_lowest = refl

check_highest : value_at (corner some_sides true) 0 ≡ pos 5
unfolding corner variables
check_highest = refl

check_other_side : value_at (corner some_sides false) 1 ≡ pos 7
unfolding corner variables
check_other_side = refl

check_no_side : value_at (corner some_sides true) 2 ≡ pos 0
unfolding corner variables
check_no_side = refl

-- ---- worth

-- `v0 - v1 + 1` is -4 at the lowest corner, and -1 at the highest
check_worth : corner_value key box false (on_atom 0 (pos 1)) ≡ Some (negsuc 3)
unfolding corner variables
check_worth = refl

check_worth_above : corner_value key box true (on_atom 0 (pos 1)) ≡ Some (negsuc 0)
unfolding corner variables
check_worth_above = refl

-- `1 - v0 + v1` is 6
check_worth_of_ge : corner_value key box false (on_atom 1 (pos 1)) ≡ Some (pos 6)
unfolding corner variables
check_worth_of_ge = refl

-- -1 is no factor of `<=`, and `!=` has none at all; its side `v0 - v1 <= -1` has
check_no_factor : corner_value key box false (on_atom 0 (negsuc 0)) ≡ None
unfolding corner variables
check_no_factor = refl

check_ne : corner_value key box false (on_atom 2 (pos 1)) ≡ None
unfolding corner variables
check_ne = refl

check_side : corner_value key box false (record { on = OnSide 0; factor = pos 1 }) ≡ Some (negsuc 3)
unfolding corner variables
check_side = refl

-- ---- plain leaves

check_unit : is_unit_term (combo (on_atom 1 (negsuc 0) ∷ [])) ≡ true
check_unit = refl

check_doubled : is_unit_term (combo (on_atom 1 (pos 2) ∷ [])) ≡ false
check_doubled = refl

check_two : is_unit_term (combo (on_atom 0 (pos 1) ∷ on_atom 1 (pos 1) ∷ [])) ≡ false
check_two = refl

-- ---- sides, and boxes that stay open

check_sides : AreNeSides key box.sides
check_sides =
    All-cons (λ (side : Side). names_ne key side.atom ≡ true) (record { atom = 2; upper = false }) [] refl
    (All-nil (λ (side : Side). names_ne key side.atom ≡ true))

-- the sum of the first two atoms is 2 everywhere, so no box stays open
check_closed : ¬ StaysOpen key box
unfolding combo_closes summed_form is_positive_sum least variables
check_closed stays = stays.not_by_two (combo (on_atom 0 (pos 1) ∷ on_atom 1 (pos 1) ∷ []), refl, refl)
