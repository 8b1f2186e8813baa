-- Cuts, and the nodes that boxes ask for, on small worked values, as the checker computes them.
use Rattle.std.proofs.Common.{◌≡◌, ℤ, pos, negsuc, true, false, List, [], ◌∷◌, Option, Some, None, refl}
use Rattle.lin_model.specs.declared.op.Op.TheVariants.{Le, Ge, Eq, Ne}
use Rattle.lin_model.specs.KeyAtom.{PlainKeyAtom}
use Rattle.lin_model.specs.Bounded.{variable}
use Rattle.refutation.specs.declared.node.Node.TheVariants.{Split, NeSplit}
use Rattle.refutation.specs.Bounds.{PlainBounds, variables, key_bounds, least, greatest}
use Rattle.refutation.specs.Box.{root_box, on_side}
use Rattle.refutation.specs.Cut.{PlainCut, cut, upper_cut, lower_cut}
use Rattle.refutation.specs.SearchOrder.{step, lowest_corner}
use Rattle.refutation.proofs.Worked.{sum_of, difference, atom, over}

-- ---- cuts

-- v0 and v1 from 0 to 9 each
abbrev digits : PlainBounds
digits = key_bounds (over 9 9 [])

abbrev at_least : ℤ → Option PlainCut
at_least n = Some (record { value = n; upper = false })

abbrev at_most : ℤ → Option PlainCut
at_most n = Some (record { value = n; upper = true })

-- `v0 + 2*v1 <= 9` leaves 9 for 2*v1
check_at_most : cut digits (atom (sum_of (pos 1) (pos 2)) Le (pos 9)) 1 ≡ at_most (pos 4)
unfolding cut upper_cut lower_cut least greatest key_bounds variables
check_at_most = refl

-- `3*v0 + v1 >= 20` leaves 11 for 3*v0, where v1 is at its upper side
check_at_least : cut digits (atom (sum_of (pos 3) (pos 1)) Ge (pos 20)) 0 ≡ at_least (pos 4)
unfolding cut upper_cut lower_cut least greatest key_bounds variables
check_at_least = refl

-- a negative coefficient turns the side: `v0 - 2*v1 <= -3` asks for 2*v1 >= 3, and `v0 - 2*v1 >= -4` for 2*v1 <= 13
check_turned_up : cut digits (atom (sum_of (pos 1) (negsuc 1)) Le (negsuc 2)) 1 ≡ at_least (pos 2)
unfolding cut upper_cut lower_cut least greatest key_bounds variables
check_turned_up = refl

check_turned_down : cut digits (atom (sum_of (pos 1) (negsuc 1)) Ge (negsuc 3)) 1 ≡ at_most (pos 6)
unfolding cut upper_cut lower_cut least greatest key_bounds variables
check_turned_down = refl

-- below 0 a bound is rounded away from 0 where it goes down: `2*v0 + v1 <= -3` over v0 from -9 to 9
check_below_zero : cut
    (key_bounds (atom (variable 0) Le (pos 9) ∷ atom (variable 0) Ge (negsuc 8) ∷ atom (variable 1) Le (pos 9) ∷ atom
    (variable 1) Ge (pos 0) ∷ [])) (atom (sum_of (pos 2) (pos 1)) Le (negsuc 2)) 0 ≡ at_most (negsuc 1)
unfolding cut upper_cut lower_cut least greatest key_bounds variables
check_below_zero = refl

-- a bound at the side that is there is no cut; one at the other side is, and one behind it is none
check_at_own_side : cut digits (atom (sum_of (pos 1) (pos 1)) Le (pos 9)) 0 ≡ None
unfolding cut upper_cut lower_cut least greatest key_bounds variables
check_at_own_side = refl

check_at_other_side : cut digits (atom (sum_of (pos 1) (pos 1)) Ge (pos 18)) 0 ≡ at_least (pos 9)
unfolding cut upper_cut lower_cut least greatest key_bounds variables
check_at_other_side = refl

check_behind_other_side : cut digits (atom (sum_of (pos 1) (pos 1)) Ge (pos 19)) 0 ≡ None
unfolding cut upper_cut lower_cut least greatest key_bounds variables
check_behind_other_side = refl

-- `v0 + v1 = 9` over v1 from 2 to 4 asks for v0 from 5 to 7, and the lower bound goes first
check_both : cut
    (key_bounds (atom (variable 0) Le (pos 9) ∷ atom (variable 0) Ge (pos 0) ∷ atom (variable 1) Le (pos 4) ∷ atom
    (variable 1) Ge (pos 2) ∷ [])) (atom (sum_of (pos 1) (pos 1)) Eq (pos 9)) 0 ≡ at_least (pos 5)
unfolding cut upper_cut lower_cut least greatest key_bounds variables
check_both = refl

-- without the upper side of v1 `v0 + v1 <= 5` cuts nothing, though it would need the lower side alone
check_side_missing : cut
    (key_bounds (atom (variable 0) Le (pos 9) ∷ atom (variable 0) Ge (pos 0) ∷ atom (variable 1) Ge (pos 0) ∷ []))
    (atom (sum_of (pos 1) (pos 1)) Le (pos 5)) 0 ≡ None
unfolding cut upper_cut lower_cut least greatest key_bounds variables
check_side_missing = refl

-- an atom `form != c` cuts nothing, nor does any atom a variable that it doesn't name
check_not_equal : cut digits (atom (variable 0) Ne (pos 0)) 0 ≡ None
unfolding cut upper_cut lower_cut least greatest key_bounds variables
check_not_equal = refl

check_not_named : cut digits (atom (variable 0) Le (pos 5)) 1 ≡ None
unfolding cut upper_cut lower_cut least greatest key_bounds variables
check_not_named = refl

-- ---- the node that a box asks for

-- `v0 - v1 <= -1` and `v0 - v1 >= 1` fail at (0, 0), and the first of them gives the node: it raises v1 to 1, which
-- goes before its lowering of v0 to 8
check_raising : step (over 9 9 (atom difference Le (negsuc 0) ∷ atom difference Ge (pos 1) ∷ []))
    (root_box (over 9 9 (atom difference Le (negsuc 0) ∷ atom difference Ge (pos 1) ∷ []))) ≡ Some (Split 1 (pos 0))
unfolding step lowest_corner cut upper_cut lower_cut least greatest key_bounds variables
check_raising = refl

-- `v0 - v1 = 5` raises v0 to 5
check_raising_equal : step (over 9 9 (atom difference Eq (pos 5) ∷ []))
    (root_box (over 9 9 (atom difference Eq (pos 5) ∷ []))) ≡ Some (Split 0 (pos 4))
unfolding step lowest_corner cut upper_cut lower_cut least greatest key_bounds variables
check_raising_equal = refl

-- `v0 - v1 - v2 <= -5` over v0 from 0 to 20, v1 and v2 from 0 to 9: it raises neither v1 nor v2, and lowers v0 to 13
abbrev lowering : List PlainKeyAtom
lowering =
    atom (variable 0) Le (pos 20) ∷ atom (variable 0) Ge (pos 0) ∷ atom
    (record { var = 0; coef = pos 1 } ∷ record { var = 1; coef = negsuc 0 } ∷ record { var = 2; coef = negsuc 0 } ∷ [])
    Le (negsuc 4) ∷ atom (variable 1) Le (pos 9) ∷ atom (variable 1) Ge (pos 0) ∷ atom (variable 2) Le (pos 9) ∷ atom
    (variable 2) Ge (pos 0) ∷ []

check_lowering : step lowering (root_box lowering) ≡ Some (Split 0 (pos 13))
unfolding step lowest_corner cut upper_cut lower_cut least greatest key_bounds variables
check_lowering = refl

-- `v0 + 2*v1 >= 5` cuts neither, and v0 is the first of two that are equally wide
check_halving : step (over 9 9 (atom (sum_of (pos 1) (pos 2)) Ge (pos 5) ∷ []))
    (root_box (over 9 9 (atom (sum_of (pos 1) (pos 2)) Ge (pos 5) ∷ []))) ≡ Some (Split 0 (pos 4))
unfolding step lowest_corner cut upper_cut lower_cut least greatest key_bounds variables
check_halving = refl

-- `v0 != 0` splits its box once, and then halves it
abbrev pub not_zero : List PlainKeyAtom
not_zero = atom (variable 0) Le (pos 9) ∷ atom (variable 0) Ge (pos 0) ∷ atom (variable 0) Ne (pos 0) ∷ []

check_not_split : step not_zero (root_box not_zero) ≡ Some (NeSplit 2)
unfolding step lowest_corner cut upper_cut lower_cut least greatest key_bounds variables
check_not_split = refl

check_was_split : step not_zero (on_side (root_box not_zero) 2 true) ≡ Some (Split 0 (pos 4))
unfolding step lowest_corner cut upper_cut lower_cut least greatest key_bounds variables
check_was_split = refl

-- nothing is asked where the lowest corner satisfies the key: `v0 <= 3`, `v0 >= 3`
abbrev pub three : List PlainKeyAtom
three = atom (variable 0) Le (pos 3) ∷ atom (variable 0) Ge (pos 3) ∷ []

check_corner_holds : step three (root_box three) ≡ None
unfolding step lowest_corner cut upper_cut lower_cut least greatest key_bounds variables
check_corner_holds = refl
