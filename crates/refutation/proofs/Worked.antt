-- Bounds, leaves and the reading of trees on small worked values, as the checker computes them.
use Rattle.std.proofs.Common.{◌≡◌, ◌≢◌, ℕ, zero, suc, ℤ, pos, negsuc, true, false, List, [], ◌∷◌, ◌++◌, Some, None, inl}
use Rattle.std.proofs.Common.{inr, refl, arith}
use Rattle.lin_model.specs.declared.form.FormTerm.{FormTerm}
use Rattle.lin_model.specs.declared.op.Op.{Op}
use Rattle.lin_model.specs.declared.op.Op.TheVariants.{Le, Ge, Eq, Ne}
use Rattle.lin_model.specs.KeyAtom.{PlainKeyAtom}
use Rattle.lin_model.specs.Bounded.{variable}
use Rattle.refutation.specs.declared.leaf.LeafTerm.{LeafTerm}
use Rattle.refutation.specs.declared.leaf.On.TheVariants.{Atom as OnAtom, Side as OnSide}
use Rattle.refutation.specs.declared.node.Node.{Node}
use Rattle.refutation.specs.declared.node.Node.TheVariants.{Split, NeSplit, Combo, Fixed, Empty, Left}
use Rattle.refutation.specs.Bounds.{variables, lower_of, upper_of, key_bounds, is_empty, least, greatest}
use Rattle.refutation.specs.Box.{root_box, left_half, right_half}
use Rattle.refutation.specs.Boxed.{IsBoxed}
use Rattle.refutation.specs.Leaf.{combo_closes, fixed_closes, summed_form, is_positive_sum}
use Rattle.refutation.specs.Reading.{Refutes, FailsAt, EndsEarly, GoesOn, TreeReading, treated, read_over}
use Rattle.refutation.specs.Reading.{strict_reading, tree_reading}

-- `a*v0 + b*v1`
abbrev pub sum_of : ℤ → ℤ → List FormTerm
sum_of a b = record { var = 0; coef = a } ∷ record { var = 1; coef = b } ∷ []

-- `v0 - v1`
abbrev pub difference : List FormTerm
difference = sum_of (pos 1) (negsuc 0)

abbrev pub atom : List FormTerm → Op → ℤ → PlainKeyAtom
atom form op constant = record { form = form; op = op; constant = constant }

abbrev pub on_atom : ℕ → ℤ → LeafTerm
on_atom i factor = record { on = OnAtom i; factor = factor }

abbrev pub on_side : ℕ → ℤ → LeafTerm
on_side i factor = record { on = OnSide i; factor = factor }

-- the atoms over v0 from 0 to m and v1 from 0 to n
abbrev pub over : ℕ → ℕ → List PlainKeyAtom → List PlainKeyAtom
over m n atoms =
    atom (variable 0) Le (pos m) ∷ atom (variable 0) Ge (pos 0) ∷
    (atoms ++ atom (variable 1) Le (pos n) ∷ atom (variable 1) Ge (pos 0) ∷ [])

-- `v0 - v1 <= -1` with `v0 - v1 >= 1`
abbrev pub crossed : List PlainKeyAtom
crossed = atom difference Le (negsuc 0) ∷ atom difference Ge (pos 1) ∷ []

-- a list with a first element isn't empty
some : {X : Type 0} (x : X) (xs : List X) → x ∷ xs ≢ []
some x xs e = absurd (cc)

-- the sum of the two is 2, everywhere
check_two_terms : Refutes crossed (Combo 2 ∷ []) (on_atom 0 (pos 1) ∷ on_atom 1 (pos 1) ∷ [])
unfolding read_over treated combo_closes summed_form is_positive_sum least variables key_bounds
check_two_terms = record { no_rest = refl; no_terms = refl; no_boxes = refl }

-- with one factor changed the variables don't cancel, and no bound is there
check_factor_changed : FailsAt crossed (Combo 2 ∷ []) (on_atom 0 (pos 1) ∷ on_atom 1 (pos 2) ∷ []) 0
unfolding read_over treated combo_closes summed_form is_positive_sum least variables key_bounds
check_factor_changed = record { before = refl; some_rest = some _ _; some_boxes = some _ _ }

-- a negative factor on `<=`, on `>=` and on a side, where it would close a box that has points
check_negative_factor : FailsAt (atom (variable 0) Le (pos 3) ∷ atom (variable 0) Le (pos 5) ∷ []) (Combo 1 ∷ [])
    (on_atom 1 (negsuc 0) ∷ []) 0
unfolding read_over treated combo_closes summed_form is_positive_sum least variables key_bounds
check_negative_factor = record { before = refl; some_rest = some _ _; some_boxes = some _ _ }

check_negative_at_least : FailsAt (atom (variable 0) Ge (pos 3) ∷ atom (variable 0) Ge (pos 5) ∷ []) (Combo 1 ∷ [])
    (on_atom 0 (negsuc 0) ∷ []) 0
unfolding read_over treated combo_closes summed_form is_positive_sum least variables key_bounds
check_negative_at_least = record { before = refl; some_rest = some _ _; some_boxes = some _ _ }

check_negative_side : FailsAt (atom (variable 0) Le (pos 3) ∷ atom (variable 0) Ge (pos 0) ∷ atom (variable 0) Ne
    (pos 5) ∷ []) (NeSplit 2 ∷ Combo 1 ∷ []) (on_side 0 (negsuc 0) ∷ []) 1
unfolding read_over treated combo_closes summed_form is_positive_sum least variables key_bounds
check_negative_side = record { before = refl; some_rest = some _ _; some_boxes = some _ _ }

-- a term is left over, a node is left over, the nodes end early
check_term_left : GoesOn crossed (Combo 2 ∷ []) (on_atom 0 (pos 1) ∷ on_atom 1 (pos 1) ∷ on_atom 1 (pos 1) ∷ [])
unfolding read_over treated combo_closes summed_form is_positive_sum least variables key_bounds
check_term_left = record { no_boxes = refl; some_left = inr (some _ _) }

check_node_left : GoesOn crossed (Combo 2 ∷ Left ∷ []) (on_atom 0 (pos 1) ∷ on_atom 1 (pos 1) ∷ [])
unfolding read_over treated combo_closes summed_form is_positive_sum least variables key_bounds
check_node_left = record { no_boxes = refl; some_left = inl (some _ _) }

check_ends_early : EndsEarly crossed (Split 0 (pos 0) ∷ Combo 2 ∷ []) (on_atom 0 (pos 1) ∷ on_atom 1 (pos 1) ∷ [])
unfolding read_over treated combo_closes summed_form is_positive_sum least variables key_bounds
check_ends_early = record { no_rest = refl; some_boxes = some _ _ }

check_left_fails : FailsAt crossed (Split 0 (pos 0) ∷ Combo 2 ∷ Left ∷ []) (on_atom 0 (pos 1) ∷ on_atom 1 (pos 1) ∷ [])
    2
unfolding read_over treated combo_closes summed_form is_positive_sum least variables key_bounds
check_left_fails = record { before = refl; some_rest = some _ _; some_boxes = some _ _ }

-- the split meets the root box, and the combination its lower half; the upper half is left
abbrev after_two : List Node → TreeReading
after_two rest = record {
  met = record { node = Split 0 (pos 0); box = root_box crossed } ∷ record {
    node = Combo 2;
    box = left_half (root_box crossed) 0 (pos 0);
  } ∷ [];
  rest = rest;
  terms = [];
  boxes = right_half (root_box crossed) 0 (pos 0) ∷ [];
}

check_two_read : strict_reading crossed (Split 0 (pos 0) ∷ Combo 2 ∷ []) (on_atom 0 (pos 1) ∷ on_atom 1 (pos 1) ∷ [])
    ≡ after_two []
unfolding read_over treated combo_closes summed_form is_positive_sum least variables key_bounds
check_two_read = refl

-- a Left behind them isn't read where none may stand; where it may, it leaves no box
check_left_not_read : strict_reading crossed (Split 0 (pos 0) ∷ Combo 2 ∷ Left ∷ [])
    (on_atom 0 (pos 1) ∷ on_atom 1 (pos 1) ∷ []) ≡ after_two (Left ∷ [])
unfolding read_over treated combo_closes summed_form is_positive_sum least variables key_bounds
check_left_not_read = refl

check_left_read : (tree_reading true crossed (Split 0 (pos 0) ∷ Combo 2 ∷ Left ∷ [])
    (on_atom 0 (pos 1) ∷ on_atom 1 (pos 1) ∷ [])).boxes ≡ []
unfolding read_over treated combo_closes summed_form is_positive_sum least variables key_bounds
check_left_read = refl

-- `v0 - v1 <= 0`, `v0 - v1 >= 0`, `v0 - v1 != 0`: one split by the atom `!=`, and a sum of two on each side
abbrev pub pinned : List PlainKeyAtom
pinned = atom difference Le (pos 0) ∷ atom difference Ge (pos 0) ∷ atom difference Ne (pos 0) ∷ []

check_ne_split : Refutes pinned (NeSplit 2 ∷ Combo 2 ∷ Combo 2 ∷ [])
    (on_atom 1 (pos 1) ∷ on_side 0 (pos 1) ∷ on_atom 0 (pos 1) ∷ on_side 0 (pos 1) ∷ [])
unfolding read_over treated combo_closes summed_form is_positive_sum least variables key_bounds
check_ne_split = record { no_rest = refl; no_terms = refl; no_boxes = refl }

-- the sides the wrong way round
check_wrong_side : FailsAt pinned (NeSplit 2 ∷ Combo 2 ∷ Combo 2 ∷ [])
    (on_atom 0 (pos 1) ∷ on_side 0 (pos 1) ∷ on_atom 0 (pos 1) ∷ on_side 0 (pos 1) ∷ []) 1
unfolding read_over treated combo_closes summed_form is_positive_sum least variables key_bounds
check_wrong_side = record { before = refl; some_rest = some _ _; some_boxes = some _ _ }

-- `v0 = 3`, `v0 != 3`: the form has one value
abbrev pub one_value : List PlainKeyAtom
one_value = atom (variable 0) Eq (pos 3) ∷ atom (variable 0) Ne (pos 3) ∷ []

check_fixed : Refutes one_value (Fixed 1 ∷ []) []
unfolding read_over treated fixed_closes least greatest variables key_bounds
check_fixed = record { no_rest = refl; no_terms = refl; no_boxes = refl }

check_not_fixed : FailsAt one_value (Fixed 0 ∷ []) [] 0
unfolding read_over treated fixed_closes least greatest variables key_bounds
check_not_fixed = record { before = refl; some_rest = some _ _; some_boxes = some _ _ }

-- a bound beyond 2^32 is never tighter than its atom
check_clipped_lower : lower_of (key_bounds (atom (variable 0) Ge (pos 4294967299) ∷ [])) 0 ≡ Some (pos 4294967296)
unfolding key_bounds variables
check_clipped_lower = refl

check_clipped_upper : upper_of (key_bounds (atom (variable 0) Le (negsuc 4294967298) ∷ [])) 0 ≡ Some (negsuc 4294967295)
unfolding key_bounds variables
check_clipped_upper = refl

check_missing_lower : lower_of (key_bounds (atom (variable 0) Ge (negsuc 4294967299) ∷ [])) 0 ≡ None
unfolding key_bounds variables
check_missing_lower = refl

check_tightest : upper_of (key_bounds (atom (variable 1) Le (pos 9) ∷ atom (variable 1) Eq (pos 7) ∷ [])) 1
    ≡ Some (pos 7)
unfolding key_bounds variables
check_tightest = refl

-- `v0 <= 3`, `v0 >= 4`
check_empty : Refutes (atom (variable 0) Le (pos 3) ∷ atom (variable 0) Ge (pos 4) ∷ []) (Empty ∷ []) []
unfolding read_over treated is_empty variables key_bounds
check_empty = record { no_rest = refl; no_terms = refl; no_boxes = refl }

-- `v0 <= 1`, `v0 >= 0` is boxed; `v0 <= 1`, `v0 != 0` has no lower side
check_boxed : IsBoxed (atom (variable 0) Le (pos 1) ∷ atom (variable 0) Ge (pos 0) ∷ [])
unfolding key_bounds variables
check_boxed zero lt = record { lower = refl; upper = refl }
check_boxed (suc v) lt = absurd (omega arith)

check_not_boxed : ¬ IsBoxed (atom (variable 0) Le (pos 1) ∷ atom (variable 0) Ne (pos 0) ∷ [])
unfolding key_bounds variables
check_not_boxed h = let no_side : false ≡ true = (h 0 (omega arith)).lower in absurd (cc)
