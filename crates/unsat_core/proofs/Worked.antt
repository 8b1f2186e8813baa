-- A choice on a small worked value, as the checker computes it.
use Rattle.std.proofs.Common.{◌≡◌, ℕ, ℤ, pos, negsuc, Bool, true, false, List, [], ◌∷◌, refl}
use Rattle.lin_model.specs.declared.form.FormTerm.{FormTerm}
use Rattle.lin_model.specs.declared.op.Op.{Op}
use Rattle.lin_model.specs.declared.op.Op.TheVariants.{Le, Ge}
use Rattle.lin_model.specs.KeyAtom.{PlainKeyAtom}
use Rattle.lin_model.specs.Bounded.{variable}
use Rattle.refutation.specs.declared.leaf.LeafTerm.{LeafTerm}
use Rattle.refutation.specs.declared.leaf.On.TheVariants.{Atom as OnAtom}
use Rattle.refutation.specs.declared.node.Node.TheVariants.{Combo}
use Rattle.refutation.specs.Bounds.{variables, key_bounds, least}
use Rattle.refutation.specs.Chosen.{chosen}
use Rattle.refutation.specs.Leaf.{combo_closes, summed_form, is_positive_sum}
use Rattle.refutation.specs.Reading.{treated, read_over}
use Rattle.refutation.specs.Tree.{PlainTree}
use Rattle.unsat_core.specs.Cores.{RefutesChosen}
use Rattle.unsat_core.specs.Renumbered.{names, new_number, renumbered}

abbrev atom : List FormTerm → Op → ℤ → PlainKeyAtom
atom form op constant = record { form = form; op = op; constant = constant }

abbrev on_atom : ℕ → ℤ → LeafTerm
on_atom i factor = record { on = OnAtom i; factor = factor }

-- `v0 - v1`
abbrev difference : List FormTerm
difference = record { var = 0; coef = pos 1 } ∷ record { var = 1; coef = negsuc 0 } ∷ []

-- `v0 - v1 <= -1` with `v0 - v1 >= 1`
abbrev crossed : List PlainKeyAtom
crossed = atom difference Le (negsuc 0) ∷ atom difference Ge (pos 1) ∷ []

-- the same between the bounds of v0 and those of v1
abbrev bounded : List PlainKeyAtom
bounded =
    atom (variable 0) Le (pos 9) ∷ atom (variable 0) Ge (pos 0) ∷ atom difference Le (negsuc 0) ∷ atom difference Ge
    (pos 1) ∷ atom (variable 1) Le (pos 9) ∷ atom (variable 1) Ge (pos 0) ∷ []

-- the two without the bounds
abbrev without_bounds : List Bool
without_bounds = false ∷ false ∷ true ∷ true ∷ false ∷ false ∷ []

-- the sum of the atoms i and j
abbrev sum_of_two : ℕ → ℕ → PlainTree
sum_of_two i j = record { nodes = Combo 2 ∷ []; terms = on_atom i (pos 1) ∷ on_atom j (pos 1) ∷ [] }

check_chosen : chosen bounded without_bounds ≡ crossed
check_chosen = refl

check_renumbered : renumbered without_bounds (sum_of_two 2 3) ≡ sum_of_two 0 1
unfolding new_number
check_renumbered = refl

-- it names the atoms 2 and 3 and no others
check_named : names (sum_of_two 2 3) 3 ≡ true
check_named = refl

check_not_named : names (sum_of_two 2 3) 4 ≡ false
check_not_named = refl

-- it needs no bound
check_refutes : RefutesChosen bounded (sum_of_two 2 3) without_bounds
unfolding new_number read_over treated combo_closes summed_form is_positive_sum least variables key_bounds
check_refutes = record { no_rest = refl; no_terms = refl; no_boxes = refl }
