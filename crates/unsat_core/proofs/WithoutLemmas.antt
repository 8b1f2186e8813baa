-- A choice without one of its atoms.
use Rattle.std.proofs.Common.{◌≡◌, ◌≢◌, ℕ, ◌+◌, ◌<◌, Bool, false, cond, List, length, get_or, set, sym, subst, ap, ◌∙◌}
use Rattle.std.proofs.Common.{arith, inl, inr}
use Rattle.std.proofs.lemmas.Bool.{both_ways, cases_lt}
use Rattle.std.proofs.lemmas.List.{get_or_past, get_or-set_same, get_or-set_other, length-set}
use Rattle.std.proofs.lemmas.List.Sums.{sum_by-set}
use Rattle.unsat_core.specs.Cores.{IsChosen, without}
use Rattle.unsat_core.specs.Steps.{chosen_count}

-- a chosen atom has a place in the choice
pub chosen-within : (choice : List Bool) (i : ℕ) → IsChosen choice i → i < length choice
chosen-within choice i is =
    elim (cases_lt i (length choice)) [
      | inl lt ↦ lt
      | inr le ↦ absurd (both_ways (get_or choice i false) (get_or_past choice i false le) is)
    ]

-- what is left out isn't chosen
pub left_out : (choice : List Bool) (i : ℕ) → get_or (without choice i) i false ≡ false
left_out choice i =
    elim (cases_lt i (length choice)) [
      | inl lt ↦ get_or-set_same choice i false false lt
      | inr le ↦ get_or_past (set choice i false) i false (omega (arith, length-set choice i false))
    ]

-- what is chosen then is another atom, and was chosen before
pub chosen_before : (choice : List Bool) (i j : ℕ) → IsChosen (without choice i) j → (j ≢ i) × IsChosen choice j
chosen_before choice i j is =
    let other : j ≢ i = λ same. both_ways (get_or (without choice i) j false)
    (subst (λ (k : ℕ). get_or (without choice i) k false ≡ false) (sym same) (left_out choice i)) is in
    (other, sym (get_or-set_other choice i j false false other) ∙ is)

-- every other atom that was chosen still is
pub chosen_after : (choice : List Bool) (i j : ℕ) → j ≢ i → IsChosen choice j → IsChosen (without choice i) j
chosen_after choice i j other is = get_or-set_other choice i j false false other ∙ is

-- one fewer is chosen
pub chosen_count-without : (choice : List Bool) (i : ℕ) → IsChosen choice i
    → chosen_count (without choice i) + 1 ≡ chosen_count choice
chosen_count-without choice i is =
    let one : ℕ = 1 in
    let here : cond (get_or choice i false) one 0 ≡ one = ap (λ (b : Bool). cond b one 0) is in
    let lt : i < length choice = chosen-within choice i is in
    let sum = sum_by-set (λ (c : Bool). cond c 1 0) choice i false false lt in
    omega (arith, sum, here)
