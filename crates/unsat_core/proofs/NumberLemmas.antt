-- The number of an atom among the chosen ones.
use Rattle.std.proofs.Common.{◌≡◌, ℕ, ◌+◌, ◌<◌, ◌≤◌, Bool, false, List, [], ◌∷◌, ◌++◌, length, get_or, take}
use Rattle.std.proofs.Common.{refl, sym, ap, ◌∙◌, arith, inl, inr}
use Rattle.std.specs.List.{count_by}
use Rattle.std.proofs.lemmas.Bool.{cases_lt}
use Rattle.std.proofs.lemmas.List.{get_or_append_left, get_or_default, get_or_past, get_or_push, length-take, take_all}
use Rattle.std.proofs.lemmas.List.Sums.{count_by-le-length, count_by_more_no, count_by_more_yes}
use Rattle.unsat_core.specs.Cores.{IsChosen}
use Rattle.unsat_core.specs.Numbers.{AreNumbers}
use Rattle.unsat_core.specs.Renumbered.{new_number}
use borrow.Author.Count.{below_more}

-- nothing is chosen before the first atom
pub new_number-zero : (choice : List Bool) → new_number choice 0 ≡ 0
unfolding new_number
new_number-zero choice = refl

-- behind a chosen atom the next number is one more
pub new_number-chosen : (choice : List Bool) (i : ℕ) → i < length choice → IsChosen choice i
    → new_number choice (i + 1) ≡ new_number choice i + 1
unfolding new_number
new_number-chosen choice i lt is = count_by_more_yes (λ (c : Bool). c) choice i false lt is

-- behind another it is the same
pub new_number-out : (choice : List Bool) (i : ℕ) → i < length choice → get_or choice i false ≡ false
    → new_number choice (i + 1) ≡ new_number choice i
unfolding new_number
new_number-out choice i lt out = count_by_more_no (λ (c : Bool). c) choice i false lt out

-- no number is larger than the number in the key
pub new_number-le : (choice : List Bool) (i : ℕ) → new_number choice i ≤ i
unfolding new_number
new_number-le choice i =
    omega (arith, count_by-le-length (λ (c : Bool). c) (take i choice), length-take i choice)

-- all numbers beyond the key become the same
new_number-past : (choice : List Bool) (i : ℕ) → length choice ≤ i
    → new_number choice i ≡ new_number choice (length choice)
unfolding new_number
new_number-past choice i le =
    ap (λ (cs : List Bool). count_by (λ (c : Bool). c) cs)
    (take_all i choice le ∙ sym (take_all (length choice) choice (omega arith)))

-- one more number in the table
pub numbers-more : (choice : List Bool) (numbers : List ℕ) (i n : ℕ) → length numbers ≡ i
    → ((k : ℕ) → k < i → get_or numbers k 0 ≡ new_number choice k) → n ≡ new_number choice i
    → (k : ℕ) → k < i + 1 → get_or (numbers ++ n ∷ []) k 0 ≡ new_number choice k
numbers-more choice numbers i n long below here =
    below_more (λ (k : ℕ). get_or (numbers ++ n ∷ []) k 0 ≡ new_number choice k) i
    (λ k lt. get_or_append_left numbers (n ∷ []) 0 k (omega arith) ∙ below k lt)
    (get_or_push numbers n 0 i long ∙ here)

-- the whole table
pub AreNumbers-all : (choice : List Bool) (numbers : List ℕ) (i count : ℕ) → i ≡ length choice → length numbers ≡ i
    → ((k : ℕ) → k < i → get_or numbers k 0 ≡ new_number choice k) → count ≡ new_number choice i
    → AreNumbers choice numbers count
AreNumbers-all choice numbers i count all long below last = record {
  each = λ k. elim (cases_lt k (length numbers)) [
    | inl lt ↦ get_or_default numbers k count 0 lt ∙ below k (omega arith)
    | inr le ↦
        get_or_past numbers k count le
        ∙ (last ∙ (ap (new_number choice) all ∙ sym (new_number-past choice k (omega arith))))
  ];
}
