-- The chosen atoms of a key: one more of them, and that they are a key.
use Rattle.std.proofs.Common.{◌≡◌, ℕ, zero, suc, ◌+◌, ◌<◌, ◌≤◌, Bool, true, false, cond, List, [], ◌∷◌, ◌++◌, length}
use Rattle.std.proofs.Common.{get_or, take, refl, sym, subst, ap, ◌∙◌, arith, inl, inr, add-one}
use Rattle.std.specs.List.{All, AllPairs}
use Rattle.std.specs.declared.cmp.Ordering.TheVariants.{Less}
use Rattle.std.proofs.lemmas.Bool.{cases_eq}
use Rattle.std.proofs.lemmas.List.{append-nil}
use Rattle.lin_model.specs.AtomOrder.{IsAtomOrder, compare_atoms}
use Rattle.lin_model.specs.Key.{Ascends}
use Rattle.lin_model.specs.KeyAtom.{PlainKeyAtom, IsCanonical}
use Rattle.refutation.specs.Chosen.{chosen}
use Rattle.unsat_core.specs.Facts.{All-chosen}
use Rattle.unsat_core.specs.Laws.{ChosenAreKeys}

-- ---- one more

chosen-suc : (atoms : List PlainKeyAtom) (choice : List Bool) (i : ℕ) (d : PlainKeyAtom) → i < length atoms
    → i < length choice → chosen (take (suc i) atoms) (take (suc i) choice)
    ≡ chosen (take i atoms) (take i choice) ++ cond (get_or choice i false) (get_or atoms i d ∷ []) []
chosen-suc [] choice i d in_atoms in_choice = absurd (omega arith)
chosen-suc (a ∷ atoms) [] i d in_atoms in_choice = absurd (omega arith)
chosen-suc (a ∷ atoms) (true ∷ choice) zero d in_atoms in_choice = refl
chosen-suc (a ∷ atoms) (false ∷ choice) zero d in_atoms in_choice = refl
chosen-suc (a ∷ atoms) (true ∷ choice) (suc i) d in_atoms in_choice =
    ap (λ (rest : List PlainKeyAtom). a ∷ rest) (chosen-suc atoms choice i d (omega arith) (omega arith))
chosen-suc (a ∷ atoms) (false ∷ choice) (suc i) d in_atoms in_choice =
    chosen-suc atoms choice i d (omega arith) (omega arith)

chosen-more : (atoms : List PlainKeyAtom) (choice : List Bool) (i : ℕ) (d : PlainKeyAtom) → i < length atoms
    → i < length choice → chosen (take (i + 1) atoms) (take (i + 1) choice)
    ≡ chosen (take i atoms) (take i choice) ++ cond (get_or choice i false) (get_or atoms i d ∷ []) []
chosen-more atoms choice i d in_atoms in_choice = rw add-one (chosen-suc atoms choice i d in_atoms in_choice)

-- an atom that is chosen goes behind those so far
pub chosen-one_more : (atoms : List PlainKeyAtom) (choice : List Bool) (i : ℕ) (a : PlainKeyAtom) → i < length atoms
    → i < length choice → a ≡ get_or atoms i a → get_or choice i false ≡ true
    → chosen (take (i + 1) atoms) (take (i + 1) choice) ≡ chosen (take i atoms) (take i choice) ++ a ∷ []
chosen-one_more atoms choice i a in_atoms in_choice is in_it =
    chosen-more atoms choice i a in_atoms in_choice
    ∙ (ap (λ (b : Bool). chosen (take i atoms) (take i choice) ++ cond b (get_or atoms i a ∷ []) []) in_it
    ∙ ap (λ (x : PlainKeyAtom). chosen (take i atoms) (take i choice) ++ x ∷ []) (sym is))

-- another changes nothing
pub chosen-none_more : (atoms : List PlainKeyAtom) (choice : List Bool) (i : ℕ) (d : PlainKeyAtom) → i < length atoms
    → i < length choice → get_or choice i false ≡ false
    → chosen (take (i + 1) atoms) (take (i + 1) choice) ≡ chosen (take i atoms) (take i choice)
chosen-none_more atoms choice i d in_atoms in_choice out =
    chosen-more atoms choice i d in_atoms in_choice
    ∙ (ap (λ (b : Bool). chosen (take i atoms) (take i choice) ++ cond b (get_or atoms i d ∷ []) []) out
    ∙ append-nil (chosen (take i atoms) (take i choice)))

-- ---- the limits of a key

-- no more are chosen than there are
pub chosen-few : (atoms : List PlainKeyAtom) (choice : List Bool) → length (chosen atoms choice) ≤ length atoms
chosen-few [] choice = omega arith
chosen-few (a ∷ atoms) [] = omega arith
chosen-few (a ∷ atoms) (true ∷ choice) = let few = chosen-few atoms choice in omega arith
chosen-few (a ∷ atoms) (false ∷ choice) = let few = chosen-few atoms choice in omega arith

-- an atom before all others, and those before one another
pairs-cons : {X : Type 0} (R : X → X → Type 0) (x : X) (xs : List X) → All (R x) xs → AllPairs R xs
    → AllPairs R (x ∷ xs)
pairs-cons R x xs first rest i zero d before within = absurd (omega arith)
pairs-cons R x xs first rest zero (suc j) d before within = first j d (omega arith)
pairs-cons R x xs first rest (suc i) (suc j) d before within = rest i j d (omega arith) (omega arith)

-- what holds of all atoms in pairs holds of the chosen ones
pairs-chosen : (R : PlainKeyAtom → PlainKeyAtom → Type 0) (atoms : List PlainKeyAtom) (choice : List Bool)
    → AllPairs R atoms → AllPairs R (chosen atoms choice)
pairs-chosen R [] choice pairs = λ i j d before within. absurd (omega (arith, within))
pairs-chosen R (a ∷ atoms) [] pairs = λ i j d before within. absurd (omega (arith, within))
pairs-chosen R (a ∷ atoms) (true ∷ choice) pairs =
    pairs-cons R a (chosen atoms choice)
    (All-chosen (R a) atoms choice (λ k d lt. pairs 0 (suc k) d (omega arith) (omega arith)))
    (pairs-chosen R atoms choice (λ i j d before within. pairs (suc i) (suc j) d (omega arith) (omega arith)))
pairs-chosen R (a ∷ atoms) (false ∷ choice) pairs =
    pairs-chosen R atoms choice (λ i j d before within. pairs (suc i) (suc j) d (omega arith) (omega arith))

-- one atom comes before another
abbrev IsBefore : PlainKeyAtom → PlainKeyAtom → Type 0
IsBefore a b = compare_atoms a b ≡ Less

-- in a list that ascends, each atom comes before all later ones
pairs-ascends : IsAtomOrder → (atoms : List PlainKeyAtom) → Ascends atoms → AllPairs IsBefore atoms
pairs-ascends order atoms ascends i zero d before within = absurd (omega arith)
pairs-ascends order atoms ascends i (suc k) d before within =
    let step : IsBefore (get_or atoms k d) (get_or atoms (suc k) d) =
    subst (λ (n : ℕ). IsBefore (get_or atoms k d) (get_or atoms n d)) (omega arith) (ascends k d (omega arith)) in
    elim (cases_eq i k) [
      | inl same ↦ subst (λ (n : ℕ). IsBefore (get_or atoms n d) (get_or atoms (suc k) d)) (sym same) step
      | inr other ↦
          order.total.trans (get_or atoms i d) (get_or atoms k d) (get_or atoms (suc k) d)
          (pairs-ascends order atoms ascends i k d (omega arith) (omega arith)) step
    ]

-- chosen atoms of a key are a key
pub IsKey-chosen : IsAtomOrder → ChosenAreKeys
IsKey-chosen order key choice is = record {
  fits = record {
    ascends = λ k d lt. pairs-chosen IsBefore key choice (pairs-ascends order key is.fits.ascends) k (k + 1) d
        (omega arith) lt;
    few = omega (arith, is.fits.few, chosen-few key choice);
  };
  canonical = All-chosen IsCanonical key choice is.canonical;
}
