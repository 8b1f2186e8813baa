-- A loop over a list that tests each element: one more place, and one that fails.
use Rattle.std.proofs.Common.{◌≡◌, ℕ, ◌+◌, ◌<◌, List, length, take, get_or, sym, subst, arith, ◌∙◌, length-take}
use Rattle.std.specs.List.{All, AllPairs}
use Rattle.std.proofs.lemmas.List.{get_or-take, get_or_default}
use Rattle.std.proofs.lemmas.List.Elements.{at_read}
use borrow.Author.Count.{below_more}

-- what holds of each element before a place, and of the one there, holds up to the next place
pub all_more : {X : Type 0} (P : X → Type 0) (xs : List X) (i : ℕ) (x : X) → i < length xs → x ≡ get_or xs i x
    → ((k : ℕ) (d : X) → k < i → P (get_or xs k d)) → P x → (k : ℕ) (d : X) → k < i + 1 → P (get_or xs k d)
all_more {X} P xs i x within is below here k d lt =
    below_more (λ (j : ℕ). P (get_or xs j d)) i (λ j l. below j d l) (at_read xs P i x within is here d) k lt

-- what holds of all holds of the element that was read
pub read_from_All : {X : Type 0} (P : X → Type 0) (xs : List X) (i : ℕ) (x : X) → i < length xs → x ≡ get_or xs i x
    → All P xs → P x
read_from_All {X} P xs i x within is all = subst P (sym is) (all i x within)

-- the same of each element and each later one
pub pairs_more : {X : Type 0} (R : X → X → Type 0) (xs : List X) (k : ℕ) (x : X) → k < length xs → x ≡ get_or xs k x
    → ((i j : ℕ) (d : X) → i < j → j < k → R (get_or xs i d) (get_or xs j d)) → All (λ y. R y x) (take k xs)
    → (i j : ℕ) (d : X) → i < j → j < k + 1 → R (get_or xs i d) (get_or xs j d)
pairs_more {X} R xs k x within is below here i j d before upto =
    below_more (λ (m : ℕ). i < m → R (get_or xs i d) (get_or xs m d)) k (λ m l b. below i m d b l)
    (λ b.
    let last : x ≡ get_or xs k d = is ∙ get_or_default xs k x d within in
    let first : get_or (take k xs) i d ≡ get_or xs i d = get_or-take k xs i d b in
    subst (λ (y : X). R (get_or xs i d) y) last
    (subst (λ (y : X). R y x) first (here i d (omega (arith, length-take k xs)))))
    j upto before

pub front_from_AllPairs : {X : Type 0} (R : X → X → Type 0) (xs : List X) (k : ℕ) (x : X) → k < length xs
    → x ≡ get_or xs k x → AllPairs R xs → All (λ y. R y x) (take k xs)
front_from_AllPairs {X} R xs k x within is pairs i d lt =
    let b : i < k = omega (arith, length-take k xs) in
    let last : get_or xs k d ≡ x = sym (is ∙ get_or_default xs k x d within) in
    let first : get_or xs i d ≡ get_or (take k xs) i d = sym (get_or-take k xs i d b) in
    subst (λ (y : X). R (get_or (take k xs) i d) y) last
    (subst (λ (y : X). R y (get_or xs k d)) first (pairs i k d b within))
