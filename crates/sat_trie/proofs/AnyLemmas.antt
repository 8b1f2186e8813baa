-- What holds of some element of a list, and of a front and the last one.
use Rattle.std.proofs.Common.{zero, suc, List, [], ◌∷◌, ◌++◌, length, ◌⊎◌, inl, inr, refl, sym, subst, arith, length-append}
use Rattle.std.specs.List.{All, Any}
use Rattle.std.proofs.lemmas.List.{get_or_append_left, get_or_push, length_push}

-- what holds of all holds of a front
pub All-front : {X : Type 0} (P : X → Type 0) (xs ys : List X) → All P (xs ++ ys) → All P xs
All-front P xs ys all k d lt =
    subst P (get_or_append_left xs ys d k lt) (all k d (omega (arith, length-append xs ys)))

-- and of the last element
pub All-last : {X : Type 0} (P : X → Type 0) (xs : List X) (y : X) → All P (xs ++ y ∷ []) → P y
All-last P xs y all =
    subst P (get_or_push xs y y (length xs) refl) (all (length xs) y (omega (arith, length_push xs y)))

-- what holds of the first element holds of some
pub Any-first : {X : Type 0} (P : X → Type 0) (x : X) (xs : List X) → P x → Any P (x ∷ xs)
Any-first P x xs holds = (0, x, omega arith, refl, holds)

-- what holds of some later one too
pub Any-later : {X : Type 0} (P : X → Type 0) (x : X) (xs : List X) → Any P xs → Any P (x ∷ xs)
Any-later P x xs (k, y, within, is, holds) = (suc k, y, omega arith, is, holds)

-- what holds of some element holds of the first or of a later one
pub Any-cases : {X : Type 0} (P : X → Type 0) (x : X) (xs : List X) → Any P (x ∷ xs) → P x ⊎ Any P xs
Any-cases P x xs (zero, y, within, is, holds) = inl (subst P (sym is) holds)
Any-cases P x xs (suc k, y, within, is, holds) = inr (k, y, omega arith, is, holds)
