-- The place of a name among names, where each stands in a value.
use Rattle.std.proofs.Common.{◌≡◌, ℕ, ◌+◌, ◌≤◌, Bool, true, false, cond, not, nat_lt, List, [], ◌∷◌, ◌++◌, length, map}
use Rattle.std.proofs.Common.{Some, None, refl, ap, ◌∙◌, arith, position}
use Rattle.std.specs.Prelude.{◌||◌, if◌then◌else◌}
use Rattle.std.specs.List.{prefix_len, list_any}
use Rattle.std.proofs.lemmas.List.{map_push, length-map}
use Rattle.std.proofs.lemmas.Bool.Decides.{nat_tests}

prefix_len-map : {X : Type 0} (f : X → List ℕ) (q : List ℕ → Bool) (ks : List X)
    → prefix_len (λ k. not (q (f k))) ks ≡ prefix_len (λ x. not (q x)) (map f ks)
prefix_len-map f q [] = refl
prefix_len-map f q (k ∷ ks) = ap (λ n. cond (not (q (f k))) (1 + n) 0) (prefix_len-map f q ks)

pub position-map : {X : Type 0} (f : X → List ℕ) (q : List ℕ → Bool) (ks : List X)
    → position (λ k. q (f k)) ks ≡ position q (map f ks)
position-map f q ks = rw (prefix_len-map f q ks, ← length-map ks f) refl

none_from : (a b : ℕ) → cond (nat_lt a b) (Some a) None ≡ None → b ≤ a
none_from a b e = grind (arith, nat_tests)

all_fail : {X : Type 0} (p : X → Bool) (xs : List X) → length xs ≤ prefix_len (λ x. not (p x)) xs
    → list_any p xs ≡ false
all_fail p [] le = refl
all_fail {X} p (x ∷ xs) le =
    elim (p x) as (λ b. length (x ∷ xs) ≤ cond (not b) (1 + prefix_len (λ y. not (p y)) xs) 0
    → (b || list_any p xs) ≡ false) [
      | true ↦ λ h. absurd (omega arith)
      | false ↦ λ h. all_fail p xs (omega arith)
    ] le

pub list_any-none : {X : Type 0} (f : X → List ℕ) (q : List ℕ → Bool) (ks : List X) → position q (map f ks) ≡ None
    → list_any (λ k. q (f k)) ks ≡ false
list_any-none f q ks e = all_fail (λ k. q (f k)) ks (none_from _ _ (position-map f q ks ∙ e))

-- one more name at the end
pub map-insert : {X : Type 0} (f : X → List ℕ) (added : Bool) (ks : List X) (k : X) → added ≡ false
    → map f (if added then ks else ks ++ k ∷ []) ≡ map f ks ++ f k ∷ []
map-insert f added ks k e = rw e (map_push f ks k)
