-- What follows from the list of all variables, the definition of an empty box and a walk with a first box: for the
-- proofs of the crates above.
use Rattle.std.proofs.Common.{◌≡◌, ℕ, ℤ, pos, Option, Some, None, is_some, ◌<◌, ◌∙◌, List, [], ◌∷◌, true, false, length}
use Rattle.std.proofs.Common.{get_or, refl, subst, arith}
use Rattle.std.specs.Option.{unwrap_or}
use Rattle.std.proofs.lemmas.Bool.{both_ways, false_from_ne_true}
use Rattle.std.proofs.lemmas.List.Folds.{list_any-from_Any}
use Rattle.std.proofs.lemmas.List.FromFn.{get_or-range_with_len, length-range_with_len}
use Rattle.refutation.specs.Bounds.{PlainBounds, lower_of, upper_of, variables, crosses, is_empty}
use Rattle.refutation.specs.Box.{PlainBox}
use Rattle.refutation.specs.Boxed.{HasBothSides}
use Rattle.refutation.specs.SearchOrder.{lower_or_zero, upper_or_zero}
use Rattle.refutation.specs.Walk.{OnFirst}

-- the list of all variables has each at its place
pub variable-at : (v d : ℕ) → v < 64 → get_or variables v d ≡ v
unfolding variables
variable-at v d lt = get_or-range_with_len 0 64 v d lt ∙ omega arith

-- there are 64
pub variables-length : length variables ≡ 64
unfolding variables
variables-length = length-range_with_len 0 64

-- where the sides of a variable cross, the box is empty
pub is_empty-true : (b : PlainBounds) (v : ℕ) → v < 64 → crosses (lower_of b v) (upper_of b v) ≡ true
    → is_empty b ≡ true
unfolding is_empty
is_empty-true b v lt h =
    list_any-from_Any (λ w. crosses (lower_of b w) (upper_of b w)) variables
    (v, v, omega (arith, variables-length), variable-at v v lt, h)

-- the sides of a box that isn't empty don't cross
pub not_crossed : (b : PlainBounds) (v : ℕ) → v < 64 → is_empty b ≡ false
    → crosses (lower_of b v) (upper_of b v) ≡ false
not_crossed b v lt full =
    false_from_ne_true (crosses (lower_of b v) (upper_of b v))
    (λ is. both_ways (is_empty b) full (is_empty-true b v lt is))

-- both sides of a variable, by their values
pub sides-of : (b : PlainBounds) (v : ℕ) → HasBothSides b v
    → (lower_of b v ≡ Some (lower_or_zero b v)) × (upper_of b v ≡ Some (upper_or_zero b v))
sides-of b v has = (there (lower_of b v) has.lower, there (upper_of b v) has.upper)
  where
    there : (o : Option ℤ) → is_some o ≡ true → o ≡ Some (unwrap_or o (pos 0))
    there None h = absurd (cc)
    there (Some x) h = refl

-- what holds of the first box, where it is this one
pub OnFirst-at : (boxes : List PlainBox) (P : PlainBox → List PlainBox → Type 0) (box : PlainBox) (rest : List PlainBox)
    → boxes ≡ box ∷ rest → OnFirst boxes P → P box rest
OnFirst-at boxes P box rest is h = subst (λ (bs : List PlainBox). OnFirst bs P) is h

-- what holds of whichever box is first
pub OnFirst-from : (boxes : List PlainBox) (P : PlainBox → List PlainBox → Type 0)
    → ((box : PlainBox) (rest : List PlainBox) → boxes ≡ box ∷ rest → P box rest) → OnFirst boxes P
OnFirst-from [] P h = tt
OnFirst-from (box ∷ boxes) P h = h box boxes refl

-- what is said of the first box, weakened
pub OnFirst-weaker : (boxes : List PlainBox) (P Q : PlainBox → List PlainBox → Type 0)
    → ((box : PlainBox) (rest : List PlainBox) → boxes ≡ box ∷ rest → P box rest → Q box rest)
    → OnFirst boxes P → OnFirst boxes Q
OnFirst-weaker [] P Q f h = tt
OnFirst-weaker (box ∷ boxes) P Q f h = f box boxes refl h
