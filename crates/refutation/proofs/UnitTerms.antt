-- What neither one atom nor the sum of two closes, by tests that compute; and that atoms of the key alone do it where
-- there are no sides.
use Rattle.std.proofs.Common.{◌≡◌, ⊎_elim, ℕ, zero, suc, ◌<◌, Bool, true, false, not, ◌&&◌}
use Rattle.std.proofs.Common.{List, length, sym, subst, arith}
use Rattle.std.specs.Prelude.{IsTrue}
use Rattle.std.proofs.lemmas.Bool.{and_parts, not-true, both_ways, cases_eq}
use Rattle.lin_model.specs.KeyAtom.{PlainKeyAtom}
use Rattle.refutation.specs.Bounds.{is_empty}
use Rattle.refutation.specs.Box.{PlainBox}
use Rattle.refutation.specs.Glance.{SomeBelow, place_count, unit_closes, pair_closes}
use Rattle.refutation.specs.Leaf.{fixed_closes, ClosedByOneAtom, ClosedBySumOfTwo}
use Rattle.refutation.proofs.GlanceLemmas.{unit-from_one, pair-from_two}

-- ---- a test of each of the first n

abbrev each_below : (ℕ → Bool) → ℕ → Bool
each_below test zero = true
each_below test (suc n) = test n && each_below test n

each_below-at : (test : ℕ → Bool) (n i : ℕ) → each_below test n ≡ true → i < n → test i ≡ true
each_below-at test zero i all lt = absurd (omega arith)
each_below-at test (suc n) i all lt =
    let two = and_parts (test n) (each_below test n) all in
    ⊎_elim (λ same. subst (λ k. test k ≡ true) (sym same) two.0)
    (λ other. each_below-at test n i two.1 (omega (arith, other))) (cases_eq i n)

-- where each fails a test, none passes it
none_passes : (test : ℕ → Bool) (n : ℕ) → each_below (λ i. not (test i)) n ≡ true → SomeBelow (λ i. IsTrue (test i)) n
    → ⊥
none_passes test n all some =
    both_ways (test some.number) (not-true (test some.number)
    (each_below-at (λ i. not (test i)) n some.number all some.below)) some.holds

-- ---- one atom

-- no atom or side closes the box by the factor 1 or -1, and no atom has one value in it that fails
abbrev pub no_unit_closes : List PlainKeyAtom → PlainBox → Bool
no_unit_closes key box = each_below (λ place. not (unit_closes key box place)) (place_count key box.sides)

abbrev pub no_fixed_closes : List PlainKeyAtom → PlainBox → Bool
no_fixed_closes key box = each_below (λ i. not (fixed_closes key box.bounds i)) (length key)

pub not_by_one : (key : List PlainKeyAtom) (box : PlainBox) → is_empty box.bounds ≡ false
    → no_unit_closes key box ≡ true → no_fixed_closes key box ≡ true → ¬ ClosedByOneAtom key box
not_by_one key box full units values closed =
    none_passes (unit_closes key box) (place_count key box.sides) units
    (unit-from_one key box full (none_passes (fixed_closes key box.bounds) (length key) values) closed)

-- ---- the sum of two

abbrev pub no_two_close : List PlainKeyAtom → PlainBox → Bool
no_two_close key box =
    each_below (λ place. each_below (λ other. not (pair_closes key box place other)) (place_count key box.sides))
    (place_count key box.sides)

pub not_by_two : (key : List PlainKeyAtom) (box : PlainBox) → no_two_close key box ≡ true → ¬ ClosedBySumOfTwo key box
not_by_two key box pairs closed =
    let n = place_count key box.sides in
    let some = pair-from_two key box closed in
    none_passes (pair_closes key box some.number) n
    (each_below-at (λ place. each_below (λ other. not (pair_closes key box place other)) n) n some.number pairs
    some.below) some.holds
