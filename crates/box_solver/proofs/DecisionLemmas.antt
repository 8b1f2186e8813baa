-- What a box of the search asks for is decided: to be closed, to give its corner as a model, or to be split.
use Rattle.std.proofs.Common.{◌≡◌, ◌⊎◌, inl, inr, ⊎_elim, ℕ, zero, suc, ◌<◌, ◌≤◌, ℤ, pos, negsuc, Bool, true, false, ◌||◌}
use Rattle.std.proofs.Common.{Option, Some, None, List, [], ◌∷◌, length, IsTrue, refl, subst, arith}
use Rattle.std.proofs.lemmas.Bool.{cases_eq, cases_Bool, both_ways, or_cases}
use Rattle.lin_model.specs.KeyAtom.{PlainKeyAtom}
use Rattle.lin_model.specs.Key.{KeyHolds, key_width}
use Rattle.refutation.specs.declared.node.Node.{Node}
use Rattle.refutation.specs.Bounds.{is_empty}
use Rattle.refutation.specs.Box.{PlainBox}
use Rattle.refutation.specs.Glance.{SomeBelow, SomeOtherCloses, SomeUnitCloses, SomePairCloses, place_count, term_at}
use Rattle.refutation.specs.Glance.{closes_alone, close_together, closes_with, unit_closes, pair_closes}
use Rattle.refutation.specs.Laws.{CutsLeaveProperHalves, OneIsTried, TwoAreTried}
use Rattle.refutation.specs.Leaf.{PlainLeaf, combo, fixed, empty, fixed_closes, Closes, ClosedByOneAtom, ClosedBySumOfTwo}
use Rattle.refutation.specs.SearchOrder.{lowest_corner, step}
use Rattle.refutation.specs.SearchTree.{IsUndecided}
use Rattle.box_solver.specs.Progress.{IsSearchBox}
use Rattle.box_solver.specs.Steps.{SplitsFairly}
use Rattle.box_solver.proofs.OrderLemmas.{step-none, step-fails}
use Rattle.box_solver.proofs.FairLemmas.{step-fair}

-- ---- searches below a number

-- something holds of a number below n, or of none
some_below : (P : ℕ → Type 0) (n : ℕ) → ((i : ℕ) → P i ⊎ (¬ P i)) → SomeBelow P n ⊎ (¬ SomeBelow P n)
some_below P zero test = inr (λ some. absurd (omega (arith, some.below)))
some_below P (suc n) test =
    ⊎_elim (λ here. inl (record { number = n; below = omega arith; holds = here }))
    (λ not_here. ⊎_elim (λ before. inl (record {
      number = before.number;
      below = omega (arith, before.below);
      holds = before.holds;
    }))
    (λ none. inr (λ some. ⊎_elim (λ same. not_here (subst P same some.holds))
    (λ other. none (record { number = some.number; below = omega (arith, some.below, other); holds = some.holds }))
    (cases_eq some.number n))) (some_below P n test)) (test n)

passes_or_not : (test : ℕ → Bool) (i : ℕ) → IsTrue (test i) ⊎ (¬ IsTrue (test i))
passes_or_not test i = ⊎_elim inl (λ fails. inr (both_ways (test i) fails)) (cases_Bool (test i))

-- ---- what closes a box at a glance

-- some leaf closes the box
abbrev pub IsClosed : List PlainKeyAtom → PlainBox → Type 0
IsClosed key box = (leaf : PlainLeaf) × Closes key box leaf

unit-closed : (key : List PlainKeyAtom) (box : PlainBox) → SomeUnitCloses key box → IsClosed key box
unit-closed key box h =
    ⊎_elim (λ plus. (combo (term_at key h.number (pos 1) ∷ []), plus))
    (λ minus. (combo (term_at key h.number (negsuc 0) ∷ []), minus))
    (or_cases (closes_alone key box h.number (pos 1)) (closes_alone key box h.number (negsuc 0)) h.holds)

pair-closed : (key : List PlainKeyAtom) (box : PlainBox) → SomePairCloses key box → IsClosed key box
pair-closed key box h =
    ⊎_elim (with_first (pos 1)) (with_first (negsuc 0))
    (or_cases (closes_with key box place (pos 1) other) (closes_with key box place (negsuc 0) other) h.holds.holds)
  where
    place : ℕ
    place = h.number

    other : ℕ
    other = h.holds.number

    with_first : (f : ℤ) → closes_with key box place f other ≡ true → IsClosed key box
    with_first f closed =
        ⊎_elim (λ plus. (combo (term_at key place f ∷ term_at key other (pos 1) ∷ []), plus))
        (λ minus. (combo (term_at key place f ∷ term_at key other (negsuc 0) ∷ []), minus))
        (or_cases (close_together key box place f other (pos 1)) (close_together key box place f other (negsuc 0))
        closed)

-- one atom or the sum of two closes the box, or neither does
closed_or_not : OneIsTried → TwoAreTried → (key : List PlainKeyAtom) (box : PlainBox) → IsClosed key box
    ⊎ ((¬ ClosedByOneAtom key box) × (¬ ClosedBySumOfTwo key box))
closed_or_not one two key box =
    ⊎_elim (λ is. inl (empty, is))
    (λ full. ⊎_elim (λ value. inl (fixed value.number, value.holds))
    (λ no_value. ⊎_elim (λ unit. inl (unit-closed key box unit))
    (λ no_unit. ⊎_elim (λ pair. inl (pair-closed key box pair))
    (λ no_pair. inr (
      one key box full (λ i lt. ⊎_elim (λ is. absurd (no_value (record { number = i; below = lt; holds = is })))
          (λ fails. fails) (cases_Bool (fixed_closes key box.bounds i))) no_unit,
      two key box no_pair,
    ))
    (some_below (SomeOtherCloses key box) (place_count key box.sides)
    (λ place. some_below (λ other. IsTrue (pair_closes key box place other)) (place_count key box.sides)
    (passes_or_not (pair_closes key box place)))))
    (some_below (λ i. IsTrue (unit_closes key box i)) (place_count key box.sides)
    (passes_or_not (unit_closes key box))))
    (some_below (λ i. IsTrue (fixed_closes key box.bounds i)) (length key)
    (passes_or_not (fixed_closes key box.bounds)))) (cases_Bool (is_empty box.bounds))

-- ---- what a box asks for

-- a box that has to be split, with the node that it asks for
pub record AsksForSplit (key : List PlainKeyAtom) (box : PlainBox) : Type 0 where
  pub node : Node
  pub is : step key box ≡ Some node
  pub undecided : IsUndecided key box
  pub fair : SplitsFairly key box node

-- a box of the search is closed by a leaf, its corner is a model, or it has to be split
pub next_step : OneIsTried → TwoAreTried → CutsLeaveProperHalves → (key : List PlainKeyAtom) (box : PlainBox)
    → key_width key ≤ 64 → IsSearchBox key box
    → IsClosed key box ⊎ (KeyHolds key (lowest_corner key box.bounds) ⊎ AsksForSplit key box)
next_step one two leave key box narrow s =
    ⊎_elim inl (λ not_closed. inr (by_step not_closed.0 not_closed.1 (step key box) refl))
    (closed_or_not one two key box)
  where
    by_step : ¬ ClosedByOneAtom key box → ¬ ClosedBySumOfTwo key box → (o : Option Node) → step key box ≡ o
        → KeyHolds key (lowest_corner key box.bounds) ⊎ AsksForSplit key box
    by_step not_one not_two None is = inl (step-none key box is)
    by_step not_one not_two (Some node') is =
        inr (record {
          node = node';
          is = is;
          undecided = record {
            not_by_one = not_one;
            not_by_two = not_two;
            corner_fails = step-fails key box node' is;
          };
          fair = step-fair leave key box node' narrow s.boxed not_one is;
        })
