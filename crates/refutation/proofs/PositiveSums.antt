-- The sum of a combination that closes a box is positive at each point within the bounds.
use Rattle.std.proofs.Common.{◌≡◌, ◌<◌, ℤ, pos, ◌-ℤ◌, ◌≤ℤ◌, ◌<ℤ◌, true, false, ◌&&◌, int_lt, nat_le, IfSome}
use Rattle.std.proofs.Common.{Some, List, [], ◌∷◌, length, subst, arith}
use Rattle.std.specs.List.{All}
use Rattle.std.specs.Option.{option_map, option_map_or}
use Rattle.std.proofs.lemmas.Bool.{and_parts}
use Rattle.std.proofs.lemmas.Int.{ints}
use Rattle.std.proofs.lemmas.List.Elements.{All-nil, All-cons}
use Rattle.lin_model.specs.Form.{form_value}
use Rattle.lin_model.specs.KeyAtom.{PlainKeyAtom}
use Rattle.refutation.specs.declared.leaf.LeafTerm.{LeafTerm}
use Rattle.refutation.specs.declared.side.Side.{Side}
use Rattle.refutation.specs.Bounds.{PlainBounds, least, IsWithin}
use Rattle.refutation.specs.Laws.{worth, CombinationsArePositive}
use Rattle.refutation.specs.Leaf.{Multiple, named, weight, weighted, multiple_of, multiples_of, summed_constant}
use Rattle.refutation.specs.Leaf.{summed_form, is_positive_sum, combo_closes}
use Rattle.refutation.proofs.LookUps.{test_found, bound_some, mapped_some}
use Rattle.refutation.proofs.Sums.{least-below, total_of, summed_form-value}
use Rattle.refutation.proofs.ClosedBoxes.{AreNarrow, named-narrow, IsKey-narrow}

multiples-narrow : (key : List PlainKeyAtom) (sides : List Side) (terms : List LeafTerm) (ms : List Multiple)
    → AreNarrow key → multiples_of key sides terms ≡ Some ms → All (λ m. All (λ t. t.var < 64) m.form) ms
multiples-narrow key sides [] ms narrow is =
    let none : [] ≡ ms = cc in
    subst (λ (xs : List Multiple). All (λ m. All (λ t. t.var < 64) m.form) xs) none
    (All-nil (λ m. All (λ t. t.var < 64) m.form))
multiples-narrow key sides (term ∷ terms) ms narrow is =
    let first = bound_some (multiple_of key sides term)
    (λ m. option_map (λ ms. m ∷ ms) (multiples_of key sides terms)) ms is in
    let rest = mapped_some (multiples_of key sides terms) (λ ms. first.0 ∷ ms) ms first.2 in
    let found = bound_some (named key sides term.on) (λ a. weighted a term.factor) first.0 first.1 in
    let a = found.0 in
    let weighed = mapped_some (weight a.op term.factor)
    (λ w. record { form = a.form; constant = a.constant; weight = w }) first.0 found.2 in
    let narrow_first = subst (λ (m : Multiple). All (λ t. t.var < 64) m.form) weighed.2
    (named-narrow key sides term.on a narrow found.1) in
    subst (λ (xs : List Multiple). All (λ m. All (λ t. t.var < 64) m.form) xs) rest.2
    (All-cons (λ m. All (λ t. t.var < 64) m.form) first.0 rest.0 narrow_first
    (multiples-narrow key sides terms rest.0 narrow rest.1))

worth-total : (ms : List Multiple) (point : List ℤ) → worth ms point ≡ total_of ms point -ℤ summed_constant ms
unfolding total_of
worth-total [] point = omega (arith, ints)
worth-total (m ∷ ms) point = omega (arith, ints, worth-total ms point)

positive-at : (b : PlainBounds) (ms : List Multiple) (point : List ℤ) → All (λ m. All (λ t. t.var < 64) m.form) ms
    → IsWithin b point → is_positive_sum b ms ≡ true → pos 0 <ℤ worth ms point
unfolding is_positive_sum
positive-at b ms point narrow within positive =
    let found = test_found (least (summed_form ms) b) (λ n. int_lt (pos 0) (n -ℤ summed_constant ms)) positive in
    let below : found.0 ≤ℤ form_value (summed_form ms) point = subst
    (λ o. IfSome o (λ n. n ≤ℤ form_value (summed_form ms) point)) found.1 (least-below (summed_form ms) b point within)
    in
    omega (arith, ints, below, found.2, summed_form-value ms point narrow, worth-total ms point)

pub are_positive : CombinationsArePositive
unfolding combo_closes
are_positive key box terms point is within closed =
    let long = and_parts (nat_le 1 (length terms)) (nat_le (length terms) 8
    && option_map_or (is_positive_sum box.bounds) (multiples_of key box.sides terms) false) closed in
    let short = and_parts (nat_le (length terms) 8)
    (option_map_or (is_positive_sum box.bounds) (multiples_of key box.sides terms) false) long.1 in
    let found = test_found (multiples_of key box.sides terms) (is_positive_sum box.bounds) short.1 in
    record {
      multiples = found.0;
      are = found.1;
      positive = positive-at box.bounds found.0 point
          (multiples-narrow key box.sides terms found.0 (IsKey-narrow key is) found.1) within found.2;
    }
