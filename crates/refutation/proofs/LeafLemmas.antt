-- How the code's walk over a combination's terms comes to the sum of its multiples.
use Rattle.std.proofs.Common.{◌≡◌, ℕ, zero, suc, ◌+◌, ◌<◌, ◌≤◌, ℤ, pos, ◌+ℤ◌, ◌-ℤ◌, ◌*ℤ◌, Bool, true, false, ◌&&◌}
use Rattle.std.proofs.Common.{Option, Some, None, List, [], ◌∷◌, ◌++◌, map, length, get_or, take, slice_get, int_lt}
use Rattle.std.proofs.Common.{nat_le, refl, ap, sym, ◌∙◌, arith}
use Rattle.std.specs.List.{range_with_len}
use Rattle.std.specs.Option.{option_map, option_and_then, option_map_or}
use Rattle.std.proofs.lemmas.Bool.{le-leb, lt-leb, and_right}
use Rattle.std.proofs.lemmas.Int.{ints}
use Rattle.std.proofs.lemmas.List.{take_more, length-take}
use Rattle.std.proofs.lemmas.List.FromFn.{get_or-map-range_with_len, length-map-range_with_len, fill_by_all}
use Rattle.lin_model.specs.declared.form.FormTerm.{FormTerm}
use Rattle.lin_model.specs.KeyAtom.{PlainKeyAtom}
use Rattle.refutation.specs.declared.leaf.LeafTerm.{LeafTerm}
use Rattle.refutation.specs.declared.side.Side.{Side}
use Rattle.refutation.specs.Bounds.{PlainBounds, variables, least, greatest}
use Rattle.refutation.specs.Box.{PlainBox}
use Rattle.refutation.specs.Leaf.{coefficient_of, Multiple, multiple_of, multiples_of, summed_coefficient}
use Rattle.refutation.specs.Leaf.{summed_constant, summed_form, is_positive_sum, combo_closes, fails_fixed}
use Rattle.refutation.specs.Leaf.{fixed_closes}
use Rattle.refutation.specs.Sum.{PlainSum, coef_at, dense_form, is_positive_within, AddsMultiple, AddsIfSome}
use Rattle.refutation.proofs.LookUps.{bound_some, mapped_some}

-- ---- Fixed

pub fixed_closes-none : (key : List PlainKeyAtom) (b : PlainBounds) (i : ℕ) → slice_get key i ≡ None
    → fixed_closes key b i ≡ false
unfolding fixed_closes
fixed_closes-none key b i is =
    ap (λ (o : Option PlainKeyAtom). option_map_or (λ a. fails_fixed a (least a.form b) (greatest a.form b)) o false) is

pub fixed_closes-some : (key : List PlainKeyAtom) (b : PlainBounds) (i : ℕ) (a : PlainKeyAtom)
    → slice_get key i ≡ Some a → fixed_closes key b i ≡ fails_fixed a (least a.form b) (greatest a.form b)
unfolding fixed_closes
fixed_closes-some key b i a is =
    ap (λ (o : Option PlainKeyAtom). option_map_or (λ a. fails_fixed a (least a.form b) (greatest a.form b)) o false) is

-- ---- Combo

pub combo_closes-empty : (key : List PlainKeyAtom) (box : PlainBox) (terms : List LeafTerm) → length terms ≡ 0
    → combo_closes key box terms ≡ false
unfolding combo_closes
combo_closes-empty key box [] h = refl
combo_closes-empty key box (t ∷ terms) h = absurd (omega arith)

pub combo_closes-long : (key : List PlainKeyAtom) (box : PlainBox) (terms : List LeafTerm) → 8 < length terms
    → combo_closes key box terms ≡ false
unfolding combo_closes
combo_closes-long key box terms h =
    and_right (nat_le 1 (length terms)) (nat_le (length terms) 8
    && option_map_or (is_positive_sum box.bounds) (multiples_of key box.sides terms) false)
    (ap (λ (b : Bool). b && option_map_or (is_positive_sum box.bounds) (multiples_of key box.sides terms) false)
    (lt-leb (length terms) 8 h))

pub combo_closes-is : (key : List PlainKeyAtom) (box : PlainBox) (terms : List LeafTerm) → 0 < length terms
    → length terms ≤ 8 → combo_closes key box terms
    ≡ option_map_or (is_positive_sum box.bounds) (multiples_of key box.sides terms) false
unfolding combo_closes
combo_closes-is key box terms low high =
    ap (λ (b : Bool). b && (nat_le (length terms) 8
    && option_map_or (is_positive_sum box.bounds) (multiples_of key box.sides terms) false))
    (le-leb 1 (length terms) (omega arith))
    ∙ ap (λ (b : Bool). b && option_map_or (is_positive_sum box.bounds) (multiples_of key box.sides terms) false)
    (le-leb (length terms) 8 high)

-- ---- the multiples of the terms so far

multiples_of-push : (key : List PlainKeyAtom) (sides : List Side) (terms : List LeafTerm) (t : LeafTerm)
    (ms : List Multiple) (m : Multiple) → multiples_of key sides terms ≡ Some ms → multiple_of key sides t ≡ Some m
    → multiples_of key sides (terms ++ t ∷ []) ≡ Some (ms ++ m ∷ [])
multiples_of-push key sides [] t ms m are is =
    let none : [] ≡ ms = cc in
    ap (option_and_then (λ n. Some (n ∷ []))) is ∙ ap (λ (xs : List Multiple). Some (xs ++ m ∷ [])) none
multiples_of-push key sides (u ∷ terms) t ms m are is =
    let first = bound_some (multiple_of key sides u) (λ n. option_map (λ ns. n ∷ ns) (multiples_of key sides terms)) ms
    are in
    let rest = mapped_some (multiples_of key sides terms) (λ ns. first.0 ∷ ns) ms first.2 in
    ap (option_and_then (λ n. option_map (λ ns. n ∷ ns) (multiples_of key sides (terms ++ t ∷ [])))) first.1
    ∙ ap (option_map (λ ns. first.0 ∷ ns)) (multiples_of-push key sides terms t rest.0 m rest.1 is)
    ∙ ap (λ (xs : List Multiple). Some (xs ++ m ∷ [])) rest.2

bound_to_none : (o : Option Multiple) → option_and_then {U = List Multiple} (λ n. None) o ≡ None
bound_to_none None = refl
bound_to_none (Some m) = refl

pub multiples_of-none : (key : List PlainKeyAtom) (sides : List Side) (terms : List LeafTerm) (i : ℕ) (d : LeafTerm)
    → i < length terms → multiple_of key sides (get_or terms i d) ≡ None → multiples_of key sides terms ≡ None
multiples_of-none key sides [] i d lt is = absurd (omega arith)
multiples_of-none key sides (u ∷ terms) zero d lt is =
    ap (option_and_then (λ n. option_map (λ ns. n ∷ ns) (multiples_of key sides terms))) is
multiples_of-none key sides (u ∷ terms) (suc i) d lt is =
    ap (λ (o : Option (List Multiple)). option_and_then (λ n. option_map (λ ns. n ∷ ns) o) (multiple_of key sides u))
    (multiples_of-none key sides terms i d (omega arith) is) ∙ bound_to_none (multiple_of key sides u)

summed_coefficient-push : (ms : List Multiple) (m : Multiple) (v : ℕ)
    → summed_coefficient (ms ++ m ∷ []) v ≡ summed_coefficient ms v +ℤ (m.weight *ℤ coefficient_of m.form v)
summed_coefficient-push [] m v = omega (arith, ints)
summed_coefficient-push (n ∷ ms) m v = omega (arith, ints, summed_coefficient-push ms m v)

summed_constant-push : (ms : List Multiple) (m : Multiple)
    → summed_constant (ms ++ m ∷ []) ≡ summed_constant ms +ℤ (m.weight *ℤ m.constant)
summed_constant-push [] m = omega (arith, ints)
summed_constant-push (n ∷ ms) m = omega (arith, ints, summed_constant-push ms m)

-- the sum is that of the multiples of these terms
pub record IsSummed (key : List PlainKeyAtom) (sides : List Side) (terms : List LeafTerm) (s : PlainSum) : Type 0 where
  pub multiples : List Multiple
  pub are : multiples_of key sides terms ≡ Some multiples
  pub coefs : (v : ℕ) → v < 64 → coef_at s v ≡ summed_coefficient multiples v
  pub constant : s.constant ≡ summed_constant multiples
  pub count : s.count ≡ length terms

pub IsSummed-none : (key : List PlainKeyAtom) (sides : List Side) (s : PlainSum)
    → ((v : ℕ) → v < 64 → coef_at s v ≡ pos 0) → s.constant ≡ pos 0 → s.count ≡ 0 → IsSummed key sides [] s
IsSummed-none key sides s coefs constant count =
    record { multiples = []; are = refl; coefs = coefs; constant = constant; count = count }

added_one : (o : Option Multiple) (old new : PlainSum) (added : Bool) → added ≡ true → AddsIfSome o old new added
    → (m : Multiple) × (o ≡ Some m) × AddsMultiple old new m
added_one None old new added yes' h = absurd (cc)
added_one (Some m) old new added yes' h = (m, refl, h.1)

added_none : (o : Option Multiple) (old new : PlainSum) (added : Bool) → added ≡ false → AddsIfSome o old new added
    → o ≡ None
added_none None old new added no' h = refl
added_none (Some m) old new added no' h = absurd (cc)

pub IsSummed-more : (key : List PlainKeyAtom) (sides : List Side) (terms : List LeafTerm) (i : ℕ) (d : LeafTerm)
    (old new : PlainSum) (added : Bool) → i < length terms → added ≡ true → IsSummed key sides (take i terms) old
    → AddsIfSome (multiple_of key sides (get_or terms i d)) old new added → IsSummed key sides (take (i + 1) terms) new
IsSummed-more key sides terms i d old new added lt yes' before h =
    let one = added_one (multiple_of key sides (get_or terms i d)) old new added yes' h in
    record {
      multiples = before.multiples ++ one.0 ∷ [];
      are = ap (multiples_of key sides) (take_more terms i d lt)
          ∙ multiples_of-push key sides (take i terms) (get_or terms i d) before.multiples one.0 before.are one.1;
      coefs = λ v lt. omega (
        arith,
        ints,
        one.2.coefs v lt,
        before.coefs v lt,
        summed_coefficient-push before.multiples
            one.0 v,
      );
      constant = omega (arith, ints, one.2.constant, before.constant, summed_constant-push before.multiples one.0);
      count = omega (arith, one.2.count, before.count, length-take i terms, length-take (i + 1) terms);
    }

pub multiples_of-fails : (key : List PlainKeyAtom) (sides : List Side) (terms : List LeafTerm) (i : ℕ) (d : LeafTerm)
    (old new : PlainSum) (added : Bool) → i < length terms → added ≡ false
    → AddsIfSome (multiple_of key sides (get_or terms i d)) old new added → multiples_of key sides terms ≡ None
multiples_of-fails key sides terms i d old new added lt no' h =
    multiples_of-none key sides terms i d lt (added_none (multiple_of key sides (get_or terms i d)) old new added no' h)

-- the least value of the sum is that of the multiples' sum
dense_form-summed : (coefs : List ℤ) (ms : List Multiple)
    → ((v : ℕ) → v < 64 → get_or coefs v (pos 0) ≡ summed_coefficient ms v) → dense_form coefs ≡ summed_form ms
unfolding dense_form summed_form variables
dense_form-summed coefs ms same =
    fill_by_all (λ v. record { var = v; coef = summed_coefficient ms v })
    (map (λ v. record { var = v; coef = get_or coefs v (pos 0) }) (range_with_len 0 64)) 64
    (record { var = 0; coef = pos 0 })
    (length-map-range_with_len {X = FormTerm} (λ v. record { var = v; coef = get_or coefs v (pos 0) }) 0 64)
    (λ k lt. get_or-map-range_with_len {X = FormTerm} (λ v. record { var = v; coef = get_or coefs v (pos 0) }) 0 64 k k
    (record { var = 0; coef = pos 0 }) lt (omega arith) ∙ ap (λ (n : ℤ). record { var = k; coef = n }) (same k lt))

pub IsSummed-positive : (key : List PlainKeyAtom) (sides : List Side) (terms : List LeafTerm) (s : PlainSum)
    (b : PlainBounds) → IsSummed key sides terms s
    → is_positive_within s b ≡ option_map_or (is_positive_sum b) (multiples_of key sides terms) false
unfolding is_positive_sum
IsSummed-positive key sides terms s b h =
    ap (λ (f : List FormTerm). option_map_or (λ n. int_lt (pos 0) (n -ℤ s.constant)) (least f b) false)
    (dense_form-summed s.coefs h.multiples h.coefs)
    ∙ ap (λ (c : ℤ). option_map_or (λ n. int_lt (pos 0) (n -ℤ c)) (least (summed_form h.multiples) b) false) h.constant
    ∙ sym (ap (λ (o : Option (List Multiple)). option_map_or (is_positive_sum b) o false) h.are)
