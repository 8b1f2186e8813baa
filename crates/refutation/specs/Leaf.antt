-- What closes a box.
use Rattle.std.specs.Prelude.{ℕ, ◌^◌, ℤ, pos, neg_ℤ, ◌+ℤ◌, ◌-ℤ◌, ◌*ℤ◌, Bool, true, false, not, ◌&&◌, ◌||◌}
use Rattle.std.specs.Prelude.{if◌then◌else◌, ◌==◌, int_lt, nat_le, Option, Some, None, IsTrue, List, [], ◌∷◌, map}
use Rattle.std.specs.Prelude.{length, unsigned_abs, slice_get}
use Rattle.std.specs.Option.{option_map, option_and_then, option_map_or}
use Rattle.std.specs.Ordering.{int_eq}
use Rattle.lin_model.specs.declared.form.FormTerm.{FormTerm}
use Rattle.lin_model.specs.declared.op.Op.{Op}
use Rattle.lin_model.specs.declared.op.Op.TheVariants.{Le, Ge, Eq, Ne}
use Rattle.lin_model.specs.KeyAtom.{PlainKeyAtom}
use Rattle.lin_model.specs.Test.{passes}
use Rattle.refutation.specs.declared.leaf.Leaf.{Leaf}
use Rattle.refutation.specs.declared.leaf.Leaf.TheVariants.{Combo, Fixed, Empty}
use Rattle.refutation.specs.declared.leaf.LeafTerm.{LeafTerm}
use Rattle.refutation.specs.declared.leaf.On.{On}
use Rattle.refutation.specs.declared.leaf.On.TheVariants.{Atom as OnAtom, Side as OnSide}
use Rattle.refutation.specs.declared.side.Side.{Side}
use Rattle.refutation.specs.Bounds.{PlainBounds, variables, least, greatest, is_empty}
use Rattle.refutation.specs.Box.{PlainBox, side_atom}

-- a leaf: a combination of terms, an atom whose form has one value in the box, or that the box is empty
pub data PlainLeaf : Type 0 where
  combo : List LeafTerm → PlainLeaf
  fixed : ℕ → PlainLeaf
  empty : PlainLeaf

-- ---- the sum of a combination

-- the sum of the coefficients of v in the form
abbrev pub coefficient_of : List FormTerm → ℕ → ℤ
coefficient_of [] v = pos 0
coefficient_of (t ∷ ts) v = (if t.var == v then t.coef else pos 0) +ℤ coefficient_of ts v

-- the atom that a term names: one of the key, or a side of the box
abbrev pub named : List PlainKeyAtom → List Side → On → Option PlainKeyAtom
named key sides (OnAtom i) = slice_get key i
named key sides (OnSide k) = option_and_then (side_atom key) (slice_get sides k)

-- a factor that a term on `=` may have
abbrev pub is_factor : ℤ → Bool
is_factor f = nat_le (unsigned_abs f) (2 ^ 31) && not (int_eq f (pos 0))

-- a factor that a term on `<=` or `>=` may have
abbrev pub is_positive_factor : ℤ → Bool
is_positive_factor f = is_factor f && int_lt (pos 0) f

-- the multiple of `form - c` that a factor of an atom stands for, where the factor is lawful: on `>=` it is that of `c
-- - form`
abbrev pub weight : Op → ℤ → Option ℤ
weight Le f = if is_positive_factor f then Some f else None
weight Ge f = if is_positive_factor f then Some (neg_ℤ f) else None
weight Eq f = if is_factor f then Some f else None
weight Ne f = None

-- a multiple of `form - constant`
pub record Multiple : Type 0 where
  pub form : List FormTerm
  pub constant : ℤ
  pub weight : ℤ

-- the multiple that a factor of an atom stands for
abbrev pub weighted : PlainKeyAtom → ℤ → Option Multiple
weighted a f = option_map (λ w. record { form = a.form; constant = a.constant; weight = w }) (weight a.op f)

-- the multiple that a term stands for, None where it names nothing or its factor isn't lawful
abbrev pub multiple_of : List PlainKeyAtom → List Side → LeafTerm → Option Multiple
multiple_of key sides term = option_and_then (λ a. weighted a term.factor) (named key sides term.on)

-- those of all the terms, None where one has none
abbrev pub multiples_of : List PlainKeyAtom → List Side → List LeafTerm → Option (List Multiple)
multiples_of key sides [] = Some []
multiples_of key sides (term ∷ terms) =
    option_and_then (λ m. option_map (λ ms. m ∷ ms) (multiples_of key sides terms)) (multiple_of key sides term)

-- the coefficient of v in the sum of the multiples
abbrev pub summed_coefficient : List Multiple → ℕ → ℤ
summed_coefficient [] v = pos 0
summed_coefficient (m ∷ ms) v = (m.weight *ℤ coefficient_of m.form v) +ℤ summed_coefficient ms v

-- what the sum subtracts
abbrev pub summed_constant : List Multiple → ℤ
summed_constant [] = pos 0
summed_constant (m ∷ ms) = (m.weight *ℤ m.constant) +ℤ summed_constant ms

-- the sum as one form, with a term for each variable
unfoldable pub summed_form : List Multiple → List FormTerm
summed_form ms = map (λ v. record { var = v; coef = summed_coefficient ms v }) variables

-- the least value of the sum within the bounds is known and positive
unfoldable pub is_positive_sum : PlainBounds → List Multiple → Bool
is_positive_sum b ms = option_map_or (λ n. int_lt (pos 0) (n -ℤ summed_constant ms)) (least (summed_form ms) b) false

-- ---- the three leaves

-- one to eight lawful terms whose sum is positive all over the box, though each is at most 0 where the key holds
unfoldable pub combo_closes : List PlainKeyAtom → PlainBox → List LeafTerm → Bool
combo_closes key box terms =
    nat_le 1 (length terms) && (nat_le (length terms) 8
    && option_map_or (is_positive_sum box.bounds) (multiples_of key box.sides terms) false)

-- both values are known and the same, and this value fails the atom's test
abbrev pub fails_fixed : PlainKeyAtom → Option ℤ → Option ℤ → Bool
fails_fixed a None o = false
fails_fixed a (Some n) None = false
fails_fixed a (Some n) (Some m) = int_eq n m && not (passes a.op a.constant n)

-- the form of the atom has one value in the box, which fails its test
unfoldable pub fixed_closes : List PlainKeyAtom → PlainBounds → ℕ → Bool
fixed_closes key b i = option_map_or (λ a. fails_fixed a (least a.form b) (greatest a.form b)) (slice_get key i) false

-- whether the leaf closes the box
abbrev pub closes : List PlainKeyAtom → PlainBox → PlainLeaf → Bool
closes key box (combo terms) = combo_closes key box terms
closes key box (fixed i) = fixed_closes key box.bounds i
closes key box empty = is_empty box.bounds

-- a leaf of the code as its parts
abbrev pub leaf_of : Leaf → PlainLeaf
leaf_of (Combo terms) = combo terms.items
leaf_of (Fixed i) = fixed i
leaf_of Empty = empty

-- the leaf closes the box
abbrev pub Closes : List PlainKeyAtom → PlainBox → PlainLeaf → Type 0
Closes key box leaf = IsTrue (closes key box leaf)

-- ---- what closes a box at a glance

-- a factor 1, or -1, which is lawful on `=` alone
abbrev pub is_unit : LeafTerm → Bool
is_unit term = int_eq term.factor (pos 1) || int_eq term.factor (neg_ℤ (pos 1))

-- the leaf needs one atom at most
abbrev pub is_by_one : PlainLeaf → Bool
is_by_one (combo []) = false
is_by_one (combo (t ∷ [])) = is_unit t
is_by_one (combo (t ∷ u ∷ ts)) = false
is_by_one (fixed i) = true
is_by_one empty = true

-- the leaf is the sum of two
abbrev pub is_sum_of_two : PlainLeaf → Bool
is_sum_of_two (combo []) = false
is_sum_of_two (combo (t ∷ [])) = false
is_sum_of_two (combo (t ∷ u ∷ [])) = is_unit t && is_unit u
is_sum_of_two (combo (t ∷ u ∷ v ∷ ts)) = false
is_sum_of_two (fixed i) = false
is_sum_of_two empty = false

-- some leaf of at most one atom closes the box; a side counts like an atom
abbrev pub ClosedByOneAtom : List PlainKeyAtom → PlainBox → Type 0
ClosedByOneAtom key box = (leaf : PlainLeaf) × IsTrue (is_by_one leaf) × Closes key box leaf

-- some sum of two atoms or sides closes the box
abbrev pub ClosedBySumOfTwo : List PlainKeyAtom → PlainBox → Type 0
ClosedBySumOfTwo key box = (leaf : PlainLeaf) × IsTrue (is_sum_of_two leaf) × Closes key box leaf
