-- Bounds of 64 variables, the bounds that a key gives, and the least and greatest value of a form within them.
use Rattle.std.specs.Prelude.{◌≡◌, ℕ, zero, suc, ◌+◌, ◌^◌, ◌≤◌, ℤ, pos, negsuc, neg_ℤ, ◌+ℤ◌, ◌*ℤ◌, ◌≤ℤ◌, Bool, false}
use Rattle.std.specs.Prelude.{if◌then◌else◌, ◌==◌, int_lt, Option, Some, None, IfSome, List, [], ◌∷◌, map, length}
use Rattle.std.specs.Prelude.{unsigned_abs, slice_index_or, slice_set}
use Rattle.std.specs.Int.{int_min, int_max}
use Rattle.std.specs.List.{All, list_any, range_with_len}
use Rattle.std.specs.Option.{option_map}
use Rattle.std.specs.Ordering.{int_eq}
use Rattle.lin_model.specs.declared.form.FormTerm.{FormTerm}
use Rattle.lin_model.specs.declared.op.Op.{Op}
use Rattle.lin_model.specs.declared.op.Op.TheVariants.{Le, Ge, Eq, Ne}
use Rattle.lin_model.specs.Form.{value_at}
use Rattle.lin_model.specs.KeyAtom.{PlainKeyAtom}

-- the least and the greatest value that each of 64 variables may take, None where there is no such side
pub record PlainBounds : Type 0 where
  pub lower : List (Option ℤ)
  pub upper : List (Option ℤ)

-- the lower side of a variable
abbrev pub lower_of : PlainBounds → ℕ → Option ℤ
lower_of b v = slice_index_or b.lower v None

-- the upper side of a variable
abbrev pub upper_of : PlainBounds → ℕ → Option ℤ
upper_of b v = slice_index_or b.upper v None

-- the numbers of the variables
unfoldable pub variables : List ℕ
variables = range_with_len 0 64

-- ---- the bounds of a key

-- the greatest size of a side that an atom gives
abbrev pub side_limit : ℤ
side_limit = pos (2 ^ 32)

-- the lower side that `v >= c` gives: it is never above c
abbrev pub lower_side : ℤ → Option ℤ
lower_side c = if int_lt c (neg_ℤ side_limit) then None else Some (int_min c side_limit)

-- the upper side that `v <= c` gives: it is never below c
abbrev pub upper_side : ℤ → Option ℤ
upper_side c = if int_lt side_limit c then None else Some (int_max c (neg_ℤ side_limit))

-- the form is this variable alone
abbrev pub is_variable : List FormTerm → ℕ → Bool
is_variable [] v = false
is_variable (t ∷ []) v = if t.var == v then int_eq t.coef (pos 1) else false
is_variable (t ∷ u ∷ ts) v = false

-- the lower side that a comparison of a variable with c gives
abbrev pub lower_by : Op → ℤ → Option ℤ
lower_by Le c = None
lower_by Ge c = lower_side c
lower_by Eq c = lower_side c
lower_by Ne c = None

-- the upper side that a comparison of a variable with c gives
abbrev pub upper_by : Op → ℤ → Option ℤ
upper_by Le c = upper_side c
upper_by Ge c = None
upper_by Eq c = upper_side c
upper_by Ne c = None

-- the tighter of two lower sides; a missing one is the loosest
abbrev pub tighter_lower : Option ℤ → Option ℤ → Option ℤ
tighter_lower None o = o
tighter_lower (Some x) None = Some x
tighter_lower (Some x) (Some y) = Some (int_max x y)

-- the tighter of two upper sides; a missing one is the loosest
abbrev pub tighter_upper : Option ℤ → Option ℤ → Option ℤ
tighter_upper None o = o
tighter_upper (Some x) None = Some x
tighter_upper (Some x) (Some y) = Some (int_min x y)

-- the lower side of the variable v that an atom gives
abbrev pub lower_from : PlainKeyAtom → ℕ → Option ℤ
lower_from a v = if is_variable a.form v then lower_by a.op a.constant else None

-- the upper side of the variable v that an atom gives
abbrev pub upper_from : PlainKeyAtom → ℕ → Option ℤ
upper_from a v = if is_variable a.form v then upper_by a.op a.constant else None

-- the tightest lower side of the variable v among those that the atoms give
abbrev pub lower_bound : List PlainKeyAtom → ℕ → Option ℤ
lower_bound [] v = None
lower_bound (a ∷ atoms) v = tighter_lower (lower_from a v) (lower_bound atoms v)

-- the tightest upper side of the variable v among those that the atoms give
abbrev pub upper_bound : List PlainKeyAtom → ℕ → Option ℤ
upper_bound [] v = None
upper_bound (a ∷ atoms) v = tighter_upper (upper_from a v) (upper_bound atoms v)

-- the bounds of a key
unfoldable pub key_bounds : List PlainKeyAtom → PlainBounds
key_bounds atoms = record { lower = map (lower_bound atoms) variables; upper = map (upper_bound atoms) variables }

-- ---- changes, and what lies within

-- the bounds with the upper side of v lowered to n, unless it is tighter already
abbrev pub with_upper : PlainBounds → ℕ → ℤ → PlainBounds
with_upper b v n = record { lower = b.lower; upper = slice_set b.upper v (tighter_upper (upper_of b v) (Some n)) }

-- the bounds with the lower side of v raised to n, unless it is tighter already
abbrev pub with_lower : PlainBounds → ℕ → ℤ → PlainBounds
with_lower b v n = record { lower = slice_set b.lower v (tighter_lower (lower_of b v) (Some n)); upper = b.upper }

-- the lower side is above the upper side
abbrev pub crosses : Option ℤ → Option ℤ → Bool
crosses None o = false
crosses (Some l) None = false
crosses (Some l) (Some u) = int_lt u l

-- no value fits some variable
unfoldable pub is_empty : PlainBounds → Bool
is_empty b = list_any (λ v. crosses (lower_of b v) (upper_of b v)) variables

-- the point keeps every side
pub record IsWithin (b : PlainBounds) (point : List ℤ) : Type 0 where
  pub above : (v : ℕ) → IfSome (lower_of b v) (λ n. n ≤ℤ value_at point v)
  pub below : (v : ℕ) → IfSome (upper_of b v) (λ n. value_at point v ≤ℤ n)

-- what a side may be: missing, or at most 2^32 + 1 in size
abbrev pub IsSide : Option ℤ → Type 0
IsSide side = IfSome side (λ n. unsigned_abs n ≤ 2 ^ 32 + 1)

-- the limits that the code's bounds keep
pub record AreBounds (b : PlainBounds) : Type 0 where
  pub lower_len : length b.lower ≡ 64
  pub upper_len : length b.upper ≡ 64
  pub lower_sides : All IsSide b.lower
  pub upper_sides : All IsSide b.upper

-- ---- the least and the greatest value of a form

-- both numbers are known: their sum
abbrev pub add_known : Option ℤ → Option ℤ → Option ℤ
add_known None o = None
add_known (Some x) None = None
add_known (Some x) (Some y) = Some (x +ℤ y)

-- the multiple of the first side by a positive coefficient, of the second by a negative one; 0 needs no side
abbrev pub scaled_side : ℤ → Option ℤ → Option ℤ → Option ℤ
scaled_side (pos zero) s t = Some (pos 0)
scaled_side (pos (suc n)) s t = option_map (λ x. pos (suc n) *ℤ x) s
scaled_side (negsuc n) s t = option_map (λ x. negsuc n *ℤ x) t

-- the least value of the form within the bounds, None where a side that is needed is missing
unfoldable pub least : List FormTerm → PlainBounds → Option ℤ
least [] b = Some (pos 0)
least (t ∷ ts) b = add_known (scaled_side t.coef (lower_of b t.var) (upper_of b t.var)) (least ts b)

-- the greatest value, in the same way
unfoldable pub greatest : List FormTerm → PlainBounds → Option ℤ
greatest [] b = Some (pos 0)
greatest (t ∷ ts) b = add_known (scaled_side t.coef (upper_of b t.var) (lower_of b t.var)) (greatest ts b)
