-- Cuts: the bound of one variable that an atom gives within bounds.
use Rattle.std.specs.Prelude.{ℕ, zero, suc, ℤ, pos, negsuc, neg_ℤ, ◌-ℤ◌, Bool, true, false, not, ◌&&◌, if◌then◌else◌}
use Rattle.std.specs.Prelude.{◌==◌, int_lt, int_le, Option, Some, None, is_some, List}
use Rattle.std.specs.List.{list_all, filter}
use Rattle.std.specs.Option.{option_map, option_and_then}
use Rattle.lin_model.specs.declared.form.FormTerm.{FormTerm}
use Rattle.lin_model.specs.declared.op.Op.TheVariants.{Le, Ge, Eq, Ne}
use Rattle.lin_model.specs.KeyAtom.{PlainKeyAtom}
use Rattle.lin_model.specs.Quotients.{floor_div, ceil_div}
use Rattle.refutation.specs.Bounds.{PlainBounds, lower_of, upper_of, scaled_side, least, greatest}
use Rattle.refutation.specs.Leaf.{coefficient_of}

-- a bound of a variable, an upper one where the flag is set
pub record PlainCut : Type 0 where
  pub value : ℤ
  pub upper : Bool

-- the upper bound of v that `a * v <= n` gives
abbrev pub upper_at_most : ℤ → ℤ → Option ℤ
upper_at_most (pos zero) n = None
upper_at_most (pos (suc k)) n = Some (floor_div n (suc k))
upper_at_most (negsuc k) n = None

-- the lower bound of v that `a * v <= n` gives
abbrev pub lower_at_most : ℤ → ℤ → Option ℤ
lower_at_most (pos k) n = None
lower_at_most (negsuc k) n = Some (ceil_div (neg_ℤ n) (suc k))

-- the upper bound that `a * v >= n` gives, which is `-a * v <= -n`
abbrev pub upper_at_least : ℤ → ℤ → Option ℤ
upper_at_least a n = upper_at_most (neg_ℤ a) (neg_ℤ n)

-- the lower bound that `a * v >= n` gives
abbrev pub lower_at_least : ℤ → ℤ → Option ℤ
lower_at_least a n = lower_at_most (neg_ℤ a) (neg_ℤ n)

-- the terms of the form on other variables
abbrev pub others : List FormTerm → ℕ → List FormTerm
others form v = filter (λ t. not (t.var == v)) form

-- the least value of a term, 0 where it is on v
abbrev pub other_side : PlainBounds → ℕ → FormTerm → Option ℤ
other_side b v t = if t.var == v then Some (pos 0) else scaled_side t.coef (lower_of b t.var) (upper_of b t.var)

-- every variable of the form has both sides
abbrev pub has_sides : PlainBounds → List FormTerm → Bool
has_sides b form = list_all (λ t. is_some (lower_of b t.var) && is_some (upper_of b t.var)) form

-- what `form <= c` leaves for the term on v at most
abbrev pub most_left : PlainBounds → PlainKeyAtom → ℕ → Option ℤ
most_left b a v = option_map (λ r. a.constant -ℤ r) (least (others a.form v) b)

-- what `form >= c` leaves for that term at least
abbrev pub least_left : PlainBounds → PlainKeyAtom → ℕ → Option ℤ
least_left b a v = option_map (λ r. a.constant -ℤ r) (greatest (others a.form v) b)

-- the first that there is
abbrev pub first_some : Option ℤ → Option ℤ → Option ℤ
first_some None o = o
first_some (Some x) o = Some x

-- the upper bound of v that `form <= c` gives
abbrev pub upper_by_le : PlainBounds → PlainKeyAtom → ℕ → Option ℤ
upper_by_le b a v = option_and_then (upper_at_most (coefficient_of a.form v)) (most_left b a v)

-- the lower bound of v that `form <= c` gives
abbrev pub lower_by_le : PlainBounds → PlainKeyAtom → ℕ → Option ℤ
lower_by_le b a v = option_and_then (lower_at_most (coefficient_of a.form v)) (most_left b a v)

-- the upper bound of v that `form >= c` gives
abbrev pub upper_by_ge : PlainBounds → PlainKeyAtom → ℕ → Option ℤ
upper_by_ge b a v = option_and_then (upper_at_least (coefficient_of a.form v)) (least_left b a v)

-- the lower bound of v that `form >= c` gives
abbrev pub lower_by_ge : PlainBounds → PlainKeyAtom → ℕ → Option ℤ
lower_by_ge b a v = option_and_then (lower_at_least (coefficient_of a.form v)) (least_left b a v)

-- the upper bound that an atom gives by its op; `form = c` gives that of either comparison
unfoldable pub upper_cut : PlainBounds → PlainKeyAtom → ℕ → Option ℤ
upper_cut b a v = elim a.op [
  | Le ↦ upper_by_le b a v
  | Ge ↦ upper_by_ge b a v
  | Eq ↦ first_some (upper_by_le b a v) (upper_by_ge b a v)
  | Ne ↦ None
]

-- the lower bound that an atom gives, likewise
unfoldable pub lower_cut : PlainBounds → PlainKeyAtom → ℕ → Option ℤ
lower_cut b a v = elim a.op [
  | Le ↦ lower_by_le b a v
  | Ge ↦ lower_by_ge b a v
  | Eq ↦ first_some (lower_by_le b a v) (lower_by_ge b a v)
  | Ne ↦ None
]

-- a lower bound counts where it moves the lower side inwards without passing the upper one
abbrev pub counts_as_lower : Option ℤ → Option ℤ → ℤ → Bool
counts_as_lower None hi n = false
counts_as_lower (Some lo) None n = false
counts_as_lower (Some lo) (Some hi) n = int_lt lo n && int_le n hi

-- an upper bound counts where it moves the upper side inwards without passing the lower one
abbrev pub counts_as_upper : Option ℤ → Option ℤ → ℤ → Bool
counts_as_upper None hi n = false
counts_as_upper (Some lo) None n = false
counts_as_upper (Some lo) (Some hi) n = int_le lo n && int_lt n hi

-- the number, where it passes the test
abbrev pub kept_if : (ℤ → Bool) → Option ℤ → Option ℤ
kept_if test None = None
kept_if test (Some n) = if test n then Some n else None

-- the lower bound that the atom gives, where it counts
abbrev pub lower_that_counts : PlainBounds → PlainKeyAtom → ℕ → Option ℤ
lower_that_counts b a v = kept_if (counts_as_lower (lower_of b v) (upper_of b v)) (lower_cut b a v)

-- the upper bound that the atom gives, where it counts
abbrev pub upper_that_counts : PlainBounds → PlainKeyAtom → ℕ → Option ℤ
upper_that_counts b a v = kept_if (counts_as_upper (lower_of b v) (upper_of b v)) (upper_cut b a v)

-- a lower bound before an upper bound
abbrev pub chosen_cut : Option ℤ → Option ℤ → Option PlainCut
chosen_cut None upper = option_map (λ n. record { value = n; upper = true }) upper
chosen_cut (Some n) upper = Some (record { value = n; upper = false })

-- the cut of v by the atom, None where no bound counts
unfoldable pub cut : PlainBounds → PlainKeyAtom → ℕ → Option PlainCut
cut b a v = if has_sides b a.form then chosen_cut (lower_that_counts b a v) (upper_that_counts b a v) else None
