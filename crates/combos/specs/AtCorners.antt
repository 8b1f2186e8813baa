-- What atoms and sides are worth at both corners of a box, as the code keeps it. Of a term that stands for nothing no word
-- is said.
use Rattle.std.specs.Prelude.{◌≡◌, ◌⊎◌, ℕ, ◌^◌, ◌<◌, ◌≤◌, ℤ, pos, negsuc, neg_ℤ, ◌≤ℤ◌, Bool, true, false, Option, Some}
use Rattle.std.specs.Prelude.{List, length, unsigned_abs, slice_get, slice_index_or}
use Rattle.std.specs.Option.{option_map_or}
use Rattle.lin_model.specs.declared.op.Op.{Op}
use Rattle.lin_model.specs.declared.op.Op.TheVariants.{Le, Ge, Eq, Ne}
use Rattle.lin_model.specs.KeyAtom.{PlainKeyAtom}
use Rattle.refutation.specs.declared.leaf.LeafTerm.{LeafTerm}
use Rattle.refutation.specs.Box.{PlainBox}
use Rattle.refutation.specs.Glance.{term_at}
use Rattle.refutation.specs.Leaf.{is_unit}
use Rattle.combos.specs.declared.corner.Worth.{Worth}
use Rattle.combos.specs.declared.worths.UnitTerm.{UnitTerm}
use Rattle.combos.specs.declared.worths.Worths.{Worths}
use Rattle.combos.specs.Corner.{corner_value}

-- ---- what a term is worth

-- a number is this one, if there is any
abbrev pub IsNoneOr : Option ℤ → ℤ → Type 0
IsNoneOr o n = (x : ℤ) → o ≡ Some x → x ≡ n

-- the term is worth this at both corners, if it stands for anything
pub record IsWorth (key : List PlainKeyAtom) (box : PlainBox) (term : LeafTerm) (worth : Worth) : Type 0 where
  pub lowest : IsNoneOr (corner_value key box false term) worth.lowest
  pub highest : IsNoneOr (corner_value key box true term) worth.highest

-- the negative at both corners
abbrev pub negated : Worth → Worth
negated a = record { lowest = neg_ℤ a.lowest; highest = neg_ℤ a.highest }

-- there is room for the sum of two
pub record IsSmall (worth : Worth) : Type 0 where
  pub lowest : unsigned_abs worth.lowest ≤ 2 ^ 100
  pub highest : unsigned_abs worth.highest ≤ 2 ^ 100

-- the term has the factor 1 or -1, and is worth what is said of it
pub record IsWeighed (key : List PlainKeyAtom) (box : PlainBox) (unit : UnitTerm) : Type 0 where
  pub factor : is_unit unit.term ≡ true
  pub size : unsigned_abs unit.term.factor ≡ 1
  pub worth : IsWorth key box unit.term unit.worth
  pub small : IsSmall unit.worth

-- ---- what is kept of a row

-- what is kept of a place
abbrev pub kept_at : Worths → ℕ → Worth
kept_at worths place = record {
  lowest = slice_index_or worths.lowest.items place (pos 0);
  highest = slice_index_or worths.highest.items place (pos 0);
}

-- this is what the first atoms and sides of the row are worth by the factor 1
pub record AreWorths (key : List PlainKeyAtom) (box : PlainBox) (worths : Worths) : Type 0 where
  pub same : length worths.lowest.items ≡ length worths.highest.items
  pub each : (place : ℕ) → place < length worths.lowest.items
      → IsWorth key box (term_at key place (pos 1)) (kept_at worths place)
  pub small : (place : ℕ) → place < length worths.lowest.items → IsSmall (kept_at worths place)

-- ---- what fails at the lowest corner

-- the term isn't worth more than 0 there
abbrev pub HoldsThere : List PlainKeyAtom → PlainBox → LeafTerm → Type 0
HoldsThere key box term = (x : ℤ) → corner_value key box false term ≡ Some x → x ≤ℤ pos 0

-- nor is either factor of a place
pub record BothHold (key : List PlainKeyAtom) (box : PlainBox) (place : ℕ) : Type 0 where
  pub plus : HoldsThere key box (term_at key place (pos 1))
  pub minus : HoldsThere key box (term_at key place (negsuc 0))

-- the term is one of the place's two, and the other one isn't worth more than 0 there
abbrev pub IsOnlyFailing : List PlainKeyAtom → PlainBox → ℕ → LeafTerm → Type 0
IsOnlyFailing key box place term =
    ((term ≡ term_at key place (pos 1)) × HoldsThere key box (term_at key place (negsuc 0)))
    ⊎ ((term ≡ term_at key place (negsuc 0)) × HoldsThere key box (term_at key place (pos 1)))

-- ---- equations

-- the op of an atom `form = c`
abbrev pub is_eq_op : Op → Bool
is_eq_op Le = false
is_eq_op Ge = false
is_eq_op Eq = true
is_eq_op Ne = false

-- at this place of the row stands an atom `form = c`
abbrev pub is_equation : List PlainKeyAtom → ℕ → Bool
is_equation key place = option_map_or (λ a. is_eq_op a.op) (slice_get key place) false
