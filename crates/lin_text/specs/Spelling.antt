-- The plain spelling: the one text that is written for a condition.
use Rattle.std.specs.Prelude.{ℕ, Bool, true, false, if◌then◌else◌, ◌==◌, List, [], ◌∷◌, ◌++◌, map, flat_map}
use Rattle.std.specs.Prelude.{slice_index_or, ℤ, pos, negsuc, unsigned_abs, Option, Some, None, decimal, codes}
use Rattle.lin_model.specs.Terms.{PlainVar, PlainTerm}
use Rattle.lin_model.specs.Conditions.{PlainCondition}
use Rattle.lin_model.specs.declared.atom.Atom.{Atom}
use Rattle.lin_model.specs.declared.atom.Cmp.{Cmp}
use Rattle.lin_model.specs.declared.atom.Cmp.TheVariants.{Le, Lt, Ge, Gt, Eq, Ne}

-- the number is below 0
abbrev pub is_negative : ℤ → Bool
is_negative (pos n) = false
is_negative (negsuc n) = true

-- a minus where the number is below 0
unfoldable pub minus_of : ℤ → List ℕ
minus_of z = if is_negative z then codes "-" else []

-- a number with its sign, in decimal digits with no leading zeros
unfoldable pub integer : ℤ → List ℕ
integer z = minus_of z ++ decimal (unsigned_abs z)

-- the name of the variable of this number
abbrev pub name_of : List PlainVar → ℕ → List ℕ
name_of vars var = slice_index_or (map (λ v. v.name) vars) var []

-- a factor before a name; a factor of size 1 is left out
unfoldable pub factor_text : ℕ → List ℕ
factor_text size = if size == 1 then [] else decimal size ++ codes "*"

-- a term without its sign, where variables have these names: a constant is its number, else it is the factor and the
-- name
unfoldable pub size_text : (ℕ → List ℕ) → ℕ → Option ℕ → List ℕ
size_text names size None = decimal size
size_text names size (Some var) = factor_text size ++ names var

-- the first term of a side
unfoldable pub first_term : (ℕ → List ℕ) → PlainTerm → List ℕ
first_term names term = minus_of term.factor ++ size_text names (unsigned_abs term.factor) term.var

-- what joins a later term to those before it
unfoldable pub joint_of : ℤ → List ℕ
joint_of z = if is_negative z then codes " - " else codes " + "

-- a later term
unfoldable pub later_term : (ℕ → List ℕ) → PlainTerm → List ℕ
later_term names term = joint_of term.factor ++ size_text names (unsigned_abs term.factor) term.var

-- a side: its terms in order
unfoldable pub side_text : (ℕ → List ℕ) → List PlainTerm → List ℕ
side_text names [] = []
side_text names (term ∷ terms) = first_term names term ++ flat_map (later_term names) terms

-- the sign of a comparison
unfoldable pub cmp_text : Cmp → List ℕ
cmp_text Le = codes "<="
cmp_text Lt = codes "<"
cmp_text Ge = codes ">="
cmp_text Gt = codes ">"
cmp_text Eq = codes "="
cmp_text Ne = codes "!="

-- a comparison, without the line feed
unfoldable pub atom_text : List PlainVar → Atom → List ℕ
atom_text vars atom =
    side_text (name_of vars) atom.left ++ codes " " ++ cmp_text atom.cmp ++ codes " "
    ++ side_text (name_of vars) atom.right

-- the bounds behind a name
unfoldable pub bounds_text : ℤ → ℤ → List ℕ
bounds_text lo hi = codes " " ++ integer lo ++ codes " " ++ integer hi

-- a declaration, without the line feed
unfoldable pub var_text : PlainVar → List ℕ
var_text var = codes "var " ++ var.name ++ bounds_text var.lo var.hi

-- a line feed behind
abbrev pub line : List ℕ → List ℕ
line text = text ++ 10 ∷ []

-- all declarations, and then all comparisons, each on a line of its own
unfoldable pub condition_text : PlainCondition → List ℕ
condition_text q =
    flat_map (λ var. line (var_text var)) q.vars ++ flat_map (λ atom. line (atom_text q.vars atom)) q.atoms
