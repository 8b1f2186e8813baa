-- Canonical atoms, keys and points in a body.
use Rattle.std.specs.Prelude.{◌≡◌, ℕ, ◌-◌, ℤ, Option, MatchOption, List, length, slice_get}
use Rattle.std.specs.declared.cmp.Ordering.TheVariants.{Less}
use Rattle.lin_model.specs.declared.form.FormTerm.{FormTerm}
use Rattle.lin_model.specs.AtomOrder.{compare_atoms}
use Rattle.lin_model.specs.KeyAtom.{PlainKeyAtom, IsCanonical}
use Rattle.entry_codec.specs.Grammar.{Grammar, both, seen_as, tested, counted}
use Rattle.entry_codec.specs.Fields.{op, atom_count, term_count, term_var, coefficient, constant, value_count, value}

-- a term: its variable, its coefficient
unfoldable pub term : Grammar FormTerm
term = seen_as (λ t. (t.var, t.coef)) (both term_var (λ var. coefficient))

-- an atom's form and constant: the number of terms, the terms, the constant
unfoldable pub form_and_constant : Grammar (List FormTerm × ℤ)
form_and_constant = both (counted term_count (λ before. term)) (λ form. constant)

-- an atom, canonical or not: the code of its op, then its form and constant
unfoldable pub atom_parts : Grammar PlainKeyAtom
atom_parts = seen_as (λ a. (a.op, (a.form, a.constant))) (both op (λ o. form_and_constant))

-- the last of a list, if it has any
abbrev pub last_of : {A : Type 0} → List A → Option A
last_of values = slice_get values (length values - 1)

-- the atom comes behind the last of those before it
abbrev pub ComesBehind : List PlainKeyAtom → PlainKeyAtom → Type 0
ComesBehind before a = MatchOption (last_of before) (Unit {0}) (λ last. compare_atoms last a ≡ Less)

-- what an atom of a key has to be as a whole
pub record FitsBehind (before : List PlainKeyAtom) (a : PlainKeyAtom) : Type 0 where
  pub canonical : IsCanonical a
  pub ascends : ComesBehind before a

-- an atom of a key, behind those before it
unfoldable pub atom : List PlainKeyAtom → Grammar PlainKeyAtom
atom before = tested (FitsBehind before) atom_parts

-- a key: the number of atoms, the atoms
unfoldable pub key : Grammar (List PlainKeyAtom)
key = counted atom_count atom

-- a point of a key of this width: the number of values, the values
unfoldable pub point : ℕ → Grammar (List ℤ)
point width = counted (value_count width) (λ before. value)
