-- Keys that bound each of their variables on both sides.
use Rattle.std.specs.Prelude.{◌≡◌, ◌⊎◌, ℕ, ◌<◌, pos, neg_ℤ, ◌≤ℤ◌, List, [], ◌∷◌}
use Rattle.std.specs.List.{Any}
use Rattle.lin_model.specs.declared.form.FormTerm.{FormTerm}
use Rattle.lin_model.specs.declared.op.Op.TheVariants.{Le, Ge, Eq}
use Rattle.lin_model.specs.declared.point.TheConstants.{MAX_VALUE}
use Rattle.lin_model.specs.KeyAtom.{PlainKeyAtom}
use Rattle.lin_model.specs.Key.{key_width}

-- the form of this variable alone
abbrev pub variable : ℕ → List FormTerm
variable v = record { var = v; coef = pos 1 } ∷ []

-- the atom holds the variable from below, at a constant of at least -2^32
pub record GivesLower (v : ℕ) (a : PlainKeyAtom) : Type 0 where
  pub form : a.form ≡ variable v
  pub op : (a.op ≡ Ge) ⊎ (a.op ≡ Eq)
  pub constant : neg_ℤ (pos MAX_VALUE) ≤ℤ a.constant

-- the atom holds the variable from above, at a constant of at most 2^32
pub record GivesUpper (v : ℕ) (a : PlainKeyAtom) : Type 0 where
  pub form : a.form ≡ variable v
  pub op : (a.op ≡ Le) ⊎ (a.op ≡ Eq)
  pub constant : a.constant ≤ℤ pos MAX_VALUE

-- every variable below the width has an atom that holds it from below, and one that holds it from above
pub record IsBounded (key : List PlainKeyAtom) : Type 0 where
  pub lower : (v : ℕ) → v < key_width key → Any (GivesLower v) key
  pub upper : (v : ℕ) → v < key_width key → Any (GivesUpper v) key
