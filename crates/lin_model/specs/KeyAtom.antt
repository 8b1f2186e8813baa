-- Canonical atoms `form op constant`, and where they hold.
use Rattle.std.specs.Prelude.{◌≡◌, ◌≢◌, ◌<◌, ◌≤◌, ℤ, pos, ◌<ℤ◌, List, length, unsigned_abs, IsTrue, slice_index_or}
use Rattle.std.specs.List.{All, AllAdjacentBelow}
use Rattle.lin_model.specs.declared.form.FormTerm.{FormTerm}
use Rattle.lin_model.specs.declared.op.Op.{Op}
use Rattle.lin_model.specs.declared.key_atom.TheConstants.{MAX_KEY_VARS, COEF_LIMIT, CONSTANT_LIMIT}
use Rattle.lin_model.specs.Form.{form_value, divisor}
use Rattle.lin_model.specs.Test.{passes}

-- the parts of an atom
pub record PlainKeyAtom : Type 0 where
  pub form : List FormTerm
  pub op : Op
  pub constant : ℤ

-- the variables ascend strictly and are below 64
pub record AscendsBelow64 (form : List FormTerm) : Type 0 where
  pub ascend : AllAdjacentBelow (λ t u. t.var < u.var) form (length form)
  pub in_range : All (λ t. t.var < MAX_KEY_VARS) form

-- the coefficients aren't 0 and are below 2^40 in size
pub record HasSmallCoefficients (form : List FormTerm) : Type 0 where
  pub not_zero : All (λ t. t.coef ≢ pos 0) form
  pub small : All (λ t. unsigned_abs t.coef < COEF_LIMIT) form

-- the first coefficient is positive
abbrev pub BeginsPositive : List FormTerm → Type 0
BeginsPositive form = (d : FormTerm) → 0 < length form → pos 0 <ℤ (slice_index_or form 0 d).coef

-- the one spelling that a form and its multiples share
pub record IsCanonicalForm (form : List FormTerm) : Type 0 where
  pub has_terms : 0 < length form
  pub few_terms : length form ≤ MAX_KEY_VARS
  pub variables : AscendsBelow64 form
  pub coefficients : HasSmallCoefficients form
  pub begins_positive : BeginsPositive form
  pub gcd_is_one : divisor form ≡ 1

-- the one spelling of an atom among those with the same solutions
pub record IsCanonical (a : PlainKeyAtom) : Type 0 where
  pub form : IsCanonicalForm a.form
  pub constant : unsigned_abs a.constant < CONSTANT_LIMIT

-- the value of the form at the point passes the atom's test
abbrev pub KeyAtomHolds : PlainKeyAtom → List ℤ → Type 0
KeyAtomHolds a point = IsTrue (passes a.op a.constant (form_value a.form point))
