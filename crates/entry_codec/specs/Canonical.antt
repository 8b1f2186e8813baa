-- Whether an atom is canonical, as a test that computes.
use Rattle.std.specs.Prelude.{pos, Bool, true, not, ◌&&◌, ◌==◌, nat_lt, nat_le, int_lt, List, [], ◌∷◌, length}
use Rattle.std.specs.Prelude.{unsigned_abs}
use Rattle.std.specs.List.{list_all}
use Rattle.std.specs.Ordering.{int_eq}
use Rattle.lin_model.specs.declared.form.FormTerm.{FormTerm}
use Rattle.lin_model.specs.declared.key_atom.TheConstants.{MAX_KEY_VARS, COEF_LIMIT, CONSTANT_LIMIT}
use Rattle.lin_model.specs.Form.{divisor}
use Rattle.lin_model.specs.KeyAtom.{PlainKeyAtom}

-- the variables ascend strictly
abbrev pub vars_ascend : List FormTerm → Bool
vars_ascend [] = true
vars_ascend (t ∷ []) = true
vars_ascend (t ∷ u ∷ ts) = nat_lt t.var u.var && vars_ascend (u ∷ ts)

-- the first coefficient is positive
abbrev pub begins_positive : List FormTerm → Bool
begins_positive [] = true
begins_positive (t ∷ ts) = int_lt (pos 0) t.coef

-- the variables ascend strictly and are below 64
abbrev pub ascends_below_64 : List FormTerm → Bool
ascends_below_64 form = vars_ascend form && list_all (λ t. nat_lt t.var MAX_KEY_VARS) form

-- the coefficients aren't 0 and are below 2^40 in size
abbrev pub has_small_coefficients : List FormTerm → Bool
has_small_coefficients form =
    list_all (λ t. not (int_eq t.coef (pos 0))) form && list_all (λ t. nat_lt (unsigned_abs t.coef) COEF_LIMIT) form

-- the form is canonical
unfoldable pub is_canonical_form : List FormTerm → Bool
is_canonical_form form =
    nat_lt 0 (length form) && (nat_le (length form) MAX_KEY_VARS && (ascends_below_64 form
    && (has_small_coefficients form && (begins_positive form && (divisor form == 1)))))

-- the atom is canonical
unfoldable pub is_canonical : PlainKeyAtom → Bool
is_canonical a = is_canonical_form a.form && nat_lt (unsigned_abs a.constant) CONSTANT_LIMIT
