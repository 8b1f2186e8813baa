-- The order of canonical atoms: by form, then by the code of the op, then by the constant.
use Rattle.std.specs.Prelude.{◌≡◌, List}
use Rattle.std.specs.declared.cmp.Ordering.{Ordering}
use Rattle.std.specs.declared.cmp.Ordering.TheVariants.{Equal}
use Rattle.std.specs.Ordering.{nat_cmp, int_cmp, on, then_cmp}
use Rattle.std.specs.Cmp.{IsTotalOrder}
use Rattle.std.specs.Cmp.Lexicographic.{slice_cmp}
use Rattle.lin_model.specs.declared.form.FormTerm.{FormTerm}
use Rattle.lin_model.specs.Test.{code_of}
use Rattle.lin_model.specs.KeyAtom.{PlainKeyAtom}

-- terms by variable, then by coefficient
abbrev pub compare_terms : FormTerm → FormTerm → Ordering
compare_terms = then_cmp (on (λ t. t.var) nat_cmp) (on (λ t. t.coef) int_cmp)

-- forms term by term; a proper prefix comes before
abbrev pub compare_forms : List FormTerm → List FormTerm → Ordering
compare_forms = slice_cmp compare_terms

-- atoms by form, then by the code of the op, then by constant
abbrev pub compare_atoms : PlainKeyAtom → PlainKeyAtom → Ordering
compare_atoms =
    then_cmp (on (λ a. a.form) compare_forms) (then_cmp (on (λ a. code_of a.op) nat_cmp) (on (λ a. a.constant) int_cmp))

-- atoms are equal in the order only where they are the same
abbrev pub TellsAtomsApart : Type 0
TellsAtomsApart = (a b : PlainKeyAtom) → compare_atoms a b ≡ Equal → a ≡ b

-- exactly one of two atoms comes first unless they are the same, and what comes before an atom comes before all that
-- follow it
pub record IsAtomOrder : Type 0 where
  pub total : IsTotalOrder compare_atoms
  pub apart : TellsAtomsApart
