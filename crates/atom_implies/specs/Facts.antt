-- What follows from the definition of implication: for the proofs of the crates above.
use Rattle.std.proofs.Common.{List, subst}
use Rattle.std.specs.Prelude.{IsTrue}
use Rattle.lin_model.specs.declared.form.FormTerm.{FormTerm}
use Rattle.lin_model.specs.Test.{passes}
use Rattle.lin_model.specs.KeyAtom.{PlainKeyAtom}
use Rattle.lin_model.specs.Form.{form_value}
use Rattle.atom_implies.specs.Implies.{Implies, HoldsWherever}

-- what an atom implies holds wherever it does
pub HoldsWherever-implied : (a b : PlainKeyAtom) → Implies a b → HoldsWherever a b
HoldsWherever-implied a b implied point holds =
    let value = form_value a.form point in
    subst (λ (form : List FormTerm). IsTrue (passes b.op b.constant (form_value form point))) implied.same_form
    (implied.tests value holds)
