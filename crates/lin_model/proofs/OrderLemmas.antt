-- The order of atoms is total, and equal atoms are the same.
use Rattle.std.proofs.Common.{◌≡◌, refl, arith}
use Rattle.std.specs.declared.cmp.Ordering.{Ordering}
use Rattle.std.specs.declared.cmp.Ordering.TheVariants.{Less, Equal, Greater}
use Rattle.std.specs.Ordering.{ordering_then, nat_cmp, int_cmp}
use Rattle.std.specs.Cmp.{IsTotalOrder}
use Rattle.std.specs.FinSet.{IsAntisymmetric, nat_cmp-IsAntisymmetric, int_cmp-IsAntisymmetric}
use Rattle.std.specs.FinSet.{slice_cmp-IsAntisymmetric}
use Rattle.std.proofs.lemmas.Cmp.{nat_cmp_total, int_cmp_total, on_total, then_total, lists_total}
use Rattle.lin_model.specs.declared.form.FormTerm.{FormTerm}
use Rattle.lin_model.specs.declared.op.Op.{Op}
use Rattle.lin_model.specs.declared.op.Op.TheVariants.{Le, Ge, Eq, Ne}
use Rattle.lin_model.specs.Test.{code_of}
use Rattle.lin_model.specs.KeyAtom.{PlainKeyAtom}
use Rattle.lin_model.specs.AtomOrder.{compare_terms, compare_forms, compare_atoms, TellsAtomsApart}

-- two comparisons that both say equal
both_equal : (o p : Ordering) → ordering_then o p ≡ Equal → (o ≡ Equal) × (p ≡ Equal)
both_equal Less p e = absurd (cc)
both_equal Equal p e = (refl, e)
both_equal Greater p e = absurd (cc)

code_of-apart : (o p : Op) → code_of o ≡ code_of p → o ≡ p
code_of-apart Le Le e = refl
code_of-apart Le Ge e = absurd (omega (arith, e))
code_of-apart Le Eq e = absurd (omega (arith, e))
code_of-apart Le Ne e = absurd (omega (arith, e))
code_of-apart Ge Le e = absurd (omega (arith, e))
code_of-apart Ge Ge e = refl
code_of-apart Ge Eq e = absurd (omega (arith, e))
code_of-apart Ge Ne e = absurd (omega (arith, e))
code_of-apart Eq Le e = absurd (omega (arith, e))
code_of-apart Eq Ge e = absurd (omega (arith, e))
code_of-apart Eq Eq e = refl
code_of-apart Eq Ne e = absurd (omega (arith, e))
code_of-apart Ne Le e = absurd (omega (arith, e))
code_of-apart Ne Ge e = absurd (omega (arith, e))
code_of-apart Ne Eq e = absurd (omega (arith, e))
code_of-apart Ne Ne e = refl

compare_terms-apart : IsAntisymmetric compare_terms
compare_terms-apart t u e =
    let two = both_equal (nat_cmp t.var u.var) (int_cmp t.coef u.coef) e in
    let var : t.var ≡ u.var = nat_cmp-IsAntisymmetric t.var u.var two.0 in
    let coef : t.coef ≡ u.coef = int_cmp-IsAntisymmetric t.coef u.coef two.1 in
    λ i. record { var = var i; coef = coef i }

pub compare_atoms-apart : TellsAtomsApart
compare_atoms-apart a b e =
    let two = both_equal (compare_forms a.form b.form)
    (ordering_then (nat_cmp (code_of a.op) (code_of b.op)) (int_cmp a.constant b.constant)) e in
    let rest = both_equal (nat_cmp (code_of a.op) (code_of b.op)) (int_cmp a.constant b.constant) two.1 in
    let form : a.form ≡ b.form = slice_cmp-IsAntisymmetric compare_terms-apart a.form b.form two.0 in
    let op : a.op ≡ b.op = code_of-apart a.op b.op (nat_cmp-IsAntisymmetric (code_of a.op) (code_of b.op) rest.0) in
    let constant : a.constant ≡ b.constant = int_cmp-IsAntisymmetric a.constant b.constant rest.1 in
    λ i. record { form = form i; op = op i; constant = constant i }

pub compare_atoms-total : IsTotalOrder compare_atoms
compare_atoms-total =
    then_total (on_total (λ (a : PlainKeyAtom). a.form)
    (lists_total (then_total (on_total (λ (t : FormTerm). t.var) nat_cmp_total)
    (on_total (λ (t : FormTerm). t.coef) int_cmp_total))))
    (then_total (on_total (λ (a : PlainKeyAtom). code_of a.op) nat_cmp_total)
    (on_total (λ (a : PlainKeyAtom). a.constant) int_cmp_total))
