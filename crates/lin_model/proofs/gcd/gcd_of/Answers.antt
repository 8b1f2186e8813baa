use Rattle.std.proofs.Common.{pos, List, get_or, subst, rules, FitsSigned}
use Rattle.std.specs.Int.{IsGcd, w64}
use Rattle.std.proofs.lemmas.Int.{to_z-of_z}
use Rattle.std.proofs.lemmas.List.{take_all}
use Rattle.lin_model.specs.declared.form.FormTerm.{FormTerm}
use Rattle.lin_model.specs.Form.{IsGcdOf}
use Rattle.lin_model.specs.Facts.{divisor_from_IsGcdOf}
use Rattle.lin_model.proofs.FormLemmas.{IsGcdOf-more}
use Rattle.lin_model.proofs.gcd.gcd_of.Goals as goal

pub loop-term-preserved : goal.loop-term-preserved
loop-term-preserved c =
    let d : FormTerm = record { var = 0; coef = pos 0 } in
    let fits : FitsSigned w64 (get_or c.args.terms.now c.loop-term.term-index d).coef = search rules in
    let size = simp to_z-of_z at c.unsigned_abs.ensures.value in
    IsGcdOf-more c.args.terms.now c.loop-term.term-index d c.loop-term.gcd c.gcd_of_two-gcd.result c.loop-term-test.true
    c.loop-term.invariant
    (subst (λ n. IsGcd c.loop-term.gcd n c.gcd_of_two-gcd.result) size c.gcd_of_two-gcd.ensures)

pub returns : goal.returns
returns c =
    let all = take_all c.loop-term.term-index c.args.terms.now c.loop-term-test.false in
    let is = subst (λ (form : List FormTerm). IsGcdOf form c.loop-term.gcd) all c.loop-term.invariant in
    divisor_from_IsGcdOf c.args.terms.now c.loop-term.gcd is
