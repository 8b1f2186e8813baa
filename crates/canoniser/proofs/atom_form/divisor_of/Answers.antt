use Rattle.std.proofs.Common.{◌<◌, ◌^◌, sym, subst, ℕ}
use Rattle.lin_model.specs.Facts.{IsGcdOf-divisor}
use Rattle.canoniser.proofs.LimitsLemmas.{divisor-limits}
use Rattle.canoniser.proofs.atom_form.divisor_of.Goals as goal

pub returns-clause-positive : goal.returns-clause-positive
returns-clause-positive c =
    let is = IsGcdOf-divisor c.args.form.now in
    subst (λ (g : ℕ). 0 < g) (sym c.gcd_of.ensures)
    (divisor-limits c.args.form.now _ c.requires.some c.requires.coefficients is).0

pub returns-clause-small : goal.returns-clause-small
returns-clause-small c =
    let is = IsGcdOf-divisor c.args.form.now in
    subst (λ (g : ℕ). g < 2 ^ 40) (sym c.gcd_of.ensures)
    (divisor-limits c.args.form.now _ c.requires.some c.requires.coefficients is).1
