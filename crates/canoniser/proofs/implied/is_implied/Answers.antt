use Rattle.std.proofs.Common.{arith, sym, ◌∙◌, ◌-◌, ◌<◌, length}
use Rattle.canoniser.proofs.ImplicationLemmas.{IsCovered-not_before}
use Rattle.canoniser.proofs.implied.is_implied.Goals as goal

pub returns-then-not-equals : goal.returns-then-not-equals
returns-then-not-equals g c =
    let here : c.loop-k.k - 1 < length c.args.atoms.now = omega arith in
    let none = IsCovered-not_before c.args.atoms.now c.args.atom.now c.index-atoms-k.result
    (c.loop-k.k - 1) here c.index-atoms-k.is c.requires
    (λ j d low within. c.loop-k.invariant j d (omega arith) within) (λ same. let yes =
    c.equals.ensures.1 (c.form.ensures.value ∙ same ∙ sym c.form-in-loop-k.ensures.value) in let no_more =
    c.if-not-equals.true in let none : ⊥ = cc in none) in
    (λ so. absurd (cc), λ covered. absurd (none covered))
