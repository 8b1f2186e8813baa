use Rattle.std.proofs.Common.{Option, List, ℤ, ap, sym, ◌∙◌}
use Rattle.lin_model.specs.declared.form.FormTerm.{FormTerm}
use Rattle.refutation.specs.Bounds.{least, greatest}
use Rattle.refutation.specs.Leaf.{fails_fixed}
use Rattle.refutation.proofs.LeafLemmas.{fixed_closes-none, fixed_closes-some}
use Rattle.refutation.proofs.closing.fixed_closes.Goals as goal

pub returns-in-None : goal.returns-in-None
returns-in-None c =
    sym (fixed_closes-none c.args.key.now c.args.bounds.now c.args.atom (sym (c.in-None.ensures {u = tt}).value))

pub returns-in-Some : goal.returns-in-Some
returns-in-Some c =
    let a = c.in-Some.atom.now in
    let low = c.least.ensures ∙ ap (λ (f : List FormTerm). least f c.args.bounds.now) c.form.ensures.value in
    let high = c.greatest.ensures ∙ ap (λ (f : List FormTerm). greatest f c.args.bounds.now)
    c.form-in-Some.ensures.value in
    c.fails_fixed.ensures ∙ ap (λ (o : Option ℤ). fails_fixed a o c.greatest.result) low
    ∙ ap (λ (o : Option ℤ). fails_fixed a (least a.form c.args.bounds.now) o) high
    ∙ sym (fixed_closes-some c.args.key.now c.args.bounds.now c.args.atom a (sym (c.in-Some.ensures {u = tt}).value))
