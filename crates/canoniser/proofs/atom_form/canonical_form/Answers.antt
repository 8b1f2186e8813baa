use Rattle.std.proofs.Common.{◌≡◌, ap, subst, ◌∙◌}
use Rattle.std.specs.Prelude.{IfOk}
use Rattle.lin_model.specs.KeyAtom.{PlainKeyAtom}
use Rattle.canoniser.specs.Forms.{canonical_form, oriented, primitive_of}
use Rattle.canoniser.proofs.atom_form.canonical_form.Goals as goal

pub returns : goal.returns
unfolding canonical_form
returns c =
    let is = c.in_ok-linear-2.ensures.linear ∙ ap oriented c.in_ok-linear.ensures.linear in
    subst (λ (a : PlainKeyAtom). IfOk c.primitive.result (λ form. form ≡ primitive_of a)) is c.primitive.ensures
