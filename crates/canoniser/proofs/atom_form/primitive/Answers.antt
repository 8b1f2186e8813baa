use Rattle.std.proofs.Common.{◌≡◌, ◌<◌, length, ap, sym, ◌∙◌, rules, FitsSigned}
use Rattle.std.specs.Int.{w64}
use Rattle.std.proofs.lemmas.Int.{to_z-of_z}
use Rattle.lin_model.specs.KeyAtom.{PlainKeyAtom}
use Rattle.canoniser.specs.Forms.{alone}
use Rattle.canoniser.proofs.CanonicalLemmas.{primitive_is_alone, primitive_is_reduced}
use Rattle.canoniser.proofs.atom_form.primitive.Goals as goal

pub returns-then-is_empty : goal.returns-then-is_empty
returns-then-is_empty c =
    let none : length c.args.a.form ≡ 0 = search rules in
    let same = primitive_is_alone c.args.a.form c.args.a.op c.args.a.constant none in
    let fits : FitsSigned w64 c.a.inside.constant = search rules in
    let made = simp to_z-of_z at c.alone.ensures in
    let view = ap (λ (a : PlainKeyAtom). alone a.op a.constant) c.a.view_is in
    made ∙ view ∙ sym same

pub returns : goal.returns
returns c =
    let some : 0 < length c.args.a.form = search rules in
    rw (primitive_is_reduced c.args.a.form c.args.a.op c.args.a.constant some) c.reduced.ensures
