use Rattle.std.proofs.Common.{◌≡◌, sym, subst, ap, arith, ◌∙◌}
use Rattle.std.proofs.lemmas.Int.{ints}
use Rattle.lin_model.specs.Facts.{IsGcdOf-divisor}
use Rattle.lin_model.specs.Form.{IsGcdOf}
use Rattle.lin_model.specs.KeyAtom.{PlainKeyAtom, IsCanonicalForm}
use Rattle.canoniser.specs.Forms.{divided}
use Rattle.canoniser.proofs.LimitsLemmas.{IsCanonicalForm-divided}
use Rattle.canoniser.proofs.atom_form.divided_atom.Goals as goal

pub unwrap-requires : goal.unwrap-requires
unwrap-requires c =
    let is : IsGcdOf c.args.a.now.form c.args.gcd =
    subst (IsGcdOf c.args.a.now.form) (sym c.requires.value) (IsGcdOf-divisor c.args.a.now.form) in
    let canonical =
    IsCanonicalForm-divided c.args.a.now c.args.gcd c.requires.some c.requires.limits is c.requires.positive in
    let form = ap (λ (a : PlainKeyAtom). a.form) c.a.view_is in
    let given : c.new-form.result ≡ divided c.args.gcd c.args.a.now.form =
    c.new-form.ensures ∙ c.in_ok-divided.ensures {u =
    tt} ∙ ap (divided c.args.gcd) (c.deref.ensures.value ∙ form) in
    c.new.ensures.canonical.1 (record {
      form = subst IsCanonicalForm (sym given) canonical;
      constant = omega (arith, ints, c.requires.constant);
    })
