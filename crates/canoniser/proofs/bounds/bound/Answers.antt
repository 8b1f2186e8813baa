use Rattle.std.proofs.Common.{◌≡◌, ◌∙◌, List, ◌++◌, ap, w64, arith}
use Rattle.std.proofs.lemmas.Int.{to_z-of_z, fits_signed_from_abs}
use Rattle.lin_model.specs.declared.form.FormTerm.{FormTerm}
use Rattle.lin_model.specs.Bounded.{variable}
use Rattle.canoniser.proofs.BoundLemmas.{IsCanonical-variable}
use Rattle.canoniser.proofs.bounds.bound.Goals as goal

pub unwrap-requires : goal.unwrap-requires
unwrap-requires c =
    let form : c.new.result ≡ variable c.args.v =
    c.new.ensures ∙ c.in_ok-push.ensures.items
    ∙ ap (λ (terms : List FormTerm). terms ++ variable c.args.v) c.new-terms.ensures.items in
    c.new-2.ensures.canonical.1
    (rw (
      form,
      to_z-of_z w64 c.args.constant
          (fits_signed_from_abs w64 c.args.constant (omega (arith, c.requires.small))),
    )
    (IsCanonical-variable c.args.v c.args.op c.args.constant c.requires.below c.requires.small))
