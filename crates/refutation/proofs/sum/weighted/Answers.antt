use Rattle.std.proofs.Common.{FitsSigned, ℤ, to_z, of_z, ◌*ℤ◌, ◌∙◌, ap}
use Rattle.std.specs.Int.{w64, w128}
use Rattle.std.proofs.lemmas.Int.{to_z-of_z}
use Rattle.refutation.proofs.SumLemmas.{weighted_size}
use Rattle.refutation.proofs.sum.weighted.Goals as goal

pub returns-clause-size : goal.returns-clause-size
returns-clause-size c =
    let fits : FitsSigned w128 c.wide_product.result = record { sfits = c.wide_product.type_inv } in
    weighted_size c.args.weight c.args.number _ (to_z-of_z w128 c.wide_product.result fits ∙ c.wide_product.ensures
    ∙ ap (λ (x : ℤ). x *ℤ to_z w64 (of_z w64 c.args.number)) (to_z-of_z w64 c.args.weight c.ranges.weight)
    ∙ ap (λ (x : ℤ). c.args.weight *ℤ x) (to_z-of_z w64 c.args.number c.ranges.number)) c.requires.weight
