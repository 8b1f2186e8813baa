use Rattle.std.proofs.Common.{ℤ, None, Some, [], ◌∷◌, false, FitsSigned, ap, sym, ◌∙◌, rules}
use Rattle.std.specs.Int.{w64}
use Rattle.std.specs.Option.{option_map_or}
use Rattle.std.proofs.lemmas.Int.{to_z-of_z}
use Rattle.lin_model.specs.KeyAtom.{PlainKeyAtom}
use Rattle.refutation.specs.Box.{PlainBox}
use Rattle.refutation.specs.Leaf.{weighted, is_positive_sum}
use Rattle.refutation.proofs.UnitSums.{alone}
use Rattle.refutation.proofs.comparison.closes_alone.Goals as goal

pub returns-in-None : goal.returns-in-None
returns-in-None c =
    let box : PlainBox = record { bounds = c.args.bounds.now; sides = c.args.sides.now } in
    sym (alone c.args.key.now box c.args.term None (c.in-None.ensures {u = tt}).value)

pub returns-in-Some : goal.returns-in-Some
returns-in-Some c =
    let box : PlainBox = record { bounds = c.args.bounds.now; sides = c.args.sides.now } in
    let a : PlainKeyAtom = record {
      form = c.in-Some.comparison.form.now;
      op = c.in-Some.comparison.op;
      constant = c.in-Some.comparison.constant;
    } in
    let fits : FitsSigned w64 c.args.term.factor = search rules in
    c.is_positive.ensures
    ∙ ap (λ (f : ℤ). option_map_or (λ m. is_positive_sum c.args.bounds.now (m ∷ [])) (weighted a f) false)
    (to_z-of_z w64 c.args.term.factor fits)
    ∙ sym (alone c.args.key.now box c.args.term (Some a) (c.in-Some.ensures {u = tt}).value)
