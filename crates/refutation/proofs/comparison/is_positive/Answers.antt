use Rattle.std.proofs.Common.{◌≡◌, ℤ, pos, int_lt, true, false, Option, Some, FitsSigned, ap, sym, ◌∙◌}
use Rattle.std.proofs.Common.{subst, rules}
use Rattle.std.specs.Int.{w64}
use Rattle.std.specs.Option.{option_map_or}
use Rattle.std.proofs.lemmas.Int.{to_z-of_z}
use Rattle.lin_model.specs.KeyAtom.{PlainKeyAtom}
use Rattle.refutation.specs.Leaf.{weight}
use Rattle.refutation.proofs.UnitSums.{above_unit, below_unit}
use Rattle.refutation.proofs.comparison.is_positive.Goals as goal

pub returns-then-weight-gt0 : goal.returns-then-weight-gt0
returns-then-weight-gt0 c =
    let a : PlainKeyAtom = record {
      form = c.args.comparison.form.now;
      op = c.args.comparison.op;
      constant = c.args.comparison.constant;
    } in
    let fits : FitsSigned w64 a.constant = search rules in
    let fits_too : FitsSigned w64 c.in-Some.weight = search rules in
    let weighs : weight a.op c.args.factor ≡ Some c.in-Some.weight = ap (weight a.op)
    (sym (to_z-of_z w64 c.args.factor c.ranges.factor)) ∙ sym (c.in-Some.ensures {u = tt}).value in
    let above : int_lt (pos 0) c.in-Some.weight ≡ true = subst (λ (w : ℤ). int_lt (pos 0) w ≡ true)
    (to_z-of_z w64 c.in-Some.weight fits_too) c.if-weight-gt0.true in
    c.is_above.ensures
    ∙ ap (λ (k : ℤ). option_map_or (λ n. int_lt k n) c.least.result false) (to_z-of_z w64 a.constant fits)
    ∙ ap (λ (o : Option ℤ). option_map_or (λ n. int_lt a.constant n) o false) c.least.ensures
    ∙ sym (above_unit c.args.bounds.now a c.args.factor c.in-Some.weight c.requires.form.variables weighs
    c.requires.unit above)

pub returns-else-weight-gt0 : goal.returns-else-weight-gt0
returns-else-weight-gt0 c =
    let a : PlainKeyAtom = record {
      form = c.args.comparison.form.now;
      op = c.args.comparison.op;
      constant = c.args.comparison.constant;
    } in
    let fits : FitsSigned w64 a.constant = search rules in
    let fits_too : FitsSigned w64 c.in-Some.weight = search rules in
    let weighs : weight a.op c.args.factor ≡ Some c.in-Some.weight = ap (weight a.op)
    (sym (to_z-of_z w64 c.args.factor c.ranges.factor)) ∙ sym (c.in-Some.ensures {u = tt}).value in
    let below : int_lt (pos 0) c.in-Some.weight ≡ false = subst (λ (w : ℤ). int_lt (pos 0) w ≡ false)
    (to_z-of_z w64 c.in-Some.weight fits_too) c.if-weight-gt0.false in
    c.is_below.ensures
    ∙ ap (λ (k : ℤ). option_map_or (λ n. int_lt n k) c.greatest.result false) (to_z-of_z w64 a.constant fits)
    ∙ ap (λ (o : Option ℤ). option_map_or (λ n. int_lt n a.constant) o false) c.greatest.ensures
    ∙ sym (below_unit c.args.bounds.now a c.args.factor c.in-Some.weight c.requires.form.variables weighs
    c.requires.unit below)
