use Rattle.std.proofs.Common.{◌≡◌, ℤ, pos, ◌<◌, ◌≤◌, ◌+◌, ◌*◌, ◌^◌, ◌+ℤ◌, ◌*ℤ◌, to_z, of_z, FitsSigned, unsigned_abs}
use Rattle.std.proofs.Common.{get_or, ap, ◌∙◌, arith, rules}
use Rattle.std.specs.Int.{w64, w128}
use Rattle.std.proofs.lemmas.Int.{to_z-of_z, ints}
use Rattle.lin_model.specs.declared.form.FormTerm.{FormTerm}
use Rattle.refutation.specs.Leaf.{coefficient_of}
use Rattle.refutation.proofs.Points.{set-keeps}
use Rattle.refutation.proofs.SumLemmas.{scaled_step, scaled_end}
use Rattle.refutation.proofs.sum.add_scaled.Goals as goal

abbrev no_term : FormTerm
no_term = record { var = 0; coef = pos 0 }

pub loop-term-preserved : goal.loop-term-preserved
loop-term-preserved c =
    let i = c.loop-term.term-index in
    let t : FormTerm = get_or c.args.form.now i no_term in
    let weight : ℤ = to_z w64 (of_z w64 c.args.weight) in
    let small : unsigned_abs t.coef < 2 ^ 40 = c.requires.form.coefficients.small i no_term c.loop-term-test.true in
    let fits : FitsSigned w64 t.coef = search rules in
    let exact : to_z w64 (of_z w64 t.coef) ≡ t.coef = to_z-of_z w64 t.coef fits in
    let var_below : t.var < 64 = c.requires.form.variables.in_range i no_term c.loop-term-test.true in
    let within : c.from-var.result < 64 = omega (arith, c.from-var.ensures, var_below) in
    let room = c.loop-term.invariant.room c.from-var.result within in
    let more : unsigned_abs c.weighted.result ≤ 2 ^ 71 = omega
    (arith, c.weighted.ensures.size, ap unsigned_abs exact, small) in
    let added : to_z w128 (of_z w128 c.sum_of.result)
    ≡ get_or c.loop-term.coefs c.from-var.result (pos 0) +ℤ c.weighted.result = omega
    (arith, ints, c.sum_of.ensures, room, more) in
    record {
      value = λ v lt. scaled_step c.loop-term.coefs c.args.form.now weight i no_term c.from-var.result c.weighted.result
          _ v _ c.loop-term-test.true c.from-var.ensures (c.weighted.ensures.value ∙ ap (λ (n : ℤ). weight *ℤ n) exact)
          added (omega (arith, within, c.loop-term.auto.coefs, c.requires.len)) (c.loop-term.invariant.value v lt);
      room = λ v lt. set-keeps c.loop-term.coefs c.from-var.result (to_z w128 (of_z w128 c.sum_of.result)) v (pos 0)
          (λ n. unsigned_abs n ≤ 2 ^ 81 + 2 ^ 71 * (i + 1)) (λ _. omega (arith, ints, added, room, more))
          (omega (arith, c.loop-term.invariant.room v lt));
    }

pub returns : goal.returns
returns c = λ v lt.
    let exact : to_z w64 (of_z w64 c.args.weight) ≡ c.args.weight = to_z-of_z w64 c.args.weight c.ranges.weight in
    scaled_end c.args.form.now (to_z w64 (of_z w64 c.args.weight)) (get_or c.loop-term.coefs v (pos 0))
    c.loop-term.term-index v _ c.loop-term-test.false (c.loop-term.invariant.value v lt)
    ∙ ap (λ (w : ℤ). get_or c.args.coefs.now v (pos 0) +ℤ (w *ℤ coefficient_of c.args.form.now v)) exact
