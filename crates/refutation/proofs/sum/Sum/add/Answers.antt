use Rattle.std.proofs.Common.{◌≡◌, ◌<◌, ◌≤◌, ◌+◌, ◌^◌, ℤ, pos, ◌+ℤ◌, ◌*ℤ◌, to_z, of_z, unsigned_abs, ap, arith, subst, refl}
use Rattle.std.specs.Int.{w64, w128}
use Rattle.std.proofs.lemmas.Int.{to_z-of_z, ints}
use Rattle.refutation.specs.Leaf.{Multiple}
use Rattle.refutation.specs.Sum.{PlainSum, AddsMultiple}
use Rattle.refutation.proofs.SumLemmas.{IsSum-more, AddsMultiple-from_parts, constant_size}
use Rattle.refutation.proofs.sum.Sum.add.Goals as goal
use Rattle.refutation.proofs.sum.Sum.add.Goals.{After-sum_of-self-inside}

few_before : (c : After-sum_of-self-inside) → c.self.inside.count < 8
few_before c = omega (arith, ap (λ (s : PlainSum). s.count) c.self.view_is, c.requires.few)

pub sum_of-self-inside-requires-clause-a : goal.sum_of-self-inside-requires-clause-a
sum_of-self-inside-requires-clause-a c =
    let few : c.self.inside.count ≤ 8 = c.self.invariant.0.few in
    omega (arith, ints, c.self.invariant.0.constant, few)

abbrev old_of : After-sum_of-self-inside → PlainSum
old_of c = record { coefs = c.self.inside.coefs; constant = c.self.inside.constant; count = c.self.inside.count }

abbrev new_of : After-sum_of-self-inside → PlainSum
new_of c =
    record {
      coefs = c.add_scaled.new.coefs;
      constant = to_z w128 (of_z w128 c.sum_of-self-inside.result);
      count = c.self.inside.count + 1;
    }

abbrev more_of : After-sum_of-self-inside → Multiple
more_of c = record { form = c.args.form.now; constant = c.args.constant; weight = c.args.weight }

adds : (c : After-sum_of-self-inside) → AddsMultiple (old_of c) (new_of c) (more_of c)
adds c =
    let same_constant : to_z w64 (of_z w64 c.args.constant)
    ≡ c.args.constant = to_z-of_z w64 c.args.constant c.ranges.constant in
    let few : c.self.inside.count ≤ 8 = c.self.invariant.0.few in
    let more : unsigned_abs c.weighted.result ≤ 2 ^ 81 = omega
    (arith, c.weighted.ensures.size, ap unsigned_abs same_constant, c.requires.constant) in
    AddsMultiple-from_parts (old_of c) (new_of c) c.args.form.now c.args.constant c.args.weight
    (to_z w64 (of_z w64 c.args.constant)) (to_z w64 (of_z w64 c.args.weight)) c.weighted.result
    (to_z-of_z w64 c.args.weight c.ranges.weight) same_constant c.add_scaled.ensures
    (omega (arith, ints, c.sum_of-self-inside.ensures, c.self.invariant.0.constant, few, more)) c.weighted.ensures.value
    refl

unused : (old new weight coef : ℤ) → new ≡ old +ℤ (weight *ℤ coef) → old ≡ pos 0 → coef ≡ pos 0 → new ≡ pos 0
unused old new weight coef added none no_coef =
    omega (arith, ints, added, none, ap (λ (x : ℤ). weight *ℤ x) no_coef)

pub invariant_of-self : goal.invariant_of-self
invariant_of-self c =
    let b : After-sum_of-self-inside = (goal.at.invariant_of-self c).After-sum_of-self-inside in (
      IsSum-more (old_of b) (new_of b) (more_of b) c.self.invariant.0 (adds b) (few_before b)
          (omega (arith, c.add_scaled.auto.coefs, c.self.told)) c.requires.form c.requires.weight
          (constant_size c.args.weight c.args.constant c.requires.weight c.requires.constant),
      λ v lt none.
          let two = c.marked-self-inside.ensures v lt none in
          unused _ _ _ _ (c.add_scaled.ensures v lt) (c.self.invariant.1 v lt two.0) two.1,
    )

pub returns : goal.returns
returns c =
    let b : After-sum_of-self-inside = (goal.at.returns c).After-sum_of-self-inside in
    subst (λ (s : PlainSum). AddsMultiple s (new_of b) (more_of b)) c.self.view_is (adds b)
