use Rattle.std.proofs.Common.{◌≡◌, ℕ, ◌+◌, ◌<◌, ℤ, pos, List, length, get_or, set, arith, refl, rules, w64, subst, sym}
use Rattle.std.proofs.Common.{ap, ◌∙◌}
use Rattle.std.specs.List.{slice_index}
use Rattle.std.proofs.lemmas.Int.{to_z-of_z}
use mir.Val.{SFits}
use Rattle.lin_model.specs.Terms.{value_at}
use Rattle.pipeline.proofs.PlaceLemmas.{placed_more, others_stay}
use Rattle.pipeline.proofs.model.place.Goals as goal

pub loop-v-init : goal.loop-v-init
loop-v-init c = record { long = refl; placed = λ v lt. absurd (omega (arith, lt)); others = λ w absent. refl }

pub loop-v-preserved : goal.loop-v-preserved
loop-v-preserved c =
    let fits : SFits w64 (get_or c.args.point.now c.from.result (pos 0)) = search rules in
    let given : c.give.new.values ≡ set c.loop-v.values c.var.result (get_or c.args.point.now c.from.result (pos 0)) =
    simp to_z-of_z at c.give.ensures in
    let new : c.give.new.values ≡ set c.loop-v.values (get_or c.args.back.now c.loop-v.v 0)
    (value_at c.args.point.now c.loop-v.v) =
    given ∙ (ap (λ (i : ℕ). set c.loop-v.values i (get_or c.args.point.now c.from.result (pos 0))) c.var.ensures.var
    ∙ ap (λ (i : ℕ). set c.loop-v.values (get_or c.args.back.now c.loop-v.v 0) (get_or c.args.point.now i (pos 0)))
    c.from.ensures) in
    let within : c.loop-v.v < length c.args.back.now = omega (arith, c.loop-v-test.true, c.width-v-end.ensures.width) in
    record {
      long = search rules;
      placed = subst (λ (vs : List ℤ). (u : ℕ) → u < c.loop-v.v + 1 → value_at vs (slice_index c.args.back.now u)
          ≡ value_at c.args.point.now u) (sym new)
          (placed_more c.loop-v.values c.args.back.now c.args.point.now c.loop-v.v c.var.ensures.distinct within
          (omega (arith, c.requires.within c.loop-v.v 0 within, c.loop-v.invariant.long)) c.loop-v.invariant.placed);
      others = λ w absent. subst (λ (vs : List ℤ). value_at vs w ≡ value_at c.loop-v.values w) (sym new)
          (others_stay c.loop-v.values c.args.back.now c.loop-v.v w (value_at c.args.point.now c.loop-v.v) within
          absent) ∙ c.loop-v.invariant.others w absent;
    }

pub returns-clause-placed : goal.returns-clause-placed
returns-clause-placed c = record {
  wide = c.requires.wide;
  each = λ v lt. c.loop-v.invariant.placed v (omega (arith, lt, c.loop-v-test.false, c.width-v-end.ensures.width));
}

pub returns-clause-others : goal.returns-clause-others
returns-clause-others c = c.loop-v.invariant.others
