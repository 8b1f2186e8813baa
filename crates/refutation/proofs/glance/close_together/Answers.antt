use Rattle.std.proofs.Common.{[], ◌∷◌, arith}
use Rattle.std.specs.Int.{w64}
use Rattle.std.proofs.lemmas.Int.{to_z-of_z}
use Rattle.refutation.specs.Box.{PlainBox}
use Rattle.refutation.specs.Glance.{term_at}
use Rattle.refutation.proofs.LeafLemmas.{IsSummed-none}
use Rattle.refutation.proofs.GlanceLemmas.{adds-as, one-summed, two-summed, summed-closes, missing-closes}
use Rattle.refutation.proofs.glance.close_together.Goals as goal

pub returns-then-not-add_place : goal.returns-then-not-add_place
returns-then-not-add_place c =
    let box : PlainBox = record { bounds = c.args.bounds.now; sides = c.args.sides.now } in
    let t = term_at c.args.key.now c.args.place c.args.factor in
    let u = term_at c.args.key.now c.args.other c.args.by in
    let adds = adds-as c.args.key.now c.args.sides.now c.args.place _ c.args.factor c.zero-sum.result
    c.add_place.new.sum c.add_place.result (to_z-of_z w64 c.args.factor c.ranges.factor) c.add_place.ensures in
    missing-closes c.args.key.now box (t ∷ u ∷ []) 0 t c.zero-sum.result c.add_place.new.sum c.add_place.result
    (omega arith) (omega arith) c.if-not-add_place.true adds

pub returns-then-not-add_place-2 : goal.returns-then-not-add_place-2
returns-then-not-add_place-2 c =
    let box : PlainBox = record { bounds = c.args.bounds.now; sides = c.args.sides.now } in
    let t = term_at c.args.key.now c.args.place c.args.factor in
    let u = term_at c.args.key.now c.args.other c.args.by in
    let more = adds-as c.args.key.now c.args.sides.now c.args.other _ c.args.by c.add_place.new.sum
    c.add_place-2.new.sum c.add_place-2.result (to_z-of_z w64 c.args.by c.ranges.by) c.add_place-2.ensures in
    missing-closes c.args.key.now box (t ∷ u ∷ []) 1 t c.add_place.new.sum c.add_place-2.new.sum c.add_place-2.result
    (omega arith) (omega arith) c.if-not-add_place-2.true more

pub returns : goal.returns
returns c =
    let box : PlainBox = record { bounds = c.args.bounds.now; sides = c.args.sides.now } in
    let t = term_at c.args.key.now c.args.place c.args.factor in
    let u = term_at c.args.key.now c.args.other c.args.by in
    let adds = adds-as c.args.key.now c.args.sides.now c.args.place _ c.args.factor c.zero-sum.result
    c.add_place.new.sum c.add_place.result (to_z-of_z w64 c.args.factor c.ranges.factor) c.add_place.ensures in
    let more = adds-as c.args.key.now c.args.sides.now c.args.other _ c.args.by c.add_place.new.sum
    c.add_place-2.new.sum c.add_place-2.result (to_z-of_z w64 c.args.by c.ranges.by) c.add_place-2.ensures in
    let none = IsSummed-none c.args.key.now c.args.sides.now c.zero-sum.result c.zero-sum.ensures.coefs
    c.zero-sum.ensures.constant c.zero-sum.ensures.count in
    let one = one-summed c.args.key.now c.args.sides.now t c.zero-sum.result c.add_place.new.sum c.add_place.result none
    c.if-not-add_place.false adds in
    let two = two-summed c.args.key.now c.args.sides.now t u c.add_place.new.sum c.add_place-2.new.sum
    c.add_place-2.result one c.if-not-add_place-2.false more in
    summed-closes c.args.key.now box (t ∷ u ∷ []) c.add_place-2.new.sum c.is_positive.result (omega arith) (omega arith)
    two c.is_positive.ensures
