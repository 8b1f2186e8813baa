use Rattle.std.proofs.Common.{◌+◌, ℕ, arith, length, refl, subst, sym}
use Rattle.layers.specs.Layers.{joined, NoneBetween}
use Rattle.layers.proofs.JoinLemmas.{both_short, longer_front, same_length}
use Rattle.layers.proofs.NodeLemmas.{none_before, spent_none, spent_more, spent_in_all}
use Rattle.layers.proofs.FirstLemmas.{first_read, none_read, placed_within}
use Rattle.layers.proofs.version.first_in.Goals as goal

pub overflow_add-result : goal.overflow_add-result
overflow_add-result g c =
    let within = placed_within _ _ _ c.in-Some.place (c.in-Some.ensures {u = tt}).first in
    let same = same_length c.get-layer.result.now c.layer-item.result c.get-layer.ensures in
    let short = both_short c.args.layers.now c.loop-layer.layer-index c.layer-item.result c.loop-layer-test.true
    c.layer-item.is in
    omega arith

pub returns-in-Some-clause-first : goal.returns-in-Some-clause-first
returns-in-Some-clause-first g c =
    first_read c.args.layers.now c.loop-layer.layer-index c.loop-layer.start c.args.n c.layer-item.result c.args.asked.now
    c.loop-layer-test.true c.layer-item.is c.loop-layer.invariant.front c.loop-layer.invariant.none
    c.saturating_sub.result c.get-layer.result.now c.in-Some.place c.saturating_sub.ensures c.get-layer.ensures
    (c.in-Some.ensures {u = tt}).first

pub overflow_add-start : goal.overflow_add-start
overflow_add-start g c =
    let same = same_length c.get-layer.result.now c.layer-item.result c.get-layer.ensures in
    let short = both_short c.args.layers.now c.loop-layer.layer-index c.layer-item.result c.loop-layer-test.true
    c.layer-item.is in
    omega arith

pub loop-layer-preserved : goal.loop-layer-preserved
loop-layer-preserved g c = record {
  front =
      let same = same_length c.get-layer.result.now c.layer-item.result c.get-layer.ensures in
      let step = longer_front c.args.layers.now c.loop-layer.layer-index c.layer-item.result c.loop-layer-test.true
      c.layer-item.is in
      omega arith;
  none = subst (λ (m : ℕ). NoneBetween (joined c.args.layers.now) c.args.asked.now c.args.n (c.loop-layer.start + m))
      (sym c.len-start.ensures.len)
      (none_read c.args.layers.now c.loop-layer.layer-index c.loop-layer.start c.args.n c.layer-item.result
      c.args.asked.now c.loop-layer-test.true c.layer-item.is c.loop-layer.invariant.front c.loop-layer.invariant.none
      c.saturating_sub.result c.get-layer.result.now c.saturating_sub.ensures c.get-layer.ensures
      (c.in_default.ensures {u = tt}).first);
  cost = λ none nodes have.
      spent_more c.args.layers.now c.loop-layer.layer-index nodes (length c.args.asked.now) _ _ _ c.layer-item.result
      c.get-layer.result.now c.loop-layer-test.true c.layer-item.is c.get-layer.ensures
      (c.loop-layer.invariant.cost none nodes have)
      ((c.in_default.ensures {u = tt}).cost
      (none_before c.args.layers.now c.loop-layer.layer-index c.loop-layer.start c.args.n c.saturating_sub.result
      c.layer-item.result c.get-layer.result.now c.args.asked.now c.loop-layer-test.true c.layer-item.is
      c.get-layer.ensures c.loop-layer.invariant.front c.saturating_sub.ensures none));
}

pub returns-in-Some-clause-cost : goal.returns-in-Some-clause-cost
returns-in-Some-clause-cost g c none nodes have =
    spent_in_all c.args.layers.now (c.loop-layer.layer-index + 1) nodes (length c.args.asked.now) _ _
    (spent_more c.args.layers.now c.loop-layer.layer-index nodes (length c.args.asked.now) _ _ _ c.layer-item.result
    c.get-layer.result.now c.loop-layer-test.true c.layer-item.is c.get-layer.ensures
    (c.loop-layer.invariant.cost none nodes have)
    ((c.in-Some.ensures {u = tt}).cost
    (none_before c.args.layers.now c.loop-layer.layer-index c.loop-layer.start c.args.n c.saturating_sub.result
    c.layer-item.result c.get-layer.result.now c.args.asked.now c.loop-layer-test.true c.layer-item.is
    c.get-layer.ensures c.loop-layer.invariant.front c.saturating_sub.ensures none)))

pub returns-clause-cost : goal.returns-clause-cost
returns-clause-cost g c none nodes have =
    spent_in_all c.args.layers.now c.loop-layer.layer-index nodes (length c.args.asked.now) _ _
    (c.loop-layer.invariant.cost none nodes have)

pub loop-layer-init : goal.loop-layer-init
loop-layer-init g c = record {
  front = refl;
  none = λ k d from before. absurd (omega arith);
  cost = λ none nodes have. spent_none c.args.layers.now nodes (length c.args.asked.now) c.args.steps.now have;
}
