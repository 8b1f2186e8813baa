use Rattle.std.proofs.Common.{◌≡◌, ◌+◌, ◌∙◌, ℕ, arith, length, subst, sym}
use Rattle.std.proofs.lemmas.List.Elements.{All-take}
use Rattle.cert_check.specs.Decides.{key_of}
use Rattle.layers.proofs.JoinLemmas.{both_short, longer_front, same_length}
use Rattle.layers.proofs.FlagLemmas.{NoneHas, same_here, found_within, inside, known_is_first, none_is_known, none_more}
use Rattle.layers.proofs.firsts.own_place.Goals as goal

pub is_set-requires : goal.is_set-requires
is_set-requires c =
    let count = same_here c.args.layers.now c.args.firsts.now c.requires.firsts c.loop-number.number
    c.index-layers-number.result c.get-layer.result.now c.index-firsts-number.result c.get.result.now
    c.loop-number-test.true c.index-layers-number.is c.get-layer.ensures c.index-firsts-number.is c.get.ensures in
    let within = found_within c.args.layers.now c.args.firsts.now c.requires.firsts c.loop-number.number
    c.index-layers-number.result c.get-layer.result.now c.index-firsts-number.result c.get.result.now
    c.loop-number-test.true c.index-layers-number.is c.get-layer.ensures c.index-firsts-number.is c.get.ensures
    c.loop-number.start c.in-Some.place c.args.key.now c.entries_decide_their_keys.ensures c.loop-number.invariant.front
    (c.in-Some.ensures {u = tt}) in
    omega arith

pub returns-then-not-is_set : goal.returns-then-not-is_set
returns-then-not-is_set c =
    none_is_known c.args.layers.now c.args.firsts.now c.requires.firsts c.loop-number.number
    c.index-layers-number.result c.get-layer.result.now c.index-firsts-number.result c.get.result.now
    c.loop-number-test.true c.index-layers-number.is c.get-layer.ensures c.index-firsts-number.is c.get.ensures
    c.loop-number.start c.in-Some.place c.args.key.now c.entries_decide_their_keys.ensures c.loop-number.invariant.front
    (c.in-Some.ensures {u = tt}) (sym c.is_set.ensures ∙ c.if-not-is_set.true) c.loop-number.invariant.none

pub overflow_add-result : goal.overflow_add-result
overflow_add-result c =
    let within = inside c.args.layers.now c.args.firsts.now c.requires.firsts c.loop-number.number
    c.index-layers-number.result c.get-layer.result.now c.index-firsts-number.result c.get.result.now
    c.loop-number-test.true c.index-layers-number.is c.get-layer.ensures c.index-firsts-number.is c.get.ensures
    c.loop-number.start c.in-Some.place c.args.key.now c.entries_decide_their_keys.ensures c.loop-number.invariant.front
    (c.in-Some.ensures {u = tt}) in
    omega arith

pub returns-in-Some : goal.returns-in-Some
returns-in-Some c =
    known_is_first c.args.layers.now c.args.firsts.now c.requires.firsts c.loop-number.number
    c.index-layers-number.result c.get-layer.result.now c.index-firsts-number.result c.get.result.now
    c.loop-number-test.true c.index-layers-number.is c.get-layer.ensures c.index-firsts-number.is c.get.ensures
    c.loop-number.start c.in-Some.place c.args.key.now c.entries_decide_their_keys.ensures c.loop-number.invariant.front
    (c.in-Some.ensures {u = tt}) (sym c.is_set.ensures ∙ c.if-not-is_set.false)

pub overflow_add-start : goal.overflow_add-start
overflow_add-start c =
    let same = same_length c.get-layer.result.now c.index-layers-number.result c.get-layer.ensures in
    let short = both_short c.args.layers.now c.loop-number.number c.index-layers-number.result c.loop-number-test.true
    c.index-layers-number.is in
    omega arith

pub loop-number-preserved : goal.loop-number-preserved
loop-number-preserved c = record {
  front =
      let same = same_length c.get-layer.result.now c.index-layers-number.result c.get-layer.ensures in
      let step = longer_front c.args.layers.now c.loop-number.number c.index-layers-number.result
      c.loop-number-test.true c.index-layers-number.is in
      omega arith;
  none = subst (λ (m : ℕ). NoneHas c.args.layers.now c.args.key.now (c.loop-number.start + m))
      (sym c.len-start.ensures.len)
      (none_more c.args.layers.now c.loop-number.number c.loop-number.start c.index-layers-number.result
      c.get-layer.result.now c.args.key.now c.loop-number-test.true c.index-layers-number.is c.get-layer.ensures
      c.loop-number.invariant.front (length c.get-layer.result.now) (omega arith) c.loop-number.invariant.none
      (All-take (λ e. ¬ (key_of e ≡ c.args.key.now)) (length c.get-layer.result.now) c.get-layer.result.now
      (c.in_default.ensures {u = tt})));
}
