use Rattle.std.proofs.Common.{ap, length, arith}
use Rattle.std.proofs.lemmas.List.{length_push}
use Rattle.refutation.specs.Box.{PlainBox}
use Rattle.combos.proofs.WorthLemmas.{none_kept, one_more}
use Rattle.combos.proofs.worths.Worths.of.Goals as goal

pub loop-place-init : goal.loop-place-init
loop-place-init c =
    let box : PlainBox = record { bounds = c.args.bounds.now; sides = c.args.sides.now } in
    record {
      are = none_kept c.args.key.now box (record { lowest = c.new.result; highest = c.new-2.result }) c.new.ensures
          c.new-2.ensures;
      count = ap length c.new.ensures;
    }

pub loop-place-preserved : goal.loop-place-preserved
loop-place-preserved c =
    let box : PlainBox = record { bounds = c.args.bounds.now; sides = c.args.sides.now } in
    record {
      are = one_more c.args.key.now box c.loop-place.worths c.push.new.self c.loop-place.place c.worth_at.result
          c.loop-place.invariant.are c.loop-place.invariant.count c.push.ensures.lowest c.push.ensures.highest
          c.worth_at.ensures.worth c.worth_at.ensures.small;
      count = omega (
        arith,
        ap length c.push.ensures.lowest,
        length_push c.loop-place.worths.lowest.items c.worth_at.result.lowest,
      );
    }

pub push-requires-clause-lowest : goal.push-requires-clause-lowest
push-requires-clause-lowest c = omega arith

pub push-requires-clause-highest : goal.push-requires-clause-highest
push-requires-clause-highest c = omega arith
