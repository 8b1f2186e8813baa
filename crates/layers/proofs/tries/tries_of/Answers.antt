use Rattle.layers.proofs.PairLemmas.{satisfied_below, cores_below, keys_more, cores_more, checked_more}
use Rattle.layers.proofs.tries.tries_of.Goals as goal

pub hold-requires-clause-satisfied : goal.hold-requires-clause-satisfied
hold-requires-clause-satisfied c =
    satisfied_below c.args.entries.now c.loop-place.place c.loop-place.tries.satisfied c.loop-place-test.true
    c.loop-place.invariant.satisfied

pub hold-requires-clause-refuted : goal.hold-requires-clause-refuted
hold-requires-clause-refuted c =
    cores_below c.args.entries.now c.loop-place.place c.loop-place.tries.refuted c.loop-place-test.true
    c.loop-place.invariant.refuted

pub loop-place-preserved : goal.loop-place-preserved
loop-place-preserved c = record {
  satisfied =
      keys_more c.args.entries.now c.loop-place.place c.index-entries-place.result c.get.result.now
      c.loop-place-test.true c.index-entries-place.is c.get.ensures c.loop-place.tries.satisfied
      c.hold.new.tries.satisfied c.loop-place.invariant.satisfied (c.in_ok-hold.ensures {u = tt}).satisfied;
  refuted =
      cores_more c.args.entries.now c.loop-place.place c.index-entries-place.result c.get.result.now
      c.loop-place-test.true c.index-entries-place.is c.get.ensures c.loop-place.tries.refuted
      c.hold.new.tries.refuted c.loop-place.invariant.refuted (c.in_ok-hold.ensures {u = tt}).refuted;
  checked =
      checked_more c.args.entries.now c.loop-place.place c.index-entries-place.result c.get.result.now
      c.loop-place-test.true c.index-entries-place.is c.get.ensures c.loop-place.invariant.checked
      (c.in_ok-hold.ensures {u = tt}).checked;
}
