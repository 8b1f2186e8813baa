use Rattle.std.proofs.Common.{refl}
use Rattle.key_tree.proofs.RunLemmas.{runs_none, runs_more}
use Rattle.key_tree.proofs.runs.Runs.of.Goals as goal

pub loop-place-init : goal.loop-place-init
loop-place-init c = runs_none c.args.hashes.now c.none-runs.result c.none-runs.ensures

pub loop-place-preserved : goal.loop-place-preserved
loop-place-preserved c =
    runs_more c.args.hashes.now c.loop-place.runs c.add.new.self c.loop-place.place _ _ c.loop-place.invariant
    c.loop-place-test.true refl c.add.ensures
