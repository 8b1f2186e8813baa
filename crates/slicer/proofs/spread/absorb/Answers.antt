use Rattle.std.proofs.Common.{get_or}
use Rattle.std.proofs.lemmas.List.{get_or_default}
use Rattle.slicer.specs.declared.var_set.VarSet.{VarSet}
use Rattle.slicer.proofs.SpreadLemmas.{IsAbsorbed-none, IsAbsorbed-more}
use Rattle.slicer.proofs.spread.absorb.Goals as goal

pub loop-set-init : goal.loop-set-init
loop-set-init c = IsAbsorbed-none c.args.sets.now c.args.reached

pub loop-set-preserved : goal.loop-set-preserved
loop-set-preserved c =
    let sets = c.args.sets.now in
    let i = c.loop-set.set-index in
    let empty : VarSet = record { bits = 0 } in
    let set = get_or sets i empty in
    let taken = c.take_in-next.ensures in
    IsAbsorbed-more sets c.args.reached i c.loop-set.next set c.take_in-next.result c.loop-set-test.true
    (get_or_default sets i empty set c.loop-set-test.true) c.loop-set.invariant taken.all taken.only taken.keeps
    taken.larger
