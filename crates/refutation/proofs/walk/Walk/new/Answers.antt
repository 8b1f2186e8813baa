use Rattle.refutation.proofs.WalkLemmas.{walk-new}
use Rattle.refutation.proofs.walk.Walk.new.Goals as goal

pub returns : goal.returns
returns c =
    walk-new c.new-2.result.items c.args.bounds c.new.result.items c.new-2.ensures.items c.new.ensures.items
