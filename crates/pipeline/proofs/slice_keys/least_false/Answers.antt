use Rattle.std.proofs.Common.{◌+◌, List, take, subst, sym, arith}
use Rattle.std.proofs.lemmas.List.{take_all}
use Rattle.canoniser.specs.declared.canonical.Canonical.{Canonical}
use Rattle.pipeline.proofs.KeyedLemmas.{IsLeastSoFar, least_more}
use Rattle.pipeline.proofs.slice_keys.least_false.Goals as goal

pub loop-canonical-init : goal.loop-canonical-init
loop-canonical-init c = λ k d lt. absurd (omega arith)

pub loop-canonical-preserved : goal.loop-canonical-preserved
loop-canonical-preserved c =
    subst (IsLeastSoFar (take (c.loop-canonical.canonical-index + 1) c.args.canonicals.now))
    (sym c.least_with-least.ensures)
    (least_more c.args.canonicals.now c.loop-canonical.canonical-index c.canonical-item.result
    c.loop-canonical.least c.loop-canonical-test.true c.canonical-item.is c.loop-canonical.invariant)

pub returns : goal.returns
returns c = subst (λ (cs : List Canonical). IsLeastSoFar cs c.loop-canonical.least)
    (take_all c.loop-canonical.canonical-index c.args.canonicals.now c.loop-canonical-test.false)
    c.loop-canonical.invariant
