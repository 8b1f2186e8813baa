use Rattle.std.proofs.Common.{◌≡◌, true}
use Rattle.cert_check.proofs.CheckLemmas.{fails_first, width_at}
use Rattle.cert_check.proofs.check.first_failing.Goals as goal

pub holds-requires : goal.holds-requires
holds-requires c =
    width_at c.args.key.now _ c.loop-number.number _ c.atom-item.result c.atoms-atom-items.ensures.atoms
    c.loop-number-test.true c.atom-item.is c.requires

pub returns-then-not-holds : goal.returns-then-not-holds
returns-then-not-holds c =
    fails_first c.args.key.now _ _ _ c.atom-item.result c.atoms-atom-items.ensures.atoms c.loop-number-test.true
    c.atom-item.is c.loop-number.invariant
    (λ holds. let yes : c.holds.result ≡ true = c.holds.ensures.1 holds in absurd (cc))
