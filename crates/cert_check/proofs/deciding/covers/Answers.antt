use Rattle.cert_check.proofs.CoverLemmas.{covers_more, implied_at, one_round}
use Rattle.cert_check.proofs.deciding.covers.Goals as goal

pub returns-then-not-is_implied-clause-exact : goal.returns-then-not-is_implied-clause-exact
returns-then-not-is_implied-clause-exact g c = (
  λ yes. absurd (cc),
  λ covers. absurd (
      let one = implied_at _ _ _ _ c.loop-atom.atom-index c.atom-item.result c.atoms.ensures.atoms
      c.atoms-atom-items.ensures.atoms c.loop-atom-test.true c.atom-item.is covers in
      let yes = c.is_implied.ensures.exact.1 one in
      cc
      ),
)

pub loop-atom-preserved : goal.loop-atom-preserved
loop-atom-preserved g c = record {
  all = covers_more _ _ _ _ c.loop-atom.atom-index c.atom-item.result c.atoms.ensures.atoms
      c.atoms-atom-items.ensures.atoms c.loop-atom-test.true c.atom-item.is c.loop-atom.invariant.all
      (c.is_implied.ensures.exact.0 c.if-not-is_implied.false);
  cost = one_round _ _ _ c.loop-atom.atom-index _ _ c.atoms.ensures.atoms c.is_implied.ensures.cost
      c.loop-atom.invariant.cost;
}
