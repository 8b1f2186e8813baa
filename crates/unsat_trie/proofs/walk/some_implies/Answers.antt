use Rattle.std.proofs.Common.{arith}
use Rattle.unsat_trie.proofs.RunLemmas.{none_implies}
use Rattle.unsat_trie.proofs.walk.some_implies.Goals as goal

pub returns-clause-exact : goal.returns-clause-exact
returns-clause-exact g c = (
  λ says. absurd (cc),
  λ any. absurd (none_implies c.prints_are_right.ensures c.args.asked.now c.args.atom.now c.args.hash c.loop-place.place
      c.args.run c.requires.hash c.requires.run c.loop-place.invariant.none (omega (arith, c.loop-place-test.false)) any),
)

pub returns-clause-cost : goal.returns-clause-cost
returns-clause-cost g c =
    omega (
      arith,
      c.loop-place.invariant.cost,
      c.loop-place.auto.place-end,
      c.requires.run.within,
      c.requires.run.order,
    )
