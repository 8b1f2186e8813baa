use Rattle.std.proofs.Common.{◌≤◌, length, refl, sym, subst, arith}
use Rattle.sat_trie.specs.declared.left.Left.{Left}
use Rattle.sat_trie.specs.Wanted.{atoms_left}
use Rattle.sat_trie.proofs.CoverLemmas.{LeavesOf}
use Rattle.sat_trie.proofs.RestLemmas.{rest_starts, rest_more, rest_counts, rest_costs, rest_leaves, rest_fewer, rest_left, rest_cost}
use Rattle.sat_trie.proofs.rest.left_without.Goals as goal

pub loop-place-init : goal.loop-place-init
loop-place-init g c = record {
  rest = rest_starts c.args.asked.now c.args.atom.now c.args.before.now _ c.args.run.first c.requires.left refl;
  cost = omega arith;
}

pub compare-requires-clause-some : goal.compare-requires-clause-some
compare-requires-clause-some g c = λ on.
    rest_counts c.args.asked.now c.args.atom.now c.args.before.now c.loop-place.rest c.loop-place.rest c.args.run.first
    c.loop-place.place c.loop-place.invariant.rest (omega (arith, c.loop-place-test.true, c.requires.run.within)) on

pub loop-place-preserved : goal.loop-place-preserved
loop-place-preserved g c = record {
  rest =
      rest_more c.args.asked.now c.args.atom.now c.args.before.now c.loop-place.rest c.compare.new.rest c.args.run.first
      c.loop-place.place c.loop-place.invariant.rest (omega (arith, c.loop-place-test.true, c.requires.run.within))
      c.compare.ensures.compared;
  cost =
      rest_costs c.args.asked.now c.args.atom.now c.args.before.now c.loop-place.rest c.compare.new.rest c.args.run.first
      c.loop-place.place c.loop-place.invariant.rest c.args.steps.now c.loop-place.steps c.compare.new.steps
      c.loop-place.invariant.cost c.compare.ensures.cost;
}

few : (g : _) (c : goal.After-lessen_needs g) → c.loop-place.place ≤ length c.args.asked.now
few g c = omega (arith, c.loop-place.auto.place-end, c.requires.run.within, c.requires.run.order)

pub returns-clause-left : goal.returns-clause-left
returns-clause-left g c =
    rest_left c.args.asked.now c.args.atom.now c.args.before.now c.loop-place.rest c.args.hash c.loop-place.place c.args.run
    c.prints_are_right.ensures c.requires.left c.requires.hash c.requires.run c.loop-place.invariant.rest
    (omega (arith, c.loop-place-test.false)) _ (few g c) c.lessen_needs.ensures

pub returns-clause-rest : goal.returns-clause-rest
returns-clause-rest g c =
    subst (λ (left : Left). LeavesOf c.args.atom.now (atoms_left c.args.asked.now c.args.before.now (length c.args.asked.now))
    (atoms_left c.args.asked.now left (length c.args.asked.now))) (sym c.lessen_needs.ensures)
    (rest_leaves c.args.asked.now c.args.atom.now c.args.before.now c.loop-place.rest c.args.hash c.loop-place.place
    c.args.run c.prints_are_right.ensures c.requires.left c.requires.hash c.requires.run c.loop-place.invariant.rest
    (omega (arith, c.loop-place-test.false)))

pub returns-clause-fewer : goal.returns-clause-fewer
returns-clause-fewer g c =
    subst (λ (left : Left). length (atoms_left c.args.asked.now left (length c.args.asked.now))
    ≤ length (atoms_left c.args.asked.now c.args.before.now (length c.args.asked.now))) (sym c.lessen_needs.ensures)
    (rest_fewer c.args.asked.now c.args.atom.now c.args.before.now c.loop-place.rest c.args.hash c.loop-place.place
    c.args.run c.prints_are_right.ensures c.requires.left c.requires.hash c.requires.run c.loop-place.invariant.rest
    (omega (arith, c.loop-place-test.false)))

pub returns-clause-cost : goal.returns-clause-cost
returns-clause-cost g c =
    rest_cost c.args.asked.now c.args.before.now c.args.steps.now c.loop-place.steps c.loop-place.place (few g c)
    c.loop-place.invariant.cost
