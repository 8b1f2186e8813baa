use Rattle.std.proofs.Common.{List, ◌∷◌, arith, length}
use Rattle.lin_model.specs.KeyAtom.{PlainKeyAtom}
use Rattle.atom_implies.specs.Implies.{Covers}
use Rattle.key_tree.specs.Tree.{branch_to}
use Rattle.key_tree.specs.Walks.{covered_by}
use Rattle.key_tree.specs.Found.{none_is_less, found_here}
use Rattle.unsat_trie.proofs.CoverLemmas.{covers_nil}
use Rattle.unsat_trie.proofs.BranchLemmas.{found_unimplied, found_implied}
use Rattle.key_tree.specs.Loops.{found_more, visits_more, found_all}
use Rattle.unsat_trie.proofs.walk.+walking.Goals.{look-then-from-best-via-then-from-best, look-then-from-best-via-else-from-best+then-not-is_implied}
use Rattle.unsat_trie.proofs.walk.+walking.Goals as goal

pub look-returns-then-from-best-clause-found : goal.look-returns-then-from-best-clause-found
look-returns-then-from-best-clause-found g t c =
    elim c.then-from-best.branch [
      | look-then-from-best-via-then-from-best w ↦ none_is_less c.args.tree.now c.args.kid.now.place
          (λ (rest : List PlainKeyAtom). Covers c.args.asked.now
          ((branch_to c.args.tree.now c.args.kid.now.place).atom ∷ rest)) c.args.best c.args.kid.now.least
          c.atom-atom.ensures.tree c.requires.some c.requires.within c.requires.least
          (omega (arith, w.if-from-best.true, c.from.ensures))
      | look-then-from-best-via-else-from-best+then-not-is_implied w ↦ found_unimplied c.args.tree.now
          c.args.kid.now.place c.args.asked.now c.atom-atom.result.now c.atom-atom.ensures.atom w.is_implied.result
          w.is_implied.ensures.exact w.if-not-is_implied.true c.args.best
    ]

pub look-returns-clause-found : goal.look-returns-clause-found
look-returns-clause-found g t c =
    found_implied c.args.tree.now c.args.kid.now.place c.args.asked.now c.atom-atom.result.now c.atom-atom.ensures.atom
    c.is_implied.result c.is_implied.ensures.exact c.if-not-is_implied.false c.args.best c.walk.result
    c.walk.ensures.found

pub walk-loop-kid-init : goal.walk-loop-kid-init
walk-loop-kid-init g t c = record {
  found =
      found_here c.args.tree.now c.args.place (λ (rest : List PlainKeyAtom). Covers c.args.asked.now rest) c.args.best
      c.lesser-found.result c.number.result c.number.ensures.tree c.requires c.number.ensures.number
      (covers_nil c.args.asked.now) c.lesser-found.ensures.falls c.lesser-found.ensures.attained
      c.lesser-found.ensures.least;
  cost = c.visits_go_on.ensures.none c.args.tree.now c.args.place (length c.args.asked.now) c.args.steps.now;
}

pub walk-loop-kid-preserved : goal.walk-loop-kid-preserved
walk-loop-kid-preserved g t c = record {
  found =
      found_more c.args.tree.now c.args.place c.kids-kid-items.result.now c.loop-kid.kid-index
      c.kids-kid-items.ensures.tree c.requires c.kids-kid-items.ensures.kids _ c.loop-kid-test.true
      c.walks_go_on.ensures (covered_by c.args.asked.now) c.args.best c.loop-kid.found c.look-found.result
      c.loop-kid.invariant.found c.look-found.ensures.found;
  cost =
      visits_more c.args.tree.now c.args.place c.kids-kid-items.result.now c.loop-kid.kid-index
      c.kids-kid-items.ensures.tree c.requires c.kids-kid-items.ensures.kids _ c.loop-kid-test.true
      c.visits_go_on.ensures (length c.args.asked.now) c.args.steps.now _ _ c.loop-kid.invariant.cost
      c.look-found.ensures.cost;
}

pub walk-returns-clause-found : goal.walk-returns-clause-found
walk-returns-clause-found g t c =
    found_all c.args.tree.now c.args.place c.kids-kid-items.result.now c.loop-kid.kid-index
    c.kids-kid-items.ensures.tree c.requires c.kids-kid-items.ensures.kids c.loop-kid-test.false
    c.loop-kid.auto.kid-index-end c.walks_go_on.ensures (covered_by c.args.asked.now) c.args.best c.loop-kid.found
    c.loop-kid.invariant.found
