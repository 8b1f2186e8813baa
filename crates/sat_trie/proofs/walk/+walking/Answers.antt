use Rattle.std.proofs.Common.{◌∙◌, List, ◌∷◌, arith}
use Rattle.lin_model.specs.KeyAtom.{PlainKeyAtom}
use Rattle.atom_implies.specs.Implies.{Covers}
use Rattle.key_tree.specs.Tree.{branch_to}
use Rattle.key_tree.specs.Walks.{covering, IsAtOrBehind, IsBehind}
use Rattle.key_tree.specs.Found.{found_before, none_is_less}
use Rattle.key_tree.specs.Loops.{found_more, found_all, visits_more, visits_all}
use Rattle.sat_trie.proofs.BranchLemmas.{found_without, found_left, found_whole}
use Rattle.sat_trie.proofs.WalkLemmas.{visits_none}
use Rattle.sat_trie.proofs.walk.+walking.Goals as goal

pub enter-returns-then-not-may_cover-clause-found : goal.enter-returns-then-not-may_cover-clause-found
enter-returns-then-not-may_cover-clause-found g t c =
    found_before c.args.tree.now c.args.place (λ (rest : List PlainKeyAtom). Covers rest c.args.wanted.now) c.args.best
    (λ number passes. absurd (c.may_cover.ensures (cc) number passes))

pub enter-returns-then-not-may_cover-clause-cost : goal.enter-returns-then-not-may_cover-clause-cost
enter-returns-then-not-may_cover-clause-cost g t c = λ each le.
    visits_none (IsBehind c.args.tree.now c.args.place) each c.args.steps.now

pub walk-loop-k-init : goal.walk-loop-k-init
walk-loop-k-init g t c = record {
  found = c.with_own-found.ensures;
  cost = λ each le. c.visits_go_on.ensures.none c.args.tree.now c.args.place each c.args.steps.now;
}

pub walk-loop-k-preserved : goal.walk-loop-k-preserved
walk-loop-k-preserved g t c = record {
  found =
      found_more c.args.tree.now c.args.place c.kids-kid-items.result.now c.loop-k.k
      c.kids-kid-items.ensures.tree c.requires c.kids-kid-items.ensures.kids _ c.loop-k-test.true
      c.walks_go_on.ensures (covering c.args.wanted.now) c.args.best c.loop-k.found c.look-found.result
      c.loop-k.invariant.found c.look-found.ensures.found;
  cost = λ each le.
      visits_more c.args.tree.now c.args.place c.kids-kid-items.result.now c.loop-k.k
      c.kids-kid-items.ensures.tree c.requires c.kids-kid-items.ensures.kids _ c.loop-k-test.true
      c.visits_go_on.ensures each c.args.steps.now _ _ (c.loop-k.invariant.cost each le)
      (c.look-found.ensures.cost each le);
}

pub walk-returns-clause-found : goal.walk-returns-clause-found
walk-returns-clause-found g t c =
    found_all c.args.tree.now c.args.place c.kids-kid-items.result.now c.loop-k.k
    c.kids-kid-items.ensures.tree c.requires c.kids-kid-items.ensures.kids c.loop-k-test.false
    c.loop-k.auto.k-end c.walks_go_on.ensures (covering c.args.wanted.now) c.args.best c.loop-k.found
    c.loop-k.invariant.found

pub walk-returns-clause-cost : goal.walk-returns-clause-cost
walk-returns-clause-cost g t c = λ each le.
    visits_all c.args.tree.now c.args.place c.kids-kid-items.result.now c.loop-k.k
    c.kids-kid-items.ensures.tree c.requires c.kids-kid-items.ensures.kids c.loop-k-test.false
    c.loop-k.auto.k-end c.visits_go_on.ensures each c.args.steps.now c.loop-k.steps
    (c.loop-k.invariant.cost each le)

pub look-returns-then-not-may_lead-clause-found : goal.look-returns-then-not-may_lead-clause-found
look-returns-then-not-may_lead-clause-found g t c =
    found_before c.args.tree.now c.args.kid.now.place
    (λ (rest : List PlainKeyAtom). Covers ((branch_to c.args.tree.now c.args.kid.now.place).atom ∷ rest)
    c.args.wanted.now) c.args.best (λ number passes. absurd (c.may_lead.ensures (cc) number passes))

pub look-returns-then-not-may_lead-clause-cost : goal.look-returns-then-not-may_lead-clause-cost
look-returns-then-not-may_lead-clause-cost g t c = λ each le.
    visits_none (IsAtOrBehind c.args.tree.now c.args.kid.now.place) each c.args.steps.now

pub look-returns-then-from-best-clause-found : goal.look-returns-then-from-best-clause-found
look-returns-then-from-best-clause-found g t c =
    none_is_less c.args.tree.now c.args.kid.now.place
    (λ (rest : List PlainKeyAtom). Covers ((branch_to c.args.tree.now c.args.kid.now.place).atom ∷ rest)
    c.args.wanted.now) c.args.best c.args.kid.now.least c.atom-atom.ensures.tree c.requires.tells.some c.requires.tells.within
    c.requires.tells.least (omega (arith, c.if-from-best.true, c.from.ensures))

pub look-returns-then-not-has_form-clause-found : goal.look-returns-then-not-has_form-clause-found
look-returns-then-not-has_form-clause-found g t c =
    found_without c.args.tree.now c.args.kid.now.place c.args.wanted.now c.atom-atom.result.now c.atom-atom.ensures.atom
    c.prints_are_right.ensures c.args.kid.now.hash c.args.best c.enter.result c.requires.tells.hash (c.has_form.ensures (cc))
    c.enter.ensures.found

pub look-returns-then-not-has_form-clause-cost : goal.look-returns-then-not-has_form-clause-cost
look-returns-then-not-has_form-clause-cost g t c = λ each le.
    c.visits_go_on.ensures.behind c.args.tree.now c.args.kid.now.place each c.args.steps.now c.args.steps.now
    c.enter.new.steps c.atom-atom.ensures.tree c.requires.tells.within (omega arith) (c.enter.ensures.cost each le)

pub look-returns-then-is_empty-clause-found : goal.look-returns-then-is_empty-clause-found
look-returns-then-is_empty-clause-found g t c =
    found_whole c.args.tree.now c.args.kid.now.place c.args.wanted.now c.atom-atom.result.now c.atom-atom.ensures.atom
    c.without-left.result c.without-left.ensures.rest c.atom-atom.ensures.tree c.requires.tells.some
    c.requires.tells.within c.args.best _ (c.is_empty.ensures.0 (cc))
    (c.from-then-is_empty.ensures ∙ c.requires.tells.least) (omega arith)

pub look-returns-clause-found : goal.look-returns-clause-found
look-returns-clause-found g t c =
    found_left c.args.tree.now c.args.kid.now.place c.args.wanted.now c.atom-atom.result.now c.atom-atom.ensures.atom
    c.without-left.result c.without-left.ensures.rest c.args.best c.enter-2.result
    c.enter-2.ensures.found

pub look-returns-clause-cost : goal.look-returns-clause-cost
look-returns-clause-cost g t c = λ each le.
    c.visits_go_on.ensures.behind c.args.tree.now c.args.kid.now.place each c.args.steps.now c.without-left.new.steps
    c.enter-2.new.steps c.atom-atom.ensures.tree c.requires.tells.within
    (omega (arith, c.without-left.ensures.cost))
    (c.enter-2.ensures.cost each (omega (arith, c.without-left.ensures.fewer)))
