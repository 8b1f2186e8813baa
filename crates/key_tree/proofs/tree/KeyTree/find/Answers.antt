use Rattle.std.proofs.Common.{◌<◌, ◌≤◌, List, length, subst}
use Rattle.lin_model.specs.KeyAtom.{PlainKeyAtom}
use Rattle.key_tree.specs.Growth.{IsFront}
use Rattle.key_tree.proofs.FindLemmas.{none_found, found}
use Rattle.key_tree.proofs.tree.KeyTree.find.Goals as goal

pub returns-then-front-atoms-clause-least : goal.returns-then-front-atoms-clause-least
returns-then-front-atoms-clause-least c =
    none_found c.args.self.now c.front-front.ensures.tree c.args.key.now c.front-front.result
    (subst (λ (atoms : List PlainKeyAtom). IsFront c.args.self.now atoms c.front-front.result) c.atoms.ensures.atoms
    c.front-front.ensures.front)
    (subst (λ (atoms : List PlainKeyAtom). c.front-front.result.len < length atoms) c.atoms-2.ensures.atoms
    c.if-front-atoms.true)

pub returns-clause-least : goal.returns-clause-least
returns-clause-least c =
    found c.args.self.now c.front-front.ensures.tree c.args.key.now c.front-front.result
    (subst (λ (atoms : List PlainKeyAtom). IsFront c.args.self.now atoms c.front-front.result) c.atoms.ensures.atoms
    c.front-front.ensures.front)
    c.number.result c.number.ensures.number
    (subst (λ (atoms : List PlainKeyAtom). length atoms ≤ c.front-front.result.len) c.atoms-2.ensures.atoms
    c.if-front-atoms.false)
