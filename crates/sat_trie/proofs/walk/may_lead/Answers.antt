use Rattle.std.proofs.Common.{◌≡◌, true}
use Rattle.key_tree.specs.Tree.{branch_to}
use Rattle.sat_trie.proofs.WalkLemmas.{needs_of_branch}
use Rattle.sat_trie.proofs.walk.may_lead.Goals as goal

pub returns : goal.returns
returns c = λ says number passes.
    let so : c.is_within.result ≡ true =
    c.is_within.ensures.1
    (needs_of_branch c.masks_are_right.ensures c.prints_are_right.ensures c.args.tree.now c.args.kid.now.place
    c.args.wanted.now c.needs.result number c.root-root.ensures.tree c.requires.tells.within c.needs.ensures
    (branch_to c.args.tree.now c.args.kid.now.place).atom c.args.mask c.requires.own c.requires.behind passes) in
    absurd (cc)
