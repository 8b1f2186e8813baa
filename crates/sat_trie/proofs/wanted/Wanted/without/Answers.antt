use Rattle.std.proofs.Common.{List, length, subst}
use Rattle.lin_model.specs.KeyAtom.{PlainKeyAtom}
use Rattle.sat_trie.specs.Wanted.{atoms_left}
use Rattle.sat_trie.proofs.CoverLemmas.{LeavesOf}
use Rattle.sat_trie.proofs.wanted.Wanted.without.Goals as goal

pub returns-clause-rest : goal.returns-clause-rest
returns-clause-rest g c =
    let asked = c.self.inside.asked.now in
    subst (λ (query : List PlainKeyAtom).
    LeavesOf c.args.atom.now query (atoms_left asked c.left_without.result (length asked))) c.self.view_is
    c.left_without.ensures.rest
