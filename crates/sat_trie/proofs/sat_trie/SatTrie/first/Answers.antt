use Rattle.std.proofs.Common.{List, subst}
use Rattle.lin_model.specs.KeyAtom.{PlainKeyAtom}
use Rattle.atom_implies.specs.Implies.{Covers}
use Rattle.key_tree.specs.Held.{IsLeastOf}
use Rattle.sat_trie.proofs.sat_trie.SatTrie.first.Goals as goal

pub returns-clause-first : goal.returns-clause-first
returns-clause-first g c =
    subst (λ (atoms : List PlainKeyAtom). IsLeastOf (λ held. Covers held atoms) c.args.self.now c.first_for.result)
    c.of.ensures c.first_for.ensures.first
