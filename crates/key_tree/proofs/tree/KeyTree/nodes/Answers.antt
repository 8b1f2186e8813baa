use Rattle.key_tree.proofs.PrefixLemmas.{same_prefixes}
use Rattle.std.proofs.Common.{rules}
use Rattle.key_tree.proofs.tree.KeyTree.nodes.Goals as goal

-- src/tree.rt:58:5
pub returns-clause-prefixes : goal.returns-clause-prefixes
returns-clause-prefixes c =
    same_prefixes _ c.args.self.now c.len.result c.self.invariant c.self.view_is (search rules)
