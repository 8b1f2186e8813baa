use Rattle.std.proofs.Common.{rules}
use Rattle.key_tree.specs.Prints.{with_term as term_hash}
use Rattle.key_tree.proofs.mask.with_term.Goals as goal

pub returns-clause-hash : goal.returns-clause-hash
unfolding term_hash
returns-clause-hash c = search rules
