use Rattle.key_tree.proofs.PrefixLemmas.{prefixes_counted}
use Rattle.key_tree.proofs.laws.prefixes_are_counted.Goals as goal

pub returns : goal.returns
returns c = prefixes_counted
