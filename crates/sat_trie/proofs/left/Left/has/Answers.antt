use Rattle.sat_trie.proofs.LeftLemmas.{tests_place}
use Rattle.sat_trie.proofs.left.Left.has.Goals as goal

pub returns : goal.returns
returns c = tests_place c.args.self.now.words c.args.place c.from.result c.from.ensures
