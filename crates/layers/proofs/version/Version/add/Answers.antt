use Rattle.layers.specs.Layers.{joined}
use Rattle.layers.proofs.UndecidedLemmas.{more_than_none}
use Rattle.layers.proofs.version.Version.add.Goals as goal

pub add_seen-requires-clause-more : goal.add_seen-requires-clause-more
add_seen-requires-clause-more c =
    more_than_none c.entries_decide_their_keys.ensures (joined c.args.self.now) c.args.entry
