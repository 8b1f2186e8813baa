use Rattle.std.proofs.Common.{arith}
use Rattle.layers.proofs.JoinLemmas.{rest_short}
use Rattle.layers.proofs.growth.with_entry.Goals as goal

pub joined_with-requires : goal.joined_with-requires
joined_with-requires c =
    let short = rest_short c.args.layers.now _ c.args.kept c.split_at.ensures.back in omega arith
