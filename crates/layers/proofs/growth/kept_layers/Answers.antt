use Rattle.std.proofs.Common.{arith, length, refl}
use Rattle.layers.proofs.JoinLemmas.{rest_short}
use Rattle.layers.proofs.growth.kept_layers.Goals as goal

pub overflow_mul-behind : goal.overflow_mul-behind
overflow_mul-behind c =
    let short = rest_short c.args.layers.now _ (length c.loop-front.front.now) refl in omega arith

pub overflow_add-behind : goal.overflow_add-behind
overflow_add-behind c =
    let short = rest_short c.args.layers.now _ (length c.loop-front.front.now) refl in omega arith
