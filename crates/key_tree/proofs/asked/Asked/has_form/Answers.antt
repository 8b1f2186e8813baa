use Rattle.std.proofs.Common.{arith}
use Rattle.std.proofs.lemmas.Bool.{lt-ltb}
use Rattle.key_tree.proofs.asked.Asked.has_form.Goals as goal

pub returns : goal.returns
returns c k d lt is =
    lt-ltb c.run-run.result.first c.run-run.result.end
    (omega (arith, c.run-run.ensures.run.first k d lt is, c.run-run.ensures.run.end k d lt is))
