use Rattle.layers.proofs.FirstLemmas.{first_of_all}
use Rattle.layers.proofs.layer.Layer.first_from.Goals as goal

pub returns-clause-first : goal.returns-clause-first
returns-clause-first g c =
    first_of_all c.args.n c.args.self.now c.args.asked.now c.first-first.result c.first-first.ensures.first
    (λ before. absurd (let is_before = (c.if-is_before.ensures {u = tt}).1 before in cc))
