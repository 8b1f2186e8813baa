use Rattle.canoniser.proofs.KeyLemmas.{IfOk_three, IsKeyWithBounds-joined}
use Rattle.canoniser.proofs.keys.key_of.Goals as goal

pub returns : goal.returns
returns c = IfOk_three c.strongest.result _ _ _ _
    (λ key ascends just covers. IsKeyWithBounds-joined c.args.c.now c.args.order.now c.args.atoms.items
    c.in_ok-bounds.bounds.items c.append.new.self.items key c.in_ok-append.ensures.items c.in_ok-bounds.ensures.just
    c.in_ok-bounds.ensures.fit ascends just covers) c.strongest.ensures.ascends c.strongest.ensures.just
    c.strongest.ensures.covers
