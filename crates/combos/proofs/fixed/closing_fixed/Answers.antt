use Rattle.std.proofs.Common.{length, ap, arith}
use Rattle.combos.proofs.fixed.closing_fixed.Goals as goal

pub returns : goal.returns
returns c = λ i lt. c.loop-number.invariant i (omega (arith, lt, ap length c.atoms.ensures.atoms))
