use Rattle.std.proofs.lemmas.Nat.{le_or_l}
use Rattle.slicer.proofs.Bits.{bit_at-either}
use Rattle.slicer.proofs.var_set.VarSet.union.Goals as goal

pub returns-clause-either : goal.returns-clause-either
returns-clause-either c = λ v. bit_at-either c.args.self.bits c.args.other.bits v

pub returns-clause-larger : goal.returns-clause-larger
returns-clause-larger c = le_or_l c.args.self.bits c.args.other.bits
