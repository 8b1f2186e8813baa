use Rattle.std.proofs.Common.{arith}
use Rattle.slicer.proofs.Bits.{tests_shared}
use Rattle.slicer.proofs.var_set.VarSet.meets.Goals as goal

pub returns : goal.returns
returns c = tests_shared c.args.self.bits c.args.other.bits (omega arith)
