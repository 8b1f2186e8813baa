use Rattle.std.proofs.Common.{arith}
use Rattle.slicer.proofs.Bits.{tests_none}
use Rattle.slicer.proofs.var_set.VarSet.is_empty.Goals as goal

pub returns : goal.returns
returns c = tests_none c.args.self.bits (omega arith)
