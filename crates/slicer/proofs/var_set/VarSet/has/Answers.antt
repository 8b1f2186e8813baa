use Rattle.slicer.proofs.Bits.{tests_bit}
use Rattle.slicer.proofs.var_set.VarSet.has.Goals as goal

pub returns : goal.returns
returns c = tests_bit c.args.self.bits c.args.var c.requires
