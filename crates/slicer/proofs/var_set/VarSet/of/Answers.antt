use Rattle.slicer.proofs.Bits.{bit_at-one}
use Rattle.slicer.proofs.var_set.VarSet.of.Goals as goal

pub returns : goal.returns
returns c = λ v. bit_at-one c.args.var v c.requires
