use Rattle.std.proofs.Common.{take}
use Rattle.lin_model.specs.Form.{IsGcdOf}
use Rattle.lin_model.proofs.gcd.gcd_of.Given as goal

-- the divisor of the coefficients so far
abbrev pub invariant-loop-term : goal.invariant-loop-term
invariant-loop-term l = IsGcdOf (take l.term-index l.terms) l.gcd
