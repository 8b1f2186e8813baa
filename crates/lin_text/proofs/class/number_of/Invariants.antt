use Rattle.std.proofs.Common.{◌≡◌, ◌^◌, min, take}
use Rattle.lin_text.specs.Pieces.{number_of}
use Rattle.lin_text.proofs.class.number_of.Given as goal

-- the number so far
abbrev pub invariant-loop-digit : goal.invariant-loop-digit
invariant-loop-digit l = l.number ≡ min (number_of (take l.digit-index l.digits)) (2 ^ 50)
