use Rattle.std.proofs.Common.{◌/◌, length, arith}
use Rattle.std.proofs.lemmas.Grind.{common_steps}
use Rattle.devices.proofs.mem_sink.MemSinkSink.write.Goals as goal

-- the front that a listed write takes is half of the piece
pub returns-else-is_err-clause-front : goal.returns-else-is_err-clause-front
returns-else-is_err-clause-front c =
    (length c.args.piece.now / 2, omega arith, grind (arith, common_steps))
