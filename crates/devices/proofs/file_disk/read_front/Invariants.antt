use Rattle.std.proofs.Common.{◌≤◌, length}
use Rattle.devices.proofs.file_disk.read_front.Given as goal

abbrev pub invariant-loop : goal.invariant-loop
invariant-loop l = l.read ≤ length l.buf
