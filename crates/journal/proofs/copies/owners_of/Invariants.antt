use Rattle.std.proofs.Common.{◌≡◌, take}
use Rattle.journal.proofs.copies.owners_of.Given as goal

abbrev pub invariant-loop-entry : goal.invariant-loop-entry
invariant-loop-entry l = l.owners.items ≡ take l.entry-index l.entries
