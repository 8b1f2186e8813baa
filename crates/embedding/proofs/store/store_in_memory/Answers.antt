use Rattle.journal.specs.Journals.{saved_in}
use Rattle.embedding.proofs.store.store_in_memory.Goals as goal

pub start-requires-clause-list : goal.start-requires-clause-list
unfolding saved_in
start-requires-clause-list g c = rw c.off.ensures.made c.new.ensures.items
