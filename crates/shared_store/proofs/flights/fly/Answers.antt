use Rattle.std.proofs.Common.{length, subst}
use Rattle.shared_store.specs.Solving.{IsEntryFor, IsEvidence}
use Rattle.shared_store.proofs.FittingLemmas.{small_where_found}
use Rattle.shared_store.proofs.LandLemmas.{has_flight, may_land}
use Rattle.shared_store.proofs.flights.fly.Goals as goal

-- the entry was made for the key
entry_for : (g : _) (c : goal.After-land-arg-1 g) → IsEntryFor c.args.budget c.args.key.now c.in-Ok-Decided.entry
entry_for g c =
    subst (IsEvidence c.args.budget c.args.key.now) c.in-Ok-Decided.field-0-is
    (c.in-Ok-Decided.ensures {u = tt}).evidence

pub land-requires-clause-may : goal.land-requires-clause-may
land-requires-clause-may g c =
    may_land c.args.key.now (length c.args.books.now.core.state.entries) c.args.books.now.core c.begin.new.core
    c.in-Ok-Decided.entry c.requires.landed (c.in_ok-begin.ensures {u = tt})
    (entry_for g c).decides

pub land_open-requires : goal.land_open-requires
land_open-requires g c =
    has_flight c.args.key.now (length c.args.books.now.core.state.entries) c.args.books.now.core c.begin.new.core
    c.requires.landed (c.in_ok-begin.ensures {u = tt})

pub finish-requires-clause-may : goal.finish-requires-clause-may
finish-requires-clause-may g c =
    has_flight c.args.key.now (length c.args.books.now.core.state.entries) c.args.books.now.core c.begin.new.core
    c.requires.landed (c.in_ok-begin.ensures {u = tt})

pub land-requires-clause-small : goal.land-requires-clause-small
land-requires-clause-small g c =
    small_where_found c.args.budget c.args.key.now c.in-Ok-Decided.entry c.requires.few
    c.entries_fit_frames.ensures.points c.entries_fit_frames.ensures.cores (entry_for g c).checked (entry_for g c).found
