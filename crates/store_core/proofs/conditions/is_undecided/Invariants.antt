use Rattle.store_core.proofs.conditions.is_undecided.Given as goal

-- the ledger of the blank that is passed
abbrev pub ghosts-first_by : goal.ghosts-first_by
ghosts-first_by a = record { name = a.blank.name; parts = a.blank.parts }
