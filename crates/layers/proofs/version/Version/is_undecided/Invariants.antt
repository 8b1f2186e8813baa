use Rattle.layers.proofs.version.Version.is_undecided.Given as goal

-- the ledger of the blank that is passed
abbrev pub ghosts-first_by : goal.ghosts-first_by
ghosts-first_by a = record { name = a.blank.name; parts = a.blank.parts }
