use Rattle.canoniser.proofs.strongest.strongest.Given as goal

-- the ledger of the blank that is passed
abbrev pub ghosts-unimplied : goal.ghosts-unimplied
ghosts-unimplied a = record { name = a.blank.name; parts = a.blank.parts }
