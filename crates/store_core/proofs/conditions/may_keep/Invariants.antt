use Rattle.store_core.proofs.conditions.may_keep.Given as goal

-- the ledger of the blank that is passed
abbrev pub ghosts-decides_by : goal.ghosts-decides_by
ghosts-decides_by a = record { name = a.blank.name; parts = a.blank.parts }
