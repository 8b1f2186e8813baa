use Rattle.store_rows.proofs.main.Given as goal

-- the ledger of the blank that is passed
abbrev pub ghosts-told : goal.ghosts-told
ghosts-told a = record { name = a.blank.name; parts = a.blank.parts }
