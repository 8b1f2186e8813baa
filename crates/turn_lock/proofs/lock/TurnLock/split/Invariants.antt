use Rattle.turn_lock.proofs.lock.TurnLock.split.Given as goal

-- the number that goes is the one asked for
abbrev pub ghosts-part : goal.ghosts-part
ghosts-part g a = record { number = a.number }
