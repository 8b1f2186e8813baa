use Rattle.std.proofs.Common.{◌≡◌, ◌^◌, ◌<◌, drop}
use Rattle.key_tree.specs.Prints.{hash_from, hash_of as form_hash}
use Rattle.key_tree.proofs.mask.hash_of.Given as goal

-- what is left of the form leads from the hash so far to that of the form
abbrev pub invariant-loop-term : goal.invariant-loop-term
invariant-loop-term l =
    (hash_from l.hash (drop l.term-index l.term-items) ≡ form_hash l.form) × (l.hash < 2 ^ 20)
