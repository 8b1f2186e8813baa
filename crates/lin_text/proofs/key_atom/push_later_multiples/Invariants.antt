use Rattle.std.proofs.Common.{◌≡◌, ◌++◌, take, flat_map}
use Rattle.lin_text.specs.Spelling.{later_term}
use Rattle.lin_text.specs.KeyAtoms.{key_name, side_term}
use Rattle.lin_text.proofs.key_atom.push_later_multiples.Given as goal

-- the terms so far are written
abbrev pub invariant-loop-term : goal.invariant-loop-term
invariant-loop-term l = l.out.items
    ≡ l.fn.out.items ++ flat_map (λ t. later_term key_name (side_term t)) (take l.term-index l.terms)
