use Rattle.std.proofs.Common.{◌≡◌, ◌++◌, take, flat_map}
use Rattle.std.specs.Prelude.{All}
use Rattle.lin_model.specs.Conditions.{AtomFits}
use Rattle.lin_text.specs.Spelling.{line, atom_text}
use Rattle.lin_text.proofs.write.push_atoms.Given as goal

-- the comparisons so far are written, and within the limits
abbrev pub invariant-loop-atom : goal.invariant-loop-atom
invariant-loop-atom l = record {
  text : l.out.items ≡ l.fn.out.items ++ flat_map (λ a. line (atom_text l.vars a)) (take l.atom-index l.atoms);
  fits : All AtomFits (take l.atom-index l.atoms);
}
