use Rattle.std.proofs.Common.{length, take}
use Rattle.std.specs.List.{AllPairs}
use Rattle.atom_implies.specs.Implies.{Implies, Covers}
use Rattle.canoniser.specs.Parts.{IsPartOf}
use Rattle.canoniser.proofs.implied.without_implied.Given as goal

-- what stays of the atoms so far
abbrev pub invariant-loop-atom : goal.invariant-loop-atom
invariant-loop-atom g l = record {
  can : (goal.iterator-loop-atom g).can_next l.atom-iterator;
  finite : (goal.iterator-loop-atom g).is_finite l.atom-iterator;
  part : IsPartOf l.kept.items (take (length l.yielded) l.fn.atoms.items);
  covers : Covers l.kept.items (take (length l.yielded) l.fn.atoms.items);
  apart : AllPairs (λ a b. ¬ Implies a b) l.kept.items;
}
