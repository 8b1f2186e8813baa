use Rattle.std.proofs.Common.{◌≤◌, false, length, drop}
use Rattle.refutation.specs.Reading.{read_over}
use Rattle.refutation.proofs.ReadingLemmas.{IsBehind}
use Rattle.refutation.proofs.checker.close_all.Given as goal

-- what is left is read as by the whole reading behind the nodes so far
abbrev pub invariant-loop-i : goal.invariant-loop-i
invariant-loop-i l = record {
  reading : IsBehind l.i (read_over false l.key (drop l.i l.nodes) (drop l.taken l.terms) l.walk)
      (read_over false l.key l.nodes l.terms l.initial.walk);
  within : l.taken ≤ length l.terms;
}
