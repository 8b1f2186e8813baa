use Rattle.std.proofs.Common.{◌≡◌, ◌+◌, ◌-◌, ◌≤◌, length}
use Rattle.lin_text.specs.Lines.{StartsLine}
use Rattle.session_text.specs.Sessions.{AreQueries}
use Rattle.session_text.proofs.query.read_script.Given as goal

-- the queries before the place were read
abbrev pub invariant-loop-alloc : goal.invariant-loop-alloc
invariant-loop-alloc l = record {
  starts : StartsLine l.bytes l.at;
  read : AreQueries l.bytes l.start l.queries.items l.at;
  executors : l.so_far.executors ≡ l.fn.counts.executors;
  queries : l.so_far.queries ≡ l.fn.counts.queries + length l.queries.items;
  few : l.so_far.queries ≤ 100000;
}

abbrev pub decreases-loop-alloc : goal.decreases-loop-alloc
decreases-loop-alloc l = length l.bytes - l.at
