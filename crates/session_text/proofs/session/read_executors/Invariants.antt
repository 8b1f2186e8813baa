use Rattle.std.proofs.Common.{◌≡◌, ◌-◌, ◌≤◌, length}
use Rattle.std.specs.Prelude.{sum_by}
use Rattle.lin_text.specs.Lines.{StartsLine, line_from}
use Rattle.lin_text.specs.Pieces.{word}
use Rattle.session_text.specs.Words.{token_at, query_word}
use Rattle.session_text.specs.Sessions.{AreExecutors}
use Rattle.session_text.proofs.session.read_executors.Given as goal

-- the executors before the place were read
abbrev pub invariant-loop-alloc : goal.invariant-loop-alloc
invariant-loop-alloc l = record {
  starts : StartsLine l.bytes l.stop;
  read : AreExecutors l.bytes l.start l.scripts.items l.stop;
  executors : l.counts.executors ≡ length l.scripts.items;
  queries : l.counts.queries ≡ sum_by length l.scripts.items;
  few_executors : l.counts.executors ≤ 64;
  few_queries : l.counts.queries ≤ 100000;
  no_query : (token_at l.bytes (line_from l.bytes l.stop)).piece ≡ word query_word → l.counts.executors ≡ 0;
}

abbrev pub decreases-loop-alloc : goal.decreases-loop-alloc
decreases-loop-alloc l = length l.bytes - l.stop
