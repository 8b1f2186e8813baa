use Rattle.std.proofs.Common.{◌≡◌, take}
use Rattle.cert_check.specs.Asks.{AsksAll}
use Rattle.pipeline.specs.Answers.{NoneHasCore}
use Rattle.pipeline.specs.Asking.{keys_to_ask}
use Rattle.pipeline.proofs.asking.ask_keys.Given as goal

-- the slices so far were asked, and no reply has a core
abbrev pub invariant-loop-slice : goal.invariant-loop-slice
invariant-loop-slice g l = record {
  asks : AsksAll (g.O.SliceOracle.budget l.fn.oracle) (take l.slice-index (keys_to_ask l.slices)) l.replies
      (g.O.SliceOracle.seat l.fn.oracle) (g.O.SliceOracle.seat l.oracle);
  no_core : NoneHasCore l.replies;
  budget : g.O.SliceOracle.budget l.oracle ≡ g.O.SliceOracle.budget l.fn.oracle;
  origin : g.O.SliceOracle.origin l.oracle ≡ g.O.SliceOracle.origin l.fn.oracle;
}
