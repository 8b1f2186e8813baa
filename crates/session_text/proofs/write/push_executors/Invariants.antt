use Rattle.std.proofs.Common.{◌≡◌, ◌++◌, take, flat_map}
use Rattle.std.specs.Prelude.{All}
use Rattle.lin_model.specs.Conditions.{IsCondition}
use Rattle.session_text.specs.Spelling.{executor_text}
use Rattle.session_text.proofs.write.push_executors.Given as goal

-- the executors so far are written, and their conditions within the limits
abbrev pub invariant-loop-script : goal.invariant-loop-script
invariant-loop-script l = record {
  text : l.out.items ≡ l.fn.out.items ++ flat_map executor_text (take l.script-index l.scripts);
  fits : All (All IsCondition) (take l.script-index l.scripts);
}
