use Rattle.std.proofs.Common.{◌≡◌, ◌++◌, drop}
use Rattle.green_cli.specs.AnswersText.{executors_text}
use Rattle.green_cli.proofs.answers_text.push_executors.Given as goal

-- what is written and what is left make the whole
abbrev pub invariant-loop-i : goal.invariant-loop-i
invariant-loop-i l = l.out.items ++ executors_text (drop l.i l.executors)
    (drop l.i l.scripts) ≡ l.fn.out.items ++ executors_text l.executors l.scripts
