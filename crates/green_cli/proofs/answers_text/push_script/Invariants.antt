use Rattle.std.proofs.Common.{◌≡◌, ◌++◌, drop}
use Rattle.green_cli.specs.AnswersText.{script_text}
use Rattle.green_cli.proofs.answers_text.push_script.Given as goal

-- what is written and what is left make the whole
abbrev pub invariant-loop-i : goal.invariant-loop-i
invariant-loop-i l =
    l.out.items ++ script_text (drop l.i l.queries) (drop l.i l.answers) ≡ l.fn.out.items
    ++ script_text l.queries l.answers
