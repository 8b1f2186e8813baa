use Rattle.std.proofs.Common.{◌≡◌, ◌++◌, drop}
use Rattle.green_cli.specs.AnswersText.{model_text}
use Rattle.green_cli.proofs.answers_text.push_model.Given as goal

-- what is written and what is left make the whole
abbrev pub invariant-loop-i : goal.invariant-loop-i
invariant-loop-i l = l.out.items ++ model_text (drop l.i l.vars) (drop l.i l.values) ≡ l.fn.out.items ++ model_text
    l.vars l.values
