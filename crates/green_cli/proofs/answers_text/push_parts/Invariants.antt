use Rattle.std.proofs.Common.{◌≡◌, ◌++◌, drop}
use Rattle.green_cli.specs.AnswersText.{parts_text}
use Rattle.green_cli.proofs.answers_text.push_parts.Given as goal

-- what is written and what is left make the whole
abbrev pub invariant-loop-part : goal.invariant-loop-part
invariant-loop-part l = l.out.items ++ parts_text (drop l.part-index l.parts) ≡ l.fn.out.items ++ parts_text l.parts
