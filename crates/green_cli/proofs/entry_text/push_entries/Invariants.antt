use Rattle.std.proofs.Common.{◌≡◌, ◌++◌, drop}
use Rattle.green_cli.specs.DumpText.{entries_text}
use Rattle.green_cli.proofs.entry_text.push_entries.Given as goal

-- what is written and what is left make the whole
abbrev pub invariant-loop-place : goal.invariant-loop-place
invariant-loop-place l =
    l.out.items ++ entries_text l.place (drop l.place l.entries) ≡ l.fn.out.items ++ entries_text 0 l.entries
