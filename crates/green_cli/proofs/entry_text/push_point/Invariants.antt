use Rattle.std.proofs.Common.{◌≡◌, ◌++◌, drop}
use Rattle.green_cli.specs.DumpText.{point_text}
use Rattle.green_cli.proofs.entry_text.push_point.Given as goal

-- what is written and what is left make the whole
abbrev pub invariant-loop-var : goal.invariant-loop-var
invariant-loop-var l =
    l.out.items ++ point_text l.var (drop l.var l.values) ≡ l.fn.out.items ++ point_text 0 l.values
