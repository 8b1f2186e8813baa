use Rattle.std.proofs.Common.{◌≡◌, ◌++◌, take, flat_map}
use Rattle.green_cli.specs.DumpText.{term_text}
use Rattle.green_cli.proofs.node_text.push_terms.Given as goal

-- the terms so far are written
abbrev pub invariant-loop-term : goal.invariant-loop-term
invariant-loop-term l = l.out.items ≡ l.fn.out.items ++ flat_map term_text (take l.term-index l.terms)
