use Rattle.std.proofs.Common.{◌≡◌, ◌++◌, take, flat_map}
use Rattle.std.specs.Prelude.{All}
use Rattle.lin_model.specs.Terms.{TermFits}
use Rattle.lin_text.specs.Spelling.{later_term, name_of}
use Rattle.lin_text.proofs.write.push_later_terms.Given as goal

-- the terms so far are written, and within the limits
abbrev pub invariant-loop-term : goal.invariant-loop-term
invariant-loop-term l = record {
  text : l.out.items ≡ l.fn.out.items ++ flat_map (later_term (name_of l.vars)) (take l.term-index l.terms);
  fits : All TermFits (take l.term-index l.terms);
}
