use Rattle.std.proofs.Common.{◌≡◌, ◌++◌, take, flat_map}
use Rattle.std.specs.Prelude.{All}
use Rattle.lin_model.specs.Terms.{VarFits}
use Rattle.lin_text.specs.Spelling.{line, var_text}
use Rattle.lin_text.proofs.write.push_vars.Given as goal

-- the variables so far are written, and within the limits
abbrev pub invariant-loop-var : goal.invariant-loop-var
invariant-loop-var l = record {
  text : l.out.items ≡ l.fn.out.items ++ flat_map (λ v. line (var_text v)) (take l.var-index l.vars);
  fits : All VarFits (take l.var-index l.vars);
}
