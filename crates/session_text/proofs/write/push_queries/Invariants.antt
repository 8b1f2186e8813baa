use Rattle.std.proofs.Common.{◌≡◌, ◌++◌, take, flat_map}
use Rattle.std.specs.Prelude.{All}
use Rattle.lin_model.specs.Conditions.{IsCondition}
use Rattle.session_text.specs.Spelling.{query_text}
use Rattle.session_text.proofs.write.push_queries.Given as goal

-- the queries so far are written, and they are within the limits
abbrev pub invariant-loop-query : goal.invariant-loop-query
invariant-loop-query l = record {
  text : l.out.items ≡ l.fn.out.items ++ flat_map query_text (take l.query-index l.queries);
  fits : All IsCondition (take l.query-index l.queries);
}
