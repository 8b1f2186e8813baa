-- The plain spelling: the one text that is written for a session.
use Rattle.std.specs.Prelude.{ℕ, List, ◌++◌, flat_map, codes}
use Rattle.lin_model.specs.Conditions.{PlainCondition}
use Rattle.lin_text.specs.Spelling.{line, condition_text}

-- a query line, and the plain spelling of the condition
unfoldable pub query_text : PlainCondition → List ℕ
query_text q = line (codes "query") ++ condition_text q

-- an executor line, and the executor's queries
unfoldable pub executor_text : List PlainCondition → List ℕ
executor_text queries = line (codes "executor") ++ flat_map query_text queries

-- the header, the executors, and the end line
unfoldable pub session_text : List (List PlainCondition) → List ℕ
session_text executors = line (codes "green 1") ++ flat_map executor_text executors ++ line (codes "end")
