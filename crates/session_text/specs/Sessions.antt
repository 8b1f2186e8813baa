-- What a text has to be to spell a session.
use Rattle.std.specs.Prelude.{◌≡◌, ℕ, false, List, [], ◌∷◌, length}
use Rattle.lin_model.specs.Conditions.{PlainCondition, IsSession}
use Rattle.lin_text.specs.Lines.{line_from, line_below}
use Rattle.lin_text.specs.Queries.{Spells}
use Rattle.session_text.specs.Words.{executor_word, query_word, end_word, IsHeader, IsWordLine}

-- a query line, and then lines that spell the condition, up to `stop`
pub record IsQuery (bytes : List ℕ) (at : ℕ) (q : PlainCondition) (stop : ℕ) : Type 0 where
  pub below : ℕ
  pub line : IsWordLine query_word bytes at below
  pub spelled : Spells false bytes below q stop

-- these queries, one behind the other
abbrev pub AreQueries : List ℕ → ℕ → List PlainCondition → ℕ → Type 0
AreQueries bytes at [] stop = stop ≡ at
AreQueries bytes at (q ∷ queries) stop = (next : ℕ) × IsQuery bytes at q next × AreQueries bytes next queries stop

-- an executor line, and then its queries
pub record IsExecutor (bytes : List ℕ) (at : ℕ) (queries : List PlainCondition) (stop : ℕ) : Type 0 where
  pub below : ℕ
  pub line : IsWordLine executor_word bytes at below
  pub asked : AreQueries bytes below queries stop

-- these executors, one behind the other
abbrev pub AreExecutors : List ℕ → ℕ → List (List PlainCondition) → ℕ → Type 0
AreExecutors bytes at [] stop = stop ≡ at
AreExecutors bytes at (queries ∷ executors) stop =
    (next : ℕ) × IsExecutor bytes at queries next × AreExecutors bytes next executors stop

-- the end line, and then skipped lines alone, up to the end of the input
pub record IsEnd (bytes : List ℕ) (at : ℕ) : Type 0 where
  pub below : ℕ
  pub line : IsWordLine end_word bytes at below
  pub whole : line_from bytes below ≡ length bytes

-- where the lines below the header begin
abbrev pub body_of : List ℕ → ℕ
body_of bytes = line_below bytes (line_from bytes 0)

-- the whole text spells the session: the header, the executors with their queries, and the end line
pub record SpellsSession (bytes : List ℕ) (executors : List (List PlainCondition)) : Type 0 where
  pub header : IsHeader bytes (line_from bytes 0)
  pub stop : ℕ
  pub are : AreExecutors bytes (body_of bytes) executors stop
  pub ended : IsEnd bytes stop
  pub fits : IsSession executors
