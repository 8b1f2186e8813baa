-- What the reader sees of a token, and how it refuses one.
use Rattle.std.specs.Prelude.{ℕ, ◌==◌, List, bytes_eq, if◌then◌else◌}
use Rattle.lin_model.specs.declared.session.TheConstants.{MAX_EXECUTORS, MAX_QUERIES}
use Rattle.lin_text.specs.declared.fault.TextKind.{TextKind}
use Rattle.lin_text.specs.declared.fault.TextKind.TheVariants as texts
use Rattle.lin_text.specs.declared.fault.SessionKind.{SessionKind}
use Rattle.lin_text.specs.declared.fault.SessionKind.TheVariants as kinds
use Rattle.lin_text.specs.Pieces.{Piece, word, bad, line_end}
use Rattle.lin_text.specs.Kinds.{session_kind}
use Rattle.session_text.specs.declared.class.Class.{Class}
use Rattle.session_text.specs.declared.class.Class.TheVariants.{Executor, Query, End, Other, Bad, LineEnd}
use Rattle.session_text.specs.Words.{executor_word, query_word, end_word}

-- the class of a reserved word
abbrev pub class_of_word : List ℕ → Class
class_of_word w = if bytes_eq w executor_word then Executor else
    (if bytes_eq w query_word then Query else (if bytes_eq w end_word then End else Other))

-- the class of a token
abbrev pub class_of : Piece → Class
class_of (word w) = class_of_word w
class_of bad = Bad
class_of line_end = LineEnd
class_of _ = Other

-- the kind of the fault at a token that can't come next, before which the words came so often
abbrev pub refusal_kind : Class → ℕ → ℕ → SessionKind
refusal_kind Executor executors queries = if executors == MAX_EXECUTORS then kinds.TooManyExecutors else kinds.Syntax
refusal_kind Query executors queries = if queries == MAX_QUERIES then kinds.TooManyQueries else kinds.Syntax
refusal_kind Bad executors queries = kinds.Token
refusal_kind _ executors queries = kinds.Syntax

-- the kind of a fault in a query's text, at a token of this class: where the token can't come, it may be the word that
-- comes once too often
abbrev pub query_refusal : TextKind → Class → ℕ → ℕ → SessionKind
query_refusal texts.Syntax class executors queries = refusal_kind class executors queries
query_refusal kind class executors queries = session_kind kind
