-- The faults of a session's text: at which tokens each kind stands, and which fault is answered.
use Rattle.std.specs.Prelude.{◌≡◌, ◌≢◌, ℕ, ◌+◌, Bool, false, ◌⊎◌, List, [], ◌∷◌, ◌++◌, count_by}
use Rattle.std.specs.Prelude.{bytes_eq, Option, Some, None, MatchOption, if◌then◌else◌}
use Rattle.lin_model.specs.declared.session.TheConstants.{MAX_EXECUTORS, MAX_QUERIES}
use Rattle.lin_text.specs.declared.fault.TextKind.{TextKind}
use Rattle.lin_text.specs.declared.fault.SessionKind.{SessionKind}
use Rattle.lin_text.specs.declared.fault.SessionKind.TheVariants.{BadHeader, TooManyExecutors, TooManyQueries, NoEnd}
use Rattle.lin_text.specs.declared.fault.SessionKind.TheVariants.{Token, Syntax}
use Rattle.lin_text.specs.Lines.{line_from}
use Rattle.lin_text.specs.Pieces.{Piece, word, bad, line_end, PlainLine, pieces, AreLines}
use Rattle.lin_text.specs.Kinds.{session_kind, session_rank}
use Rattle.lin_text.specs.FirstFaults.{Rules, StandsIn, IsFirst}
use Rattle.lin_text.specs.Faults.{Stands as QueryStands}
use Rattle.lin_text.specs.Queries.{begins_word}
use Rattle.session_text.specs.Words.{executor_word, query_word, end_word, token_at, IsHeader}
use Rattle.session_text.specs.Sessions.{body_of}

-- what came last above a line: the header, an executor line, a query line and these lines of the query, or the end line
pub data Part : Type 0 where
  header : Part
  executor : Part
  query : List PlainLine → Part
  ended : Part

-- what came above a line: the part, and how often the words `executor` and `query` came, wherever they stood
pub record Seen : Type 0 where
  pub part : Part
  pub executors : ℕ
  pub queries : ℕ

-- the token is this word
abbrev pub is_the_word : List ℕ → Piece → Bool
is_the_word w (word x) = bytes_eq x w
is_the_word w _ = false

-- how many of the tokens are this word
abbrev pub count_of : List ℕ → List Piece → ℕ
count_of w = count_by (is_the_word w)

-- the word with which the tokens begin
abbrev pub first_word : List Piece → List ℕ
first_word (word w ∷ ps) = w
first_word _ = []

-- the part below a line that begins with a word; nothing may come below the end line, nor below another word, at which
-- a fault stands
abbrev pub part_of_word : List ℕ → Part
part_of_word w = if bytes_eq w executor_word then executor else (if bytes_eq w query_word then query [] else ended)

-- the part below another line
abbrev pub part_with : Part → PlainLine → Part
part_with (query above) line = query (above ++ line ∷ [])
part_with part line = part

-- the part below a line
abbrev pub part_below : Part → PlainLine → Part
part_below part line =
    if begins_word (pieces line.tokens) then part_of_word (first_word (pieces line.tokens)) else part_with part line

-- what was seen above the line below
abbrev pub seen_below : Seen → PlainLine → Seen
seen_below seen line = record {
  part = part_below seen.part line;
  executors = seen.executors + count_of executor_word (pieces line.tokens);
  queries = seen.queries + count_of query_word (pieces line.tokens);
}

-- the words that may begin a line of the session's own
abbrev pub MayBegin : Part → List ℕ → Type 0
MayBegin header w = (w ≡ executor_word) ⊎ (w ≡ end_word)
MayBegin executor w = (w ≡ executor_word) ⊎ (w ≡ query_word) ⊎ (w ≡ end_word)
MayBegin (query above) w = (w ≡ executor_word) ⊎ (w ≡ query_word) ⊎ (w ≡ end_word)
MayBegin ended w = ⊥

-- the tokens begin a line of the session's own that may come: a word, and the line's end
pub record CanCome (part : Part) (ps : List Piece) : Type 0 where
  pub w : List ℕ
  pub may : MayBegin part w
  pub more : List Piece
  pub written : word w ∷ line_end ∷ [] ≡ ps ++ more

-- the lines of the query above a line, where the line belongs to a query: no reserved word but `var` begins it
abbrev pub query_above : Part → List Piece → Option (List PlainLine)
query_above (query above) ps = if begins_word ps then None else Some above
query_above part ps = None

-- the token `p` is the 65th word `executor` or the 100,001st word `query`; `front` are the tokens before it on its line
abbrev pub IsOneTooMany : Seen → List Piece → Piece → SessionKind → Type 0
IsOneTooMany seen front p kind =
    ((kind ≡ TooManyExecutors) × (p ≡ word executor_word)
    × (seen.executors + count_of executor_word front ≡ MAX_EXECUTORS))
    ⊎ ((kind ≡ TooManyQueries) × (p ≡ word query_word) × (seen.queries + count_of query_word front ≡ MAX_QUERIES))

-- the token is none, or can't come next in a line of the session's own
abbrev pub CantCome : Part → List Piece → Piece → SessionKind → Type 0
CantCome part front p kind = ((kind ≡ Token) × (p ≡ bad)) ⊎ ((kind ≡ Syntax) × ¬ CanCome part (front ++ p ∷ []))

-- a fault of a query's text, below these lines of the query
abbrev pub IsOfQuery : List PlainLine → List Piece → Piece → List Piece → SessionKind → Type 0
IsOfQuery above front p after kind = (k : TextKind) × (kind ≡ session_kind k) × QueryStands above front p after k

-- a fault of the kind stands in a line of these tokens at the token `p`
abbrev pub Stands : Seen → List Piece → List Piece → Piece → List Piece → SessionKind → Type 0
Stands seen ps front p after kind = IsOneTooMany seen front p kind
    ⊎ MatchOption (query_above seen.part ps) (CantCome seen.part front p kind)
    (λ above. IsOfQuery above front p after kind)

-- the faults of a session's text below its header; at the end of the text it is one that no end line came
abbrev pub rules : Rules Seen SessionKind
rules = record {
  below = seen_below;
  stands = Stands;
  at_end = λ seen kind. (kind ≡ NoEnd) × (seen.part ≢ ended);
  rank = session_rank;
}

-- below the header nothing was seen
abbrev pub nothing_seen : Seen
nothing_seen = record { part = header; executors = 0; queries = 0 }

-- The first line isn't the header: the fault stands at its first byte that isn't blank, or at the input's end where
-- there is no line. Whatever else may be wrong with that line stands there or behind.
pub record IsBadHeader (bytes : List ℕ) (kind : SessionKind) (at : ℕ) : Type 0 where
  pub other : ¬ IsHeader bytes (line_from bytes 0)
  pub is : kind ≡ BadHeader
  pub place : at ≡ (token_at bytes (line_from bytes 0)).from

-- a fault of the kind stands at this place of the text, which has these lines below the first
abbrev pub StandsAt : List ℕ → List PlainLine → SessionKind → ℕ → Type 0
StandsAt bytes lines kind at = IsBadHeader bytes kind at ⊎ StandsIn rules bytes nothing_seen lines kind at

-- the fault of a text
pub record HasFault (bytes : List ℕ) (kind : SessionKind) (place : ℕ) : Type 0 where
  pub lines : List PlainLine
  pub are : AreLines false bytes (body_of bytes) lines
  pub first : IsFirst session_rank (StandsAt bytes lines) kind place
