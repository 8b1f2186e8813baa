-- The words of a session's own lines, and what stands on such a line.
use Rattle.std.specs.Prelude.{◌≡◌, ℕ, false, List, slice_range, codes}
use Rattle.lin_text.specs.Lines.{line_from, line_below}
use Rattle.lin_text.specs.Pieces.{word, line_end, PlainToken, first_token}

-- the first word of the header
unfoldable pub green_word : List ℕ
green_word = codes "green"

-- the word of an executor line
unfoldable pub executor_word : List ℕ
executor_word = codes "executor"

-- the word of a query line
unfoldable pub query_word : List ℕ
query_word = codes "query"

-- the word of the end line
unfoldable pub end_word : List ℕ
end_word = codes "end"

-- the number of the header, which is this token and no other spelling of it
unfoldable pub one_digit : List ℕ
one_digit = codes "1"

-- the first token from a place on, within its line
abbrev pub token_at : List ℕ → ℕ → PlainToken
token_at = first_token false

-- the bytes of a token
abbrev pub text_of : List ℕ → PlainToken → List ℕ
text_of bytes token = slice_range bytes token.from token.to

-- the second token of the line that starts here
abbrev pub second_at : List ℕ → ℕ → PlainToken
second_at bytes at = token_at bytes (token_at bytes at).to

-- the third one
abbrev pub third_at : List ℕ → ℕ → PlainToken
third_at bytes at = token_at bytes (second_at bytes at).to

-- the line that starts here is the header: `green`, `1`, and nothing more
pub record IsHeader (bytes : List ℕ) (at : ℕ) : Type 0 where
  pub green : text_of bytes (token_at bytes at) ≡ green_word
  pub one : text_of bytes (second_at bytes at) ≡ one_digit
  pub ends : (third_at bytes at).piece ≡ line_end

-- the first line from `at` on that isn't skipped has this word and nothing more; the line below it begins at `below`
pub record IsWordLine (w : List ℕ) (bytes : List ℕ) (at below : ℕ) : Type 0 where
  pub begins : (token_at bytes (line_from bytes at)).piece ≡ word w
  pub ends : (second_at bytes (line_from bytes at)).piece ≡ line_end
  pub next : below ≡ line_below bytes (line_from bytes at)

-- the first line from `at` on that isn't skipped begins with the word
abbrev pub BeginsWith : List ℕ → List ℕ → ℕ → Type 0
BeginsWith w bytes at = (token_at bytes (line_from bytes at)).piece ≡ word w
