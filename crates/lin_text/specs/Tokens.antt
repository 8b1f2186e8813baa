-- The forms of tokens, and the longest match.
use Rattle.std.specs.Prelude.{ℕ, ◌+◌, ◌<◌, ◌≤◌, nat_lt, Bool, false, ◌||◌, ◌&&◌, ◌==◌, ◌⊎◌, List, [], ◌∷◌, length, take}
use Rattle.std.specs.Prelude.{drop, slice_index, All, Contains, IsTrue, codes, if◌then◌else◌}
use Rattle.std.specs.List.{prefix_len}
use Rattle.lin_model.specs.declared.name.TheConstants.{MAX_NAME}
use Rattle.lin_model.specs.Names.{is_name_start, is_name_byte, is_digit}
use Rattle.lin_text.specs.Lines.{is_feed, is_blank}
use Rattle.lin_text.specs.declared.token.Token.{Token}
use Rattle.lin_text.specs.declared.token.TokenKind.{TokenKind}
use Rattle.lin_text.specs.declared.token.TokenKind.TheVariants.{Name, Number, Symbol, Bad, LineEnd}

-- what begins a name, and then bytes with which a name goes on
pub record IsNameForm (text : List ℕ) : Type 0 where
  pub some : 1 ≤ length text
  pub starts : IsTrue (is_name_start (slice_index text 0))
  pub goes_on : All (λ b. IsTrue (is_name_byte b)) text

-- one or more digits
pub record IsNumberForm (text : List ℕ) : Type 0 where
  pub some : 1 ≤ length text
  pub digits : All (λ b. IsTrue (is_digit b)) text

-- the symbols
abbrev pub symbols : List (List ℕ)
symbols =
    codes "+" ∷ codes "-" ∷ codes "*" ∷ codes "<=" ∷ codes "<" ∷ codes ">=" ∷ codes ">" ∷ codes "=" ∷ codes "==" ∷ codes
    "!=" ∷ []

-- the text is a name, of any length, a number or a symbol
abbrev pub IsForm : List ℕ → Type 0
IsForm text = IsNameForm text ⊎ IsNumberForm text ⊎ Contains symbols text

-- the first n bytes are a token, and no more of them are one
pub record IsLongest (bytes : List ℕ) (n : ℕ) : Type 0 where
  pub within : n ≤ length bytes
  pub form : IsForm (take n bytes)
  pub longest : (m : ℕ) → n < m → m ≤ length bytes → ¬ IsForm (take m bytes)

-- `<`, `>`, `=` and `!` make a symbol with an `=` behind them
abbrev pub begins_pair : ℕ → Bool
begins_pair b = b == 60 || b == 62 || b == 61 || b == 33

-- a `=` comes next
abbrev pub begins_equal : List ℕ → Bool
begins_equal [] = false
begins_equal (b ∷ bs) = b == 61

-- `+`, `-`, `*`, `<`, `>` and `=` are symbols by themselves
abbrev pub is_symbol : ℕ → Bool
is_symbol b = b == 43 || b == 45 || b == 42 || b == 60 || b == 62 || b == 61

-- how long the symbol is that begins with the byte and goes on with the bytes; 0 where there is none
abbrev pub symbol_length : ℕ → List ℕ → ℕ
symbol_length b bs = if begins_pair b && begins_equal bs then 2 else (if is_symbol b then 1 else 0)

-- how long the longest token at the front is, a name of any length among them; 0 where there is none
unfoldable pub token_length : List ℕ → ℕ
token_length [] = 0
token_length (b ∷ bs) =
    if is_name_start b then 1 + prefix_len is_name_byte bs else
    (if is_digit b then 1 + prefix_len is_digit bs else symbol_length b bs)

-- the kind of the token that begins with the byte and is so long
abbrev pub kind_of : ℕ → ℕ → TokenKind
kind_of b n =
    if is_name_start b then (if nat_lt MAX_NAME n then Bad else Name) else
    (if is_digit b then Number else (if n == 0 then Bad else Symbol))

-- nothing more on the line, or a byte that begins no token
abbrev pub nothing_at : TokenKind → ℕ → Token
nothing_at kind at = record { kind = kind; from = at; to = at }

-- the token of this kind and length at a place
abbrev pub token_of : TokenKind → ℕ → ℕ → Token
token_of Bad at n = nothing_at Bad at
token_of kind at n = record { kind = kind; from = at; to = at + n }

-- what stands at a place that has no blank: these are the bytes from there on
unfoldable pub token_here : ℕ → List ℕ → Token
token_here at [] = nothing_at LineEnd at
token_here at (b ∷ bs) =
    if is_feed b then nothing_at LineEnd at else (let n = token_length (b ∷ bs) in token_of (kind_of b n) at n)

-- the first token from a place on, within its line
unfoldable pub token_from : List ℕ → ℕ → Token
token_from bytes at = let from = at + prefix_len is_blank (drop at bytes) in token_here from (drop from bytes)
