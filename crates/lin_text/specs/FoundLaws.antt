-- Laws of what is found in a text: which line comes next, and which token.
use Rattle.std.specs.Prelude.{◌≡◌, ℕ, ◌-◌, ◌<◌, ◌≤◌, false, ◌⊎◌, List, [], ◌∷◌, ◌++◌, length, take, drop, slice_range}
use Rattle.std.specs.Prelude.{All}
use Rattle.std.specs.Prelude.{Contains, IsTrue}
use Rattle.lin_model.specs.declared.name.TheConstants.{MAX_NAME}
use Rattle.lin_text.specs.declared.token.Token.{Token}
use Rattle.lin_text.specs.declared.token.TokenKind.{TokenKind}
use Rattle.lin_text.specs.declared.token.TokenKind.TheVariants.{Name, Number, Symbol, Bad, LineEnd}
use Rattle.lin_text.specs.Lines.{is_blank, line_from, StartsLine}
use Rattle.lin_text.specs.Tokens.{IsNameForm, IsNumberForm, symbols, IsForm, IsLongest, token_from}

-- nothing more stands on the line that goes on with these bytes
abbrev pub IsOver : List ℕ → Type 0
IsOver text = (text ≡ []) ⊎ ((below : List ℕ) × (text ≡ 10 ∷ below))

-- the line that begins with these bytes is skipped: behind its blanks nothing more stands on it, or a `#` comes
pub record IsSkippedLine (text : List ℕ) : Type 0 where
  pub blanks : List ℕ
  pub rest : List ℕ
  pub is : text ≡ blanks ++ rest
  pub blank : All (λ b. IsTrue (is_blank b)) blanks
  pub skips : IsOver rest ⊎ ((comment : List ℕ) × (rest ≡ 35 ∷ comment))

-- the place is the least start of a line at or behind another place that isn't skipped, else the length of the input
pub record IsNextLine (bytes : List ℕ) (at next : ℕ) : Type 0 where
  pub ahead : at ≤ next
  pub starts : StartsLine bytes next
  pub counts : next < length bytes → ¬ IsSkippedLine (drop next bytes)
  pub least : (place : ℕ) → at ≤ place → place < next → StartsLine bytes place → IsSkippedLine (drop place bytes)

-- the line that is found is the next one
abbrev pub LinesAreNext : Type 0
LinesAreNext = (bytes : List ℕ) (at : ℕ) → StartsLine bytes at → IsNextLine bytes at (line_from bytes at)

-- no token begins with these bytes: none of their fronts is one, or the longest is a name of more than 64 bytes
abbrev pub BeginsNone : List ℕ → Type 0
BeginsNone text = ((n : ℕ) → n ≤ length text → ¬ IsForm (take n text))
    ⊎ ((n : ℕ) × IsLongest text n × IsNameForm (take n text) × (MAX_NAME < n))

-- the token at the front of these bytes has this kind and takes n of them
abbrev pub IsOfKind : TokenKind → List ℕ → ℕ → Type 0
IsOfKind Name text n = IsLongest text n × IsNameForm (take n text) × (n ≤ MAX_NAME)
IsOfKind Number text n = IsLongest text n × IsNumberForm (take n text)
IsOfKind Symbol text n = IsLongest text n × Contains symbols (take n text)
IsOfKind Bad text n = (n ≡ 0) × ¬ IsOver text × BeginsNone text
IsOfKind LineEnd text n = (n ≡ 0) × IsOver text

-- the token stands behind blanks alone and is of its kind; where the line is over it is its end, and where no token
-- begins it is none
pub record IsNextToken (bytes : List ℕ) (at : ℕ) (token : Token) : Type 0 where
  pub ahead : at ≤ token.from
  pub blanks : All (λ b. IsTrue (is_blank b)) (slice_range bytes at token.from)
  pub stops : (b : ℕ) (bs : List ℕ) → drop token.from bytes ≡ b ∷ bs → is_blank b ≡ false
  pub order : token.from ≤ token.to
  pub kind : IsOfKind token.kind (drop token.from bytes) (token.to - token.from)
  pub over : IsOver (drop token.from bytes) → token.kind ≡ LineEnd
  pub none : ¬ IsOver (drop token.from bytes) → BeginsNone (drop token.from bytes) → token.kind ≡ Bad

-- the token that is found is the next one
abbrev pub TokensAreNext : Type 0
TokensAreNext = (bytes : List ℕ) (at : ℕ) → IsNextToken bytes at (token_from bytes at)
