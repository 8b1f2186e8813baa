-- Laws of the lines and tokens of a text.
use Rattle.std.specs.Prelude.{◌≡◌, ℕ, ◌+◌, ◌<◌, ◌≤◌, Bool, false, List, ◌∷◌, ◌++◌, length, drop}
use Rattle.lin_text.specs.Lines.{line_end}
use Rattle.lin_text.specs.Pieces.{PlainToken, PlainLine, first_token, is_last, AreTokens, AreLines}

-- the token lies at the place or behind it, within the line, and has bytes unless it is the last of its line
pub record IsAhead (bytes : List ℕ) (at : ℕ) (token : PlainToken) : Type 0 where
  pub ahead : at ≤ token.from
  pub order : token.from ≤ token.to
  pub within : token.to ≤ line_end bytes at
  pub line : line_end bytes token.to ≡ line_end bytes at
  pub some : is_last token.piece ≡ false → token.from < token.to

-- What the lines and tokens of a text keep: the first token from a place on is ahead; each place up to the end has its
-- tokens and its lines, and there is one list of lines; the tokens of a line lie one behind the other, at or behind its
-- start and within the line; so do lines, at or behind the place from which they are read.
pub record LinesInOrder (in_proof : Bool) (bytes : List ℕ) : Type 0 where
  pub first_ahead : (at : ℕ) → IsAhead bytes at (first_token in_proof bytes at)
  pub has_tokens : (at : ℕ) → at ≤ length bytes → (tokens : List PlainToken) × AreTokens in_proof bytes at tokens
  pub has_lines : (at : ℕ) → at ≤ length bytes → (lines : List PlainLine) × AreLines in_proof bytes at lines
  pub lines_once : (at : ℕ) (lines others : List PlainLine) → AreLines in_proof bytes at lines
      → AreLines in_proof bytes at others → lines ≡ others
  pub token_within : (at : ℕ) (tokens front after : List PlainToken) (token : PlainToken)
      → AreTokens in_proof bytes at tokens → tokens ≡ front ++ token ∷ after
      → (at ≤ token.from) × (token.from ≤ line_end bytes at)
  pub token_later : (at : ℕ) (tokens front between after : List PlainToken) (token later : PlainToken)
      → AreTokens in_proof bytes at tokens → tokens ≡ front ++ token ∷ (between ++ later ∷ after)
      → token.from < later.from
  pub line_behind : (at : ℕ) (lines above below : List PlainLine) (line : PlainLine) → AreLines in_proof bytes at lines
      → lines ≡ above ++ line ∷ below → (at ≤ line.start) × (line.start < length bytes)
      × AreTokens in_proof bytes line.start line.tokens
  pub line_later : (at : ℕ) (lines above between below : List PlainLine) (line later : PlainLine)
      → AreLines in_proof bytes at lines → lines ≡ above ++ line ∷ (between ++ later ∷ below) → line.start < later.start

-- so it is in every text
abbrev pub LinesAreInOrder : Type 0
LinesAreInOrder = (in_proof : Bool) (bytes : List ℕ) → LinesInOrder in_proof bytes

-- the same token so many places further on
abbrev pub moved_by : ℕ → PlainToken → PlainToken
moved_by places token = record { from = places + token.from; to = places + token.to; piece = token.piece }

-- the first token from a place on is the first token of what stands there, moved by the place
abbrev pub TokensMoveWithTheirText : Type 0
TokensMoveWithTheirText = (in_proof : Bool) (bytes : List ℕ) (at : ℕ)
    → first_token in_proof bytes at ≡ moved_by at (first_token in_proof (drop at bytes) 0)
