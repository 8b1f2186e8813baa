-- What a token means for the grammar, and the tokens of a line and of a text.
use Rattle.std.specs.Prelude.{◌≡◌, ℕ, ◌+◌, ◌-◌, ◌*◌, ◌<◌, fold, Bool, true, false, ◌||◌, ◌&&◌, List, [], ◌∷◌, length}
use Rattle.std.specs.Prelude.{map, slice_range, bytes_eq, codes, MatchBool, if◌then◌else◌}
use Rattle.lin_model.specs.Names.{is_reserved}
use Rattle.lin_model.specs.declared.atom.Cmp.{Cmp}
use Rattle.lin_model.specs.declared.atom.Cmp.TheVariants as cmps
use Rattle.lin_text.specs.declared.class.Sign.{Sign}
use Rattle.lin_text.specs.declared.class.Sign.TheVariants.{Le, Lt, Ge, Gt, Eq, DoubleEq, Ne}
use Rattle.lin_text.specs.declared.token.Token.{Token}
use Rattle.lin_text.specs.declared.token.TokenKind.{TokenKind}
use Rattle.lin_text.specs.declared.token.TokenKind.TheVariants.{Name, Number, Symbol, Bad, LineEnd}
use Rattle.lin_text.specs.Lines.{line_from, line_below}
use Rattle.lin_text.specs.Tokens.{token_from}

-- a token as the grammar sees it; a line ends with `bad` or with `line_end`
pub data Piece : Type 0 where
  var : Piece
  word : List ℕ → Piece
  name : List ℕ → Piece
  number : ℕ → Piece
  plus : Piece
  minus : Piece
  times : Piece
  compare : Sign → Piece
  bad : Piece
  line_end : Piece

-- the words that are no names in a proof text besides
abbrev pub is_claim_word : List ℕ → Bool
is_claim_word text = bytes_eq text (codes "answer") || bytes_eq text (codes "core") || bytes_eq text (codes "node")

-- the words that are no names
abbrev pub is_word : Bool → List ℕ → Bool
is_word in_proof text = is_reserved text || (in_proof && is_claim_word text)

-- what a name or a word is
unfoldable pub name_piece : Bool → List ℕ → Piece
name_piece in_proof text =
    if bytes_eq text (codes "var") then var else (if is_word in_proof text then word text else name text)

-- how a sign compares
abbrev pub cmp_of : Sign → Cmp
cmp_of Le = cmps.Le
cmp_of Lt = cmps.Lt
cmp_of Ge = cmps.Ge
cmp_of Gt = cmps.Gt
cmp_of Eq = cmps.Eq
cmp_of DoubleEq = cmps.Eq
cmp_of Ne = cmps.Ne

-- which sign a symbol is that is none of the others
abbrev pub sign_of : List ℕ → Sign
sign_of text =
    if bytes_eq text (codes "<=") then Le else
    (if bytes_eq text (codes "<") then Lt else
    (if bytes_eq text (codes ">=") then Ge else
    (if bytes_eq text (codes ">") then Gt else
    (if bytes_eq text (codes "!=") then Ne else
    (if bytes_eq text (codes "==") then DoubleEq else Eq)))))

-- what a symbol is
unfoldable pub symbol_piece : List ℕ → Piece
symbol_piece text =
    if bytes_eq text (codes "+") then plus else
    (if bytes_eq text (codes "-") then minus else
    (if bytes_eq text (codes "*") then times else compare (sign_of text)))

-- the number that the digits are
abbrev pub number_of : List ℕ → ℕ
number_of = fold (λ n digit. 10 * n + (digit - 48)) 0

-- what a token of this kind and with these bytes is
unfoldable pub piece_of : Bool → TokenKind → List ℕ → Piece
piece_of in_proof Name text = name_piece in_proof text
piece_of in_proof Number text = number (number_of text)
piece_of in_proof Symbol text = symbol_piece text
piece_of in_proof Bad text = bad
piece_of in_proof LineEnd text = line_end

-- a token of a text: from which place to which, and what it is
pub record PlainToken : Type 0 where
  pub from : ℕ
  pub to : ℕ
  pub piece : Piece

-- a token of a text, with what it is
unfoldable pub plain_token : Bool → List ℕ → Token → PlainToken
plain_token in_proof bytes t = record {
  from = t.from;
  to = t.to;
  piece = piece_of in_proof t.kind (slice_range bytes t.from t.to);
}

-- the first token from a place on
abbrev pub first_token : Bool → List ℕ → ℕ → PlainToken
first_token in_proof bytes at = plain_token in_proof bytes (token_from bytes at)

-- nothing on the line comes behind it
abbrev pub is_last : Piece → Bool
is_last bad = true
is_last line_end = true
is_last _ = false

-- the tokens from a place on to the end of its line, which comes last, or to what is no token
abbrev pub AreTokens : Bool → List ℕ → ℕ → List PlainToken → Type 0
AreTokens in_proof bytes at [] = ⊥
AreTokens in_proof bytes at (t ∷ ts) =
    (t ≡ first_token in_proof bytes at) × MatchBool (is_last t.piece) (ts ≡ []) (AreTokens in_proof bytes t.to ts)

-- a line that isn't skipped: where it starts, and its tokens
pub record PlainLine : Type 0 where
  pub start : ℕ
  pub tokens : List PlainToken

-- what each token is
abbrev pub pieces : List PlainToken → List Piece
pieces = map (λ t. t.piece)

-- the lines that aren't skipped, from a place at which a line begins to the end of the input
abbrev pub AreLines : Bool → List ℕ → ℕ → List PlainLine → Type 0
AreLines in_proof bytes at [] = line_from bytes at ≡ length bytes
AreLines in_proof bytes at (line ∷ lines) =
    (line.start ≡ line_from bytes at) × (line.start < length bytes) × AreTokens in_proof bytes line.start line.tokens
    × AreLines in_proof bytes (line_below bytes line.start) lines
