-- What the reader sees of a token: its class, which leaves out the bytes of a name and of a word, and how large a large
-- number is.
use Rattle.std.specs.Prelude.{min}
use Rattle.lin_text.specs.declared.class.TheConstants.{TOO_LARGE}
use Rattle.lin_text.specs.declared.class.Class.{Class}
use Rattle.lin_text.specs.declared.class.Class.TheVariants.{Var, Word, Name, Number, Plus, Minus, Times, Compare, Bad}
use Rattle.lin_text.specs.declared.class.Class.TheVariants.{LineEnd}
use Rattle.lin_text.specs.declared.class.Lexeme.{Lexeme}
use Rattle.lin_text.specs.Pieces.{Piece, var, word, name, number, plus, minus, times, compare, bad, line_end}
use Rattle.lin_text.specs.Pieces.{PlainToken}

-- the class of a token; a number that is too large for any text is shown as the least such number
abbrev pub class_of : Piece → Class
class_of var = Var
class_of (word w) = Word
class_of (name x) = Name
class_of (number n) = Number (min n TOO_LARGE)
class_of plus = Plus
class_of minus = Minus
class_of times = Times
class_of (compare sign) = Compare sign
class_of bad = Bad
class_of line_end = LineEnd

-- a token as the reader sees it
abbrev pub shown : PlainToken → Lexeme
shown t = record { class = class_of t.piece; from = t.from; to = t.to }
