-- The faults of a query's text: for each kind at which tokens it stands, and which one is answered.
use Rattle.std.specs.Prelude.{◌≡◌, ℕ, ◌<◌, ◌≤◌, Bool, true, false, ◌⊎◌, List, [], ◌∷◌, ◌++◌, flat_map, count_by}
use Rattle.std.specs.Prelude.{Contains, IsTrue, IsFalse, MatchBool, ◌<ℤ◌}
use Rattle.lin_model.specs.declared.condition.TheConstants.{MAX_VARS, MAX_ATOMS}
use Rattle.lin_model.specs.declared.term.TheConstants.{MAX_FACTOR, MAX_CONSTANT, MAX_TERMS}
use Rattle.lin_model.specs.declared.var.TheConstants.{MAX_BOUND}
use Rattle.lin_text.specs.declared.class.Sign.{Sign}
use Rattle.lin_text.specs.declared.fault.TextKind.{TextKind}
use Rattle.lin_text.specs.declared.fault.TextKind.TheVariants.{Token, Syntax, NumberTooLarge, UnknownName, NameTwice}
use Rattle.lin_text.specs.declared.fault.TextKind.TheVariants.{EmptyRange, TooManyVars, TooManyAtoms, TooManyTerms}
use Rattle.lin_text.specs.declared.fault.TextKind.TheVariants.{NoMemory}
use Rattle.lin_text.specs.Pieces.{Piece, var, word, name, number, minus, times, compare, bad, line_end, PlainToken}
use Rattle.lin_text.specs.Pieces.{PlainLine, pieces}
use Rattle.lin_text.specs.Kinds.{rank}
use Rattle.lin_text.specs.FirstFaults.{IsFirst}
use Rattle.lin_text.specs.Grammar.{Integer, Side, integer_pieces, integer_value, side_pieces, item_count, joint}
use Rattle.lin_text.specs.Grammar.{Naming, number_among, BeginsLine}

-- a line that begins with the word `var`
abbrev pub begins_variable : List Piece → Bool
begins_variable (var ∷ ps) = true
begins_variable _ = false

-- a token, and no reserved word
abbrev pub begins_atom : Piece → Bool
begins_atom var = false
begins_atom (word w) = false
begins_atom bad = false
begins_atom line_end = false
begins_atom _ = true

-- a line that begins with a token other than a reserved word
abbrev pub begins_comparison : List Piece → Bool
begins_comparison [] = false
begins_comparison (p ∷ ps) = begins_atom p

-- a token with which an item begins
abbrev pub begins_item : Piece → Bool
begins_item minus = true
begins_item (number n) = true
begins_item (name x) = true
begins_item _ = false

-- a `*` comes next
abbrev pub begins_times : List Piece → Bool
begins_times (times ∷ ps) = true
begins_times _ = false

-- the name that a line declares
abbrev pub declared_name : List Piece → List (List ℕ)
declared_name (var ∷ name x ∷ ps) = x ∷ []
declared_name _ = []

-- the names that the lines declare, in order
abbrev pub declared_names : List PlainLine → List (List ℕ)
declared_names = flat_map (λ line. declared_name (pieces line.tokens))

-- the number of a name that the lines declare
abbrev pub known : List PlainLine → Naming
known lines = number_among (declared_names lines)

-- how many lines declare variables
abbrev pub variable_count : List PlainLine → ℕ
variable_count = count_by (λ line. begins_variable (pieces line.tokens))

-- how many lines are comparisons for the limit
abbrev pub atom_count : List PlainLine → ℕ
atom_count = count_by (λ line. begins_comparison (pieces line.tokens))

-- a side begins behind these tokens: they are none, or a side and a comparison
abbrev pub EndsBeforeSide : List Piece → Type 0
EndsBeforeSide front = (front ≡ []) ⊎ ((left : Side) × (sign : Sign) × (front ≡ side_pieces left ++ compare sign ∷ []))

-- the tokens end with a side of as many items as may be and the sign of one more
pub record EndsInFullSide (front : List Piece) : Type 0 where
  pub before : List Piece
  pub side : Side
  pub subtracted : Bool
  pub starts : EndsBeforeSide before
  pub full : item_count side ≡ MAX_TERMS
  pub written : front ≡ before ++ side_pieces side ++ joint subtracted ∷ []

-- a bound above 2^31, a constant above 2^40, or a number above 2^31 that a `*` follows
abbrev pub IsTooLarge : List Piece → ℕ → List Piece → Type 0
IsTooLarge front n after =
    MatchBool (begins_variable front) (MAX_BOUND < n) (MAX_CONSTANT < n)
    ⊎ ((MAX_FACTOR < n) × IsTrue (begins_times after))

-- two integers, neither too large, the lower one above the upper one
pub record IsEmptyRange (ps : List Piece) : Type 0 where
  pub lo : Integer
  pub hi : Integer
  pub more : List Piece
  pub written : ps ≡ integer_pieces lo ++ integer_pieces hi ++ more
  pub lo_fits : lo.size ≤ MAX_BOUND
  pub hi_fits : hi.size ≤ MAX_BOUND
  pub empty : integer_value hi <ℤ integer_value lo

-- A fault of the kind stands at the token `p` of a line, which comes behind the tokens `front` of the line and before
-- the tokens `after`. These are the lines of the query above it.
abbrev pub Stands : List PlainLine → List Piece → Piece → List Piece → TextKind → Type 0
Stands above front p after TooManyVars = (front ≡ []) × (p ≡ var) × (variable_count above ≡ MAX_VARS)
Stands above front p after TooManyAtoms = (front ≡ []) × IsTrue (begins_atom p) × (atom_count above ≡ MAX_ATOMS)
Stands above front p after TooManyTerms = EndsInFullSide front × IsTrue (begins_item p)
Stands above front p after Token = p ≡ bad
Stands above front p after Syntax = ¬ BeginsLine (front ++ p ∷ [])
Stands above front p after NumberTooLarge = (n : ℕ) × (p ≡ number n) × IsTooLarge front n after
Stands above front p after UnknownName =
    (x : List ℕ) × (p ≡ name x) × IsFalse (begins_variable front) × ¬ Contains (declared_names above) x
Stands above front p after NameTwice =
    (x : List ℕ) × (p ≡ name x) × (front ≡ var ∷ []) × Contains (declared_names above) x
Stands above front p after EmptyRange = (x : List ℕ) × (front ≡ var ∷ name x ∷ []) × IsEmptyRange (p ∷ after)
Stands above front p after NoMemory = ⊥

-- a fault of the kind stands at this place of the lines of a query
pub record StandsAt (lines : List PlainLine) (kind : TextKind) (at : ℕ) : Type 0 where
  pub above : List PlainLine
  pub line : PlainLine
  pub below : List PlainLine
  pub front : List PlainToken
  pub token : PlainToken
  pub after : List PlainToken
  pub in_lines : lines ≡ above ++ line ∷ below
  pub in_line : line.tokens ≡ front ++ token ∷ after
  pub place : at ≡ token.from
  pub stands : Stands above (pieces front) token.piece (pieces after) kind

-- the fault that is answered: none stands at a place before it, and none that goes before it at its place
abbrev pub IsFirstFault : List PlainLine → TextKind → ℕ → Type 0
IsFirstFault lines = IsFirst rank (StandsAt lines)
