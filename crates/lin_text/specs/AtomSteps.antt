-- What each token does to what was read of a canonical atom before it.
use Rattle.std.specs.Prelude.{◌≡◌, ℕ, ◌+◌, ◌≤◌, min, Bool, true, false, not, ◌&&◌, ◌==◌, List, [], ◌∷◌, ◌++◌, length}
use Rattle.std.specs.Prelude.{slice_range, ℤ, Option, Some, None, option_and_then, Ok, Err, if◌then◌else◌}
use Rattle.std.specs.List.{prefix_len}
use Rattle.lin_model.specs.Names.{is_digit}
use Rattle.lin_model.specs.declared.form.FormTerm.{FormTerm}
use Rattle.lin_model.specs.declared.key_atom.TheConstants.{MAX_KEY_VARS}
use Rattle.lin_model.specs.declared.op.Op.{Op}
use Rattle.lin_model.specs.declared.term.TheConstants.{MAX_TERMS}
use Rattle.lin_text.specs.declared.atom_step.State.{State}
use Rattle.lin_text.specs.declared.atom_step.State.TheVariants.{Item, Size, Number, Factor, Behind, Constant}
use Rattle.lin_text.specs.declared.atom_step.State.TheVariants.{ConstantSize, Over}
use Rattle.lin_text.specs.declared.atom_step.Step.{Step}
use Rattle.lin_text.specs.declared.class.TheConstants.{TOO_LARGE}
use Rattle.lin_text.specs.declared.class.Class.{Class}
use Rattle.lin_text.specs.declared.class.Class.TheVariants as classes
use Rattle.lin_text.specs.declared.class.Lexeme.{Lexeme}
use Rattle.lin_text.specs.declared.fault.TextKind.TheVariants.{TooManyTerms}
use Rattle.lin_text.specs.Pieces.{Piece, name, number_of, PlainToken, pieces, AreTokens}
use Rattle.lin_text.specs.Classes.{class_of}
use Rattle.lin_text.specs.Grammar.{signed}
use Rattle.lin_text.specs.Reading.{Read, fault_at, refusal, begins_item_class}
use Rattle.lin_text.specs.KeyAtomTexts.{op_of, place_behind}

-- ---- one token

-- digits, one or more
abbrev pub is_number : List ℕ → Bool
is_number [] = false
is_number (b ∷ bs) = prefix_len is_digit (b ∷ bs) == length (b ∷ bs)

-- the number of the variable that a name is, where it is a `v` and digits; all from 64 on count as 64
abbrev pub key_var : List ℕ → Option ℕ
key_var [] = None
key_var (b ∷ bs) = if b == 118 then (if is_number bs then Some (min (number_of bs) MAX_KEY_VARS) else None) else None

-- the number with its sign; one that is too large for any text counts as the least such number
abbrev pub sized : Bool → ℕ → ℤ
sized negative n = signed negative (min n TOO_LARGE)

-- to a state, with no term complete
abbrev pub goes : State → Option Step
goes state = Some (record { term = None; state = state })

-- the item is the multiple of the variable, where there is one
abbrev pub named : ℤ → Option ℕ → Option Step
named coef None = None
named coef (Some var) = Some (record { term = Some (record { var = var; coef = coef }); state = Behind })

-- an item begins, behind the minus of its own or without one
abbrev pub quantity_step : Bool → Class → Option ℕ → Option Step
quantity_step negative (classes.Number n) var = goes (Number (sized negative n))
quantity_step negative classes.Name var = named (sized negative 1) var
quantity_step negative _ var = None

-- an item begins
abbrev pub item_step : Bool → Class → Option ℕ → Option Step
item_step subtracted classes.Minus var = goes (Size (not subtracted))
item_step subtracted class var = quantity_step subtracted class var

-- the sign of the atom stands behind its form
abbrev pub op_step : Option FormTerm → Option Op → Option Step
op_step term None = None
op_step term (Some op) = Some (record { term = term; state = Constant op })

-- behind an item, which is complete with the token if it wasn't before
abbrev pub behind_step : Option FormTerm → Class → Option Step
behind_step term classes.Plus = Some (record { term = term; state = Item false })
behind_step term classes.Minus = Some (record { term = term; state = Item true })
behind_step term (classes.Compare sign) = op_step term (op_of sign)
behind_step term _ = None

-- a constant among the terms, as one on a variable that no canonical atom has
abbrev pub constant_term : ℤ → FormTerm
constant_term n = record { var = MAX_KEY_VARS; coef = n }

-- behind a number
abbrev pub number_step : ℤ → Class → Option Step
number_step n classes.Times = goes (Factor n)
number_step n class = behind_step (Some (constant_term n)) class

-- behind a number and a `*`
abbrev pub factor_step : ℤ → Class → Option ℕ → Option Step
factor_step n classes.Name var = named n var
factor_step n _ var = None

-- the constant, behind a minus or not
abbrev pub size_step : Op → Bool → Class → Option Step
size_step op negative (classes.Number n) = goes (Over op (sized negative n))
size_step op negative _ = None

-- behind the op
abbrev pub constant_step : Op → Class → Option Step
constant_step op classes.Minus = goes (ConstantSize op)
constant_step op class = size_step op false class

-- what a token of this class, and of this variable if it names one, does in a state
abbrev pub next_step : State → Class → Option ℕ → Option Step
next_step (Item subtracted) class var = item_step subtracted class var
next_step (Size negative) class var = quantity_step negative class var
next_step (Number n) class var = number_step n class
next_step (Factor n) class var = factor_step n class var
next_step Behind class var = behind_step None class
next_step (Constant op) class var = constant_step op class
next_step (ConstantSize op) class var = size_step op true class
next_step (Over op n) class var = None

-- ---- as the reader sees tokens

-- the number of the variable that a token of the class and with these bytes names
abbrev pub var_by : Class → List ℕ → Option ℕ
var_by classes.Name text = key_var text
var_by _ text = None

-- the number of the variable that a token names
abbrev pub var_at : List ℕ → Lexeme → Option ℕ
var_at bytes l = var_by l.class (slice_range bytes l.from l.to)

-- an item comes next
abbrev pub is_item : State → Bool
is_item (Item subtracted) = true
is_item _ = false

-- a token does something, or can't come next
abbrev pub step_or_refusal : Option Step → Lexeme → Read Step
step_or_refusal None l = Err (refusal l)
step_or_refusal (Some s) l = Ok s

-- what a token does behind so many terms, or the fault that stands at it
unfoldable pub step_at : List ℕ → ℕ → State → Lexeme → Read Step
step_at bytes terms state l =
    if terms == MAX_TERMS && is_item state && begins_item_class l.class
    then Err (fault_at TooManyTerms l.from)
    else step_or_refusal (next_step state l.class (var_at bytes l)) l

-- ---- as the grammar sees them, one behind the other

-- the number of the variable that a token names
abbrev pub var_named : Piece → Option ℕ
var_named (name x) = key_var x
var_named _ = None

-- what a token does in a state
abbrev pub next : State → Piece → Option Step
next state p = next_step state (class_of p) (var_named p)

-- the terms with one that is complete, if any
abbrev pub with_term : List FormTerm → Option FormTerm → List FormTerm
with_term terms None = terms
with_term terms (Some t) = terms ++ t ∷ []

-- the terms and the state behind the tokens
abbrev pub run : List FormTerm → State → List Piece → Option (List FormTerm × State)
run terms state [] = Some (terms, state)
run terms state (p ∷ ps) = option_and_then (λ s. run (with_term terms s.term) s.state ps) (next state p)

-- an item that isn't complete
abbrev pub pending : State → ℕ
pending (Size negative) = 1
pending (Number n) = 1
pending (Factor n) = 1
pending _ = 0

-- the tokens of a line from `at` up to `to` were read, with these terms and the state behind them
pub record IsRead (in_proof : Bool) (bytes : List ℕ) (at : ℕ) (terms : List FormTerm) (state : State)
    (to : ℕ) : Type 0 where
  pub used : List PlainToken
  pub rest : List PlainToken
  pub are : AreTokens in_proof bytes at (used ++ rest)
  pub there : AreTokens in_proof bytes to rest
  pub ends : to ≡ place_behind at used
  pub runs : run [] (Item false) (pieces used) ≡ Some (terms, state)
  pub few : length terms + pending state ≤ MAX_TERMS
