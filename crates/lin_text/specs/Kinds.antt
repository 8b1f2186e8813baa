-- The kinds of fault of a query's text and of a session's, and which of them goes first at one place.
use Rattle.std.specs.Prelude.{ℕ, ◌+◌}
use Rattle.lin_text.specs.declared.fault.TextKind.{TextKind}
use Rattle.lin_text.specs.declared.fault.TextKind.TheVariants as texts
use Rattle.lin_text.specs.declared.fault.SessionKind.{SessionKind}
use Rattle.lin_text.specs.declared.fault.SessionKind.TheVariants.{BadHeader, TooManyExecutors, TooManyQueries, NoEnd}
use Rattle.lin_text.specs.declared.fault.SessionKind.TheVariants.{Token, Syntax, NumberTooLarge, UnknownName, NameTwice}
use Rattle.lin_text.specs.declared.fault.SessionKind.TheVariants.{EmptyRange, TooManyVars, TooManyAtoms, TooManyTerms}
use Rattle.lin_text.specs.declared.fault.SessionKind.TheVariants.{NoMemory}

-- a kind of fault of a query's text, as one of a session's
abbrev pub session_kind : TextKind → SessionKind
session_kind texts.Token = Token
session_kind texts.Syntax = Syntax
session_kind texts.NumberTooLarge = NumberTooLarge
session_kind texts.UnknownName = UnknownName
session_kind texts.NameTwice = NameTwice
session_kind texts.EmptyRange = EmptyRange
session_kind texts.TooManyVars = TooManyVars
session_kind texts.TooManyAtoms = TooManyAtoms
session_kind texts.TooManyTerms = TooManyTerms
session_kind texts.NoMemory = NoMemory

-- the order of the kinds of a query's text at one place
abbrev pub rank : TextKind → ℕ
rank texts.TooManyVars = 0
rank texts.TooManyAtoms = 1
rank texts.TooManyTerms = 2
rank texts.Token = 3
rank texts.Syntax = 4
rank texts.NumberTooLarge = 5
rank texts.UnknownName = 6
rank texts.NameTwice = 7
rank texts.EmptyRange = 8
rank texts.NoMemory = 9

-- the order of the kinds of a session's text at one place: those of a query's text stand among them in their order
abbrev pub session_rank : SessionKind → ℕ
session_rank BadHeader = 0
session_rank TooManyExecutors = 1
session_rank TooManyQueries = 2
session_rank TooManyVars = 3 + rank texts.TooManyVars
session_rank TooManyAtoms = 3 + rank texts.TooManyAtoms
session_rank TooManyTerms = 3 + rank texts.TooManyTerms
session_rank Token = 3 + rank texts.Token
session_rank Syntax = 3 + rank texts.Syntax
session_rank NumberTooLarge = 3 + rank texts.NumberTooLarge
session_rank UnknownName = 3 + rank texts.UnknownName
session_rank NameTwice = 3 + rank texts.NameTwice
session_rank EmptyRange = 3 + rank texts.EmptyRange
session_rank NoMemory = 3 + rank texts.NoMemory
session_rank NoEnd = 13
