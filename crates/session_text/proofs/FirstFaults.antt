-- The first fault of a session's lines.
use Rattle.std.proofs.Common.{ℕ, false, List, ap, arith}
use Rattle.lin_text.specs.declared.fault.SessionKind.{SessionKind}
use Rattle.lin_text.specs.Pieces.{PlainLine}
use Rattle.lin_text.specs.Kinds.{session_rank}
use Rattle.lin_text.specs.KindFacts.{rank-most}
use Rattle.lin_text.specs.FirstFaults.{StandsInLine as AnyStandsInLine, StandsIn as AnyStandsIn, Leads as AnyLeads}
use Rattle.lin_text.specs.FirstFaults.{EndsLast}
use Rattle.session_text.specs.Faults.{Seen, rules}

-- a fault of the kind stands at this place of a line
abbrev pub StandsInLine : Seen → PlainLine → SessionKind → ℕ → Type 0
StandsInLine = AnyStandsInLine rules

-- a fault of the kind stands at this place in the lines
abbrev pub StandsIn : List ℕ → Seen → List PlainLine → SessionKind → ℕ → Type 0
StandsIn = AnyStandsIn rules

-- between two places no fault stands
abbrev pub Leads : List ℕ → Seen → ℕ → Seen → ℕ → Type 0
Leads = AnyLeads rules false

-- a missing end goes last
pub ends_last : EndsLast rules
ends_last seen kind end is = omega (arith, rank-most kind, ap session_rank is.0)
