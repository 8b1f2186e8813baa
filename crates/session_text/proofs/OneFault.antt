-- A text has at most one first fault.
use Rattle.std.proofs.Common.{List, false, subst}
use Rattle.lin_text.specs.Pieces.{PlainLine}
use Rattle.lin_text.specs.LineLaws.{LinesAreInOrder}
use Rattle.lin_text.specs.Kinds.{session_rank}
use Rattle.lin_text.specs.FirstFaults.{IsFirst}
use Rattle.lin_text.specs.KindFacts.{session_rank-strict}
use Rattle.lin_text.specs.FirstFaultFacts.{one_first}
use Rattle.session_text.specs.Sessions.{body_of}
use Rattle.session_text.specs.Faults.{StandsAt}
use Rattle.session_text.specs.Laws.{OneFirstFault}

pub one_fault : LinesAreInOrder → OneFirstFault
one_fault in_order bytes k j a b f g =
    one_first session_rank session_rank-strict (StandsAt bytes f.lines) k j a b f.first
    (subst (λ (ls : List PlainLine). IsFirst session_rank (StandsAt bytes ls) j b)
    ((in_order false bytes).lines_once (body_of bytes) g.lines f.lines g.are f.are) g.first)
