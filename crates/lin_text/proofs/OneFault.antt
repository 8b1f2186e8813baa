-- A text has at most one first fault.
use Rattle.std.proofs.Common.{List, subst}
use Rattle.lin_text.specs.Pieces.{PlainLine}
use Rattle.lin_text.specs.Kinds.{rank}
use Rattle.lin_text.specs.Faults.{StandsAt, IsFirstFault}
use Rattle.lin_text.specs.Laws.{OneFirstFault}
use Rattle.lin_text.specs.Queries.{query_lines}
use Rattle.lin_text.specs.KindFacts.{rank-strict}
use Rattle.lin_text.specs.FirstFaultFacts.{one_first}
use Rattle.lin_text.proofs.UniqueTokens.{AreLines-once}

pub one_fault : OneFirstFault
one_fault p bytes at k j a b h i =
    one_first rank rank-strict (StandsAt (query_lines h.lines)) k j a b h.first
    (subst (λ (ls : List PlainLine). IsFirstFault (query_lines ls) j b)
    (AreLines-once p bytes at i.lines h.lines i.are h.are) i.first)
