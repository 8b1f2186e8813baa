-- A text that spells a session has no fault.
use Rattle.std.proofs.Common.{◌≡◌, ◌+◌, ℕ, false, List, [], ◌∷◌, length, refl, arith}
use Rattle.std.specs.Prelude.{sum_by}
use Rattle.lin_text.specs.declared.fault.SessionKind.{SessionKind}
use Rattle.lin_text.specs.Lines.{line_from}
use Rattle.lin_text.specs.Pieces.{PlainLine, AreLines}
use Rattle.session_text.specs.Sessions.{body_of}
use Rattle.session_text.specs.Laws.{SpelledHasNoFault}
use Rattle.session_text.specs.Reading.{HasFaultFrom, part_after}
use Rattle.session_text.specs.Lawful.{TextsAreLawful}
use Rattle.session_text.proofs.FirstFaults.{StandsIn}
use Rattle.session_text.proofs.WordLines.{behind_end, between-no_query, between-end, Leads-executors, Leads-end}
use Rattle.session_text.proofs.Wholes.{fault_behind}

-- behind the end line no fault stands where only skipped lines come
nothing_behind : (bytes : List ℕ) (e n at : ℕ) (k : SessionKind) (p : ℕ) → line_from bytes at ≡ length bytes
    → HasFaultFrom (behind_end e n) bytes at k p → ⊥
nothing_behind bytes e n at k p whole h = by_lines h.lines h.are h.first.stands
  where
    by_lines : (lines : List PlainLine) → AreLines false bytes at lines → StandsIn bytes (behind_end e n) lines k p → ⊥
    by_lines [] are s = s.0.1 refl
    by_lines (line ∷ lines) are s = omega (arith, are.0, are.1, whole)

pub SpellsSession-no_fault : TextsAreLawful → SpelledHasNoFault
SpellsSession-no_fault laws bytes s spelled k p f =
    let n : ℕ = 0 + sum_by length s in
    let e : ℕ = 0 + length s in
    let first = fault_behind bytes spelled.header k p f in
    let second = (Leads-executors laws bytes 0 0 (body_of bytes) spelled.stop s
    (omega (arith, spelled.fits.few_executors))
    (omega (arith, spelled.fits.few_queries)) spelled.are).forth k p first in
    let third = (Leads-end laws.in_order bytes (part_after e) e n spelled.stop spelled.ended.below (between-no_query e)
    (between-end e) spelled.ended.line).forth k p second in
    nothing_behind bytes e n spelled.ended.below k p spelled.ended.whole third
