use Rattle.std.proofs.Common.{◌∙◌, sym, rules}
use Rattle.journal.proofs.ReadingLemmas.{begun_read, foreign_read}
use Rattle.journal.proofs.reading.is_begun.Goals as goal

pub returns-then-starts_with-clause-start : goal.returns-then-starts_with-clause-start
returns-then-starts_with-clause-start g c =
    begun_read c.read_at.new.buf c.in_ok-n.n (search rules) _ c.in_ok-n.ensures.answer
    (sym c.starts_with.ensures.value ∙ c.if-starts_with.true)

pub returns-then-n-gt8-clause-cause : goal.returns-then-n-gt8-clause-cause
returns-then-n-gt8-clause-cause g c =
    foreign_read c.read_at.new.buf c.in_ok-n.n (search rules) _ c.in_ok-n.ensures.answer
    (sym c.starts_with.ensures.value ∙ c.if-starts_with.false) c.if-n-gt8.true
