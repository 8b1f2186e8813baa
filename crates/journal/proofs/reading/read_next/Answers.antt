use Rattle.std.proofs.Common.{List, ℕ, subst}
use Rattle.entry_codec.specs.Answers.{EndsFrame, IsFrameEnd}
use Rattle.entry_codec.specs.Frames.{IsFrame}
use Rattle.journal.specs.Reading.{HoldsFrame, rest_at}
use Rattle.journal.proofs.ReadingLemmas.{frame_more, end_more, said_end}
use Rattle.journal.proofs.ContentLemmas.{content_weaker}
use Rattle.journal.proofs.reading.read_next.Goals as goal

pub returns-in-Ok-clause-stands : goal.returns-in-Ok-clause-stands
returns-in-Ok-clause-stands g c =
    let frame = subst (λ (bytes : List ℕ). IsFrame bytes c.in-Ok.entry c.in-Ok.taken) c.deref.ensures.value c.in-Ok.ensures in
    content_weaker _ (λ file. HoldsFrame c.fill_frame.new.buffer.items (rest_at c.args.at file))
    (λ file. IsFrame (rest_at c.args.at file) c.in-Ok.entry c.in-Ok.taken) c.in_ok-fill_frame.ensures.frame
    (λ file holds. frame_more c.fill_frame.new.buffer.items (rest_at c.args.at file) holds c.in-Ok.entry c.in-Ok.taken frame)

pub returns-in_ok-end-in-Err-clause-stands : goal.returns-in_ok-end-in-Err-clause-stands
returns-in_ok-end-in-Err-clause-stands g c =
    let end = said_end c.fill_frame.new.buffer.items c.in-Err.end c.in_ok-end-in-Err.end
    (subst (λ (bytes : List ℕ). EndsFrame bytes c.in-Err.end) c.deref.ensures.value c.in-Err.ensures)
    c.in_ok-end-in-Err.ensures in
    content_weaker _ (λ file. HoldsFrame c.fill_frame.new.buffer.items (rest_at c.args.at file))
    (λ file. IsFrameEnd (rest_at c.args.at file) c.in_ok-end-in-Err.end) c.in_ok-fill_frame.ensures.frame
    (λ file holds. end_more c.fill_frame.new.buffer.items (rest_at c.args.at file) holds c.in_ok-end-in-Err.end end)
