use Rattle.std.proofs.Common.{◌<◌, length, refl, ap, ◌∙◌, arith}
use Rattle.lin_text.specs.Lines.{line_from}
use Rattle.session_text.specs.declared.class.Class.{Class}
use Rattle.session_text.specs.Classes.{refusal_kind}
use Rattle.session_text.specs.Faults.{ended}
use Rattle.session_text.specs.Reading.{seen_with}
use Rattle.session_text.proofs.Wholes.{first_refused}
use Rattle.session_text.proofs.Steps.{fault_is}
use Rattle.session_text.proofs.session.read_rest.Goals as goal

pub returns-else-line-bytes-clause-fault : goal.returns-else-line-bytes-clause-fault
returns-else-line-bytes-clause-fault c =
    let bytes = c.args.bytes.now in
    let l = c.line_at-line.ensures in
    let lt : line_from bytes c.args.at < length bytes = omega (arith, l.start, l.within, c.if-line-bytes.false) in
    fault_is c.refusal.result bytes (seen_with ended c.args.counts) c.args.at _ _
    (c.refusal.ensures.kind ∙ ap (λ (k : Class). refusal_kind k c.args.counts.executors c.args.counts.queries) l.class)
    (c.refusal.ensures.place ∙ l.from)
    (first_refused c.lines_are_in_order.ensures bytes (seen_with ended c.args.counts) c.args.at (λ ps. refl) lt
    (λ x. x.may))
