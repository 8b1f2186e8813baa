use Rattle.std.proofs.Common.{◌≡◌, ◌+◌, ℕ, sym, subst, ap, ◌∙◌}
use Rattle.lin_text.specs.declared.fault.SessionKind.TheVariants.{TooManyExecutors}
use Rattle.lin_text.specs.Lines.{line_from, line_below}
use Rattle.lin_text.specs.declared.refusal.Fault.{Fault}
use Rattle.lin_text.specs.declared.refusal.ReadError.TheVariants as errors
use Rattle.lin_text.specs.declared.fault.SessionKind.{SessionKind}
use Rattle.session_text.specs.declared.refusal.Counts.{Counts}
use Rattle.session_text.specs.Words.{token_at, second_at, executor_word, IsWordLine}
use Rattle.session_text.specs.Classes.{class_of, refusal_kind}
use Rattle.session_text.specs.Faults.{executor}
use Rattle.session_text.specs.Reading.{seen_with, part_after}
use Rattle.session_text.proofs.FirstFaults.{Leads}
use Rattle.session_text.proofs.WordLines.{between-no_query, between-executor, Leads-executor}
use Rattle.session_text.proofs.Wholes.{too_many_executors}
use Rattle.session_text.proofs.Steps.{fault_is, handed_on, handed_up, second_executor}
use Rattle.session_text.proofs.session.read_executor.Goals as goal

pub returns-then-counts-eq-MAX_EXECUTORS-clause-fault : goal.returns-then-counts-eq-MAX_EXECUTORS-clause-fault
returns-then-counts-eq-MAX_EXECUTORS-clause-fault c =
    fault_is c.fault_at.result c.args.bytes.now
    (seen_with (part_after c.args.counts.executors) c.args.counts) c.args.at TooManyExecutors
    (token_at c.args.bytes.now (line_from c.args.bytes.now c.args.at)).from
    (ap (λ (f : Fault SessionKind). f.kind) c.fault_at.ensures) (ap (λ (f : Fault SessionKind). f.at) c.fault_at.ensures
    ∙ c.line_at-line.ensures.from)
    (too_many_executors c.lines_are_in_order.ensures c.args.bytes.now
    (seen_with (part_after c.args.counts.executors) c.args.counts) c.args.at
    (between-no_query c.args.counts.executors) c.requires.begins c.if-counts-eq-MAX_EXECUTORS.true)

pub returns-in_err-below-clause-fault : goal.returns-in_err-below-clause-fault
returns-in_err-below-clause-fault c =
    let bytes = c.args.bytes.now in
    let f = c.in_err-below.field-0.0 in
    let is = c.in_err-below.ensures {u = tt} in
    let start = c.line_at-line.ensures.start in
    let second = second_executor c.lines_are_in_order.ensures bytes c.args.counts.executors c.args.counts.queries
    c.args.at c.requires.begins (λ full. c.if-counts-eq-MAX_EXECUTORS.false full)
    (λ end. is.goes_on (ap (λ (m : ℕ). (second_at bytes m).piece) start ∙ end)) in
    let kind : f.kind ≡ refusal_kind (class_of (second_at bytes (line_from bytes c.args.at)).piece)
    (c.args.counts.executors + 1) c.args.counts.queries =
    is.kind ∙ ap (λ (m : ℕ). refusal_kind (class_of
    (second_at bytes m).piece) c.with_executor-counts.result.executors c.with_executor-counts.result.queries) start
    ∙ ap (λ (d : Counts). refusal_kind (class_of
    (second_at bytes (line_from bytes c.args.at)).piece) d.executors d.queries) c.with_executor-counts.ensures in
    let place : f.at ≡ (second_at bytes (line_from bytes c.args.at)).from = is.place
    ∙ ap (λ (m : ℕ). (second_at bytes m).from) start in
    handed_up c.from_residual.result (errors.Fault f) bytes
    (seen_with (part_after c.args.counts.executors) c.args.counts) c.args.at c.from_residual.ensures.1
    (fault_is f bytes (seen_with (part_after c.args.counts.executors) c.args.counts) c.args.at _ _ kind place second)

pub returns-clause-fault : goal.returns-clause-fault
returns-clause-fault c =
    let bytes = c.args.bytes.now in
    let is = c.in_ok-below.ensures {u = tt} in
    let start = c.line_at-line.ensures.start in
    let line : IsWordLine executor_word bytes c.args.at c.in_ok-below.below = record {
      begins = c.requires.begins;
      ends = ap (λ (m : ℕ). (second_at bytes m).piece) (sym start) ∙ is.ends;
      next = is.next ∙ ap (λ (m : ℕ). line_below bytes m) start;
    } in
    handed_on c.read_script.result bytes (seen_with (part_after c.args.counts.executors) c.args.counts)
    (seen_with executor c.with_executor-counts.result) c.args.at c.in_ok-below.below
    (subst (λ (d : Counts). Leads bytes (seen_with (part_after c.args.counts.executors) c.args.counts) c.args.at
    (seen_with executor d) c.in_ok-below.below) (sym c.with_executor-counts.ensures)
    (Leads-executor c.lines_are_in_order.ensures bytes
    (part_after c.args.counts.executors) c.args.counts.executors c.args.counts.queries c.args.at c.in_ok-below.below
    (between-no_query c.args.counts.executors) (between-executor c.args.counts.executors)
    (λ full. c.if-counts-eq-MAX_EXECUTORS.false full) line))
    c.read_script.ensures.fault
