use Rattle.std.proofs.Common.{◌≡◌, ◌<◌, ℕ, length, sym, ap, ◌∙◌, arith}
use Rattle.std.proofs.lemmas.Bool.{false≢true}
use Rattle.lin_text.specs.Lines.{line_from, line_below}
use Rattle.lin_text.specs.Pieces.{word}
use Rattle.session_text.specs.declared.class.Class.{Class}
use Rattle.session_text.specs.Words.{token_at, second_at, end_word, IsWordLine}
use Rattle.session_text.specs.Classes.{class_of, refusal_kind}
use Rattle.session_text.specs.Faults.{ended}
use Rattle.session_text.specs.Reading.{seen_with, part_after}
use Rattle.session_text.proofs.WordLemmas.{class-end, end-class}
use Rattle.session_text.proofs.WordLines.{between-no_query, between-end, Leads-end}
use Rattle.session_text.proofs.Wholes.{first_refused}
use Rattle.session_text.proofs.Steps.{fault_is, fault_up, fault_on, second_end, cant_begin}
use Rattle.session_text.proofs.session.read_end.Goals as goal

pub returns-then-not-is_end-clause-fault : goal.returns-then-not-is_end-clause-fault
returns-then-not-is_end-clause-fault c =
    let bytes = c.args.bytes.now in
    let l = c.line_at-line.ensures in
    let lt : line_from bytes c.args.at < length bytes = omega (arith, l.start, l.within, c.if-line-bytes.false) in
    fault_is c.refusal.result bytes (seen_with (part_after c.args.counts.executors) c.args.counts) c.args.at _ _
    (c.refusal.ensures.kind ∙ ap (λ (k : Class). refusal_kind k c.args.counts.executors c.args.counts.queries) l.class)
    (c.refusal.ensures.place ∙ l.from)
    (first_refused c.lines_are_in_order.ensures bytes
    (seen_with (part_after c.args.counts.executors) c.args.counts) c.args.at
    (between-no_query c.args.counts.executors) lt
    (cant_begin c.args.counts.executors (token_at bytes
    (line_from bytes c.args.at)).piece c.requires.no_executor c.requires.no_query
    (λ is. false≢true (sym c.if-not-is_end.true ∙ c.is_end.ensures.1 (l.class ∙ end-class _ is)))))

pub returns-in_err-below-clause-fault : goal.returns-in_err-below-clause-fault
returns-in_err-below-clause-fault c =
    let bytes = c.args.bytes.now in
    let f = c.in_err-below.field-0.0 in
    let is = c.in_err-below.ensures {u = tt} in
    let start = c.line_at-line.ensures.start in
    let begins : (token_at bytes (line_from bytes c.args.at)).piece
    ≡ word end_word = class-end _ (sym c.line_at-line.ensures.class ∙ c.is_end.ensures.0 c.if-not-is_end.false) in
    let second = second_end c.lines_are_in_order.ensures bytes c.args.counts.executors c.args.counts.queries c.args.at
    begins (λ end. is.goes_on (ap (λ (m : ℕ). (second_at bytes m).piece) start ∙ end)) in
    let kind : f.kind ≡ refusal_kind (class_of
    (second_at bytes (line_from bytes c.args.at)).piece) c.args.counts.executors c.args.counts.queries =
    is.kind ∙ ap (λ (m : ℕ). refusal_kind (class_of
    (second_at bytes m).piece) c.args.counts.executors c.args.counts.queries) start in
    let place : f.at ≡ (second_at bytes (line_from bytes c.args.at)).from = is.place
    ∙ ap (λ (m : ℕ). (second_at bytes m).from) start in
    fault_up c.from_residual.result f bytes (seen_with
    (part_after c.args.counts.executors) c.args.counts) c.args.at c.from_residual.ensures.1
    (fault_is f bytes (seen_with (part_after c.args.counts.executors) c.args.counts) c.args.at _ _ kind place second)

pub returns-clause-fault : goal.returns-clause-fault
returns-clause-fault c =
    let bytes = c.args.bytes.now in
    let is = c.in_ok-below.ensures {u = tt} in
    let start = c.line_at-line.ensures.start in
    let line : IsWordLine end_word bytes c.args.at c.in_ok-below.below = record {
      begins = class-end _ (sym c.line_at-line.ensures.class ∙ c.is_end.ensures.0 c.if-not-is_end.false);
      ends = ap (λ (m : ℕ). (second_at bytes m).piece) (sym start) ∙ is.ends;
      next = is.next ∙ ap (λ (m : ℕ). line_below bytes m) start;
    } in
    fault_on c.read_rest.result bytes (seen_with (part_after c.args.counts.executors) c.args.counts)
    (seen_with ended c.args.counts) c.args.at c.in_ok-below.below
    (Leads-end c.lines_are_in_order.ensures bytes
    (part_after c.args.counts.executors) c.args.counts.executors c.args.counts.queries c.args.at c.in_ok-below.below
    (between-no_query c.args.counts.executors) (between-end c.args.counts.executors) line)
    c.read_rest.ensures.fault
