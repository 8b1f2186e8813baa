use Rattle.std.proofs.Common.{ℕ, sym, subst, ap, ◌∙◌, arith}
use Rattle.std.proofs.lemmas.Bool.{false≢true}
use Rattle.lin_text.specs.declared.fault.SessionKind.{SessionKind}
use Rattle.lin_text.specs.declared.fault.SessionKind.TheVariants.{BadHeader}
use Rattle.lin_text.specs.Lines.{line_below}
use Rattle.lin_text.specs.declared.refusal.Fault.{Fault}
use Rattle.lin_text.specs.declared.refusal.ReadError.TheVariants as errors
use Rattle.session_text.specs.Words.{token_at, IsHeader}
use Rattle.session_text.specs.Faults.{Seen, nothing_seen, HasFault}
use Rattle.session_text.proofs.FirstFaults.{Leads}
use Rattle.session_text.proofs.WordLines.{Leads-executors}
use Rattle.session_text.proofs.Wholes.{bad_header}
use Rattle.session_text.proofs.Steps.{between-is, whole_error, whole_up}
use Rattle.session_text.proofs.session.read_whole.Goals as goal

pub returns-then-not-is_header-clause-fault : goal.returns-then-not-is_header-clause-fault
returns-then-not-is_header-clause-fault c =
    let bytes = c.args.bytes.now in
    let start = c.next_line-first.ensures.start in
    let place = ap (λ (f : Fault SessionKind). f.at) c.fault_at.ensures ∙ c.next_lexeme.ensures.from
    ∙ ap (λ (m : ℕ). (token_at bytes m).from) start in
    subst (λ (k : SessionKind). HasFault bytes k c.fault_at.result.at)
    (sym (ap (λ (f : Fault SessionKind). f.kind) c.fault_at.ensures))
    (subst (λ (m : ℕ). HasFault bytes BadHeader m) (sym place)
    (bad_header c.texts_are_lawful.ensures.in_order bytes
    (λ is. false≢true (sym c.if-not-is_header.true
    ∙ c.is_header.ensures.1 (subst (λ (m : ℕ). IsHeader bytes m) (sym start) is)))))

pub returns-in_err-scripts-clause-fault : goal.returns-in_err-scripts-clause-fault
returns-in_err-scripts-clause-fault c =
    let bytes = c.args.bytes.now in
    let start = c.next_line-first.ensures.start in
    whole_up c.from_residual.result c.in_err-scripts.field-0.0 bytes c.from_residual.ensures.1
    (whole_error bytes c.line_below.result c.in_err-scripts.field-0.0
    (subst (λ (m : ℕ). IsHeader bytes m) start (c.is_header.ensures.0 c.if-not-is_header.false))
    (c.line_below.ensures.start ∙ ap (line_below bytes) start) (c.in_err-scripts.ensures {u = tt}).fault)

pub returns-in_err-read_end-clause-fault : goal.returns-in_err-read_end-clause-fault
returns-in_err-read_end-clause-fault c =
    let bytes = c.args.bytes.now in
    let start = c.next_line-first.ensures.start in
    let r = c.in_ok-scripts.ensures {u = tt} in
    let before = c.in_ok-scripts.field-0 in
    let f = c.in_err-read_end.field-0.0 in
    let leads = Leads-executors c.texts_are_lawful.ensures bytes 0 0 c.line_below.result before.stop
    before.scripts.items (omega (arith, r.fits.few_executors)) (omega (arith, r.fits.few_queries)) r.read in
    let there = subst (λ (s : Seen). Leads bytes nothing_seen c.line_below.result s before.stop)
    (between-is before.counts before.scripts.items r.executors r.queries) leads in
    let fault = (c.in_err-read_end.ensures {u = tt}).fault in
    whole_up c.from_residual-in_err-read_end.result (errors.Fault f) bytes c.from_residual-in_err-read_end.ensures.1
    (whole_error bytes c.line_below.result (errors.Fault f)
    (subst (λ (m : ℕ). IsHeader bytes m) start (c.is_header.ensures.0 c.if-not-is_header.false))
    (c.line_below.ensures.start ∙ ap (line_below bytes) start)
    (there.back f.kind f.at fault))
