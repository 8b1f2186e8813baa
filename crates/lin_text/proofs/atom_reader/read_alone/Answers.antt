use Rattle.std.proofs.Common.{false, sym, ap, subst, ◌∙◌, arith}
use Rattle.lin_text.specs.declared.fault.TextKind.{TextKind}
use Rattle.lin_text.specs.declared.refusal.Fault.{Fault}
use Rattle.lin_text.specs.FirstFaults.{HasFaultFrom}
use Rattle.lin_text.specs.Lines.{line_from}
use Rattle.lin_text.specs.KeyAtomTexts.{atom_rules, HasAtomFault}
use Rattle.lin_text.proofs.AtomAnswers.{error_in_line}
use Rattle.lin_text.proofs.AtomTextFaults.{in_line, alone, line_behind}
use Rattle.lin_text.proofs.atom_reader.read_alone.Goals as goal

pub returns-in_err-atom-clause-fault : goal.returns-in_err-atom-clause-fault
returns-in_err-atom-clause-fault c =
    error_in_line c.from_residual.result c.in_err-atom.field-0.0
    (HasAtomFault false c.args.bytes.now c.first_line-at.result)
    (HasFaultFrom atom_rules false c.args.bytes.now false 0) c.from_residual.ensures.1
    (λ kind place fault. in_line c.args.bytes.now c.first_line-at.result kind place c.first_line-at.ensures.start
    (omega (arith, c.first_line-at.ensures.within, c.if-at-bytes.false)) fault) c.in_err-atom.ensures.fault

pub returns-then-below-bytes-clause-fault : goal.returns-then-below-bytes-clause-fault
returns-then-below-bytes-clause-fault c =
    subst (λ (f : Fault TextKind). HasFaultFrom atom_rules false c.args.bytes.now false 0 f.kind f.at)
    (sym c.refusal.ensures)
    (line_behind c.args.bytes.now c.first_line-at.result c.first_line-below.result c.in_ok-atom.atom
    c.first_line-at.ensures.start (omega (arith, c.first_line-at.ensures.within, c.if-at-bytes.false))
    c.in_ok-atom.ensures.read
    (c.first_line-below.ensures.start ∙ ap (line_from c.args.bytes.now) c.line_below.ensures.start)
    c.if-below-bytes.true c.next_lexeme.result c.next_lexeme.ensures.shown)

pub returns-clause-read : goal.returns-clause-read
returns-clause-read c =
    alone c.args.bytes.now c.first_line-at.result c.first_line-below.result c.in_ok-atom.atom
    c.first_line-at.ensures.start (omega (arith, c.first_line-at.ensures.within, c.if-at-bytes.false))
    c.in_ok-atom.ensures.read
    (c.first_line-below.ensures.start ∙ ap (line_from c.args.bytes.now) c.line_below.ensures.start)
    (omega (arith, c.first_line-below.ensures.within, c.if-below-bytes.false))
