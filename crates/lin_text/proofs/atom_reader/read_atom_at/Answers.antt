use Rattle.std.proofs.Common.{sym}
use Rattle.lin_text.specs.KeyAtomTexts.{HasAtomFault}
use Rattle.lin_text.proofs.AtomAnswers.{handed_on}
use Rattle.lin_text.proofs.AtomEnds.{at_end, behind_end}
use Rattle.lin_text.proofs.atom_reader.read_atom_at.Goals as goal

pub returns-in_err-read_end-clause-fault : goal.returns-in_err-read_end-clause-fault
returns-in_err-read_end-clause-fault c =
    handed_on c.from_residual-in_err-read_end.result c.in_err-read_end.field-0.0
    (HasAtomFault c.args.in_proof c.args.bytes.now c.args.at) c.from_residual-in_err-read_end.ensures.1
    (behind_end c.args.in_proof c.args.bytes.now c.args.at c.in_ok-atom.atom c.in_ok-atom.to c.in_ok-atom.ensures.read
    c.in_err-read_end.field-0.0 (sym c.in_err-read_end.ensures))

pub returns-clause-read : goal.returns-clause-read
returns-clause-read c =
    at_end c.args.in_proof c.args.bytes.now c.args.at c.in_ok-atom.atom c.in_ok-atom.to c.in_ok-atom.ensures.read
    (sym c.in_ok-read_end.ensures)
