use Rattle.std.proofs.Common.{rules, refl, sym, ap, subst, ◌∙◌, w64, to_z, of_z, SFits}
use Rattle.std.proofs.lemmas.Bool.{false≢true}
use Rattle.std.proofs.lemmas.Int.{to_z-of_z}
use Rattle.lin_model.specs.KeyAtom.{PlainKeyAtom, IsCanonical}
use Rattle.lin_text.specs.declared.class.Lexeme.{Lexeme}
use Rattle.lin_text.specs.declared.fault.TextKind.{TextKind}
use Rattle.lin_text.specs.declared.fault.TextKind.TheVariants.{Syntax}
use Rattle.lin_text.specs.declared.refusal.Fault.{Fault}
use Rattle.lin_text.specs.Reading.{fault_at}
use Rattle.lin_text.specs.KeyAtomTexts.{SpellsAtomTo, HasAtomFault}
use Rattle.lin_text.proofs.AtomWhole.{made, spells_to, refuses_whole}
use Rattle.lin_text.proofs.atom_reader.read_atom_from.Goals as goal

pub returns-in-Some-clause-read : goal.returns-in-Some-clause-read
returns-in-Some-clause-read c =
    let parts = c.in_ok-terms.field-0 in
    let fits : SFits w64 parts.constant = search rules in
    let same = made c.new.result parts.terms.items parts.op (to_z w64 (of_z w64 parts.constant)) parts.constant
    c.new.ensures (to_z-of_z w64 parts.constant fits) in
    subst (λ (a : PlainKeyAtom). SpellsAtomTo c.args.in_proof c.args.bytes.now c.args.at a parts.to)
    (sym (c.in-Some.ensures.value ∙ same))
    (spells_to c.args.in_proof c.args.bytes.now c.args.at parts.terms.items parts.op parts.constant parts.to
    c.in_ok-terms.ensures.read (subst IsCanonical same (c.in-Some.ensures.canonical.0 refl)))

pub returns-in-None-clause-fault : goal.returns-in-None-clause-fault
returns-in-None-clause-fault c =
    let parts = c.in_ok-terms.field-0 in
    let fits : SFits w64 parts.constant = search rules in
    let same = made c.new.result parts.terms.items parts.op (to_z w64 (of_z w64 parts.constant)) parts.constant
    c.new.ensures (to_z-of_z w64 parts.constant fits) in
    subst (λ (f : Fault TextKind). HasAtomFault c.args.in_proof c.args.bytes.now c.args.at f.kind f.at)
    (sym (c.fault_at.ensures ∙ ap (λ (l : Lexeme). fault_at Syntax l.from) c.next_lexeme-first.ensures.shown))
    (refuses_whole c.args.in_proof c.args.bytes.now c.args.at parts.terms.items parts.op parts.constant parts.to
    c.in_ok-terms.ensures.read
    (λ canonical. false≢true (c.in-None.ensures.canonical.1 (subst IsCanonical (sym same) canonical))))
