use Rattle.std.proofs.Common.{◌≡◌, ℕ, false, List, length, rules, sym, ap, subst, ◌∙◌, arith}
use Rattle.lin_model.specs.declared.form.FormTerm.{FormTerm}
use Rattle.lin_text.specs.declared.atom_step.State.TheVariants.{Item}
use Rattle.lin_text.specs.KeyAtomTexts.{HasAtomFault}
use Rattle.lin_text.specs.AtomSteps.{step_at, IsRead}
use Rattle.lin_text.proofs.AtomAnswers.{handed_on, none_given}
use Rattle.lin_text.proofs.AtomParts.{read_none, at_step, at_fault, not_over}
use Rattle.lin_text.proofs.atom_reader.read_parts.Goals as goal

pub loop-state-init : goal.loop-state-init
loop-state-init c = record {
  within = c.requires;
  read = subst (λ (terms : List FormTerm). IsRead c.args.in_proof c.args.bytes.now c.args.at terms (Item false) c.args.at)
      (sym c.new-terms.ensures.items) (read_none c.args.in_proof c.args.bytes.now c.args.at c.requires);
}

pub returns-in_err-step : goal.returns-in_err-step
returns-in_err-step c =
    let count : c.len.result ≡ length c.loop-state.terms.items = search rules in
    record {
      read = none_given c.from_residual.result _ _ c.from_residual.ensures.1;
      within = none_given c.from_residual.result _ _ c.from_residual.ensures.1;
      fault = handed_on c.from_residual.result c.in_err-step.field-0.0
          (HasAtomFault c.args.in_proof c.args.bytes.now c.args.at) c.from_residual.ensures.1
          (at_fault c.args.in_proof c.args.bytes.now c.args.at c.loop-state.terms.items c.loop-state.state c.loop-state.to
          c.loop-state.invariant.read c.next_lexeme-token.result c.in_err-step.field-0.0
          c.next_lexeme-token.ensures.shown (not_over c.loop-state.state c.in_default.not-Over)
          (ap (λ (n : ℕ). step_at c.args.bytes.now n c.loop-state.state c.next_lexeme-token.result) (sym count)
          ∙ sym c.in_err-step.ensures));
    }

pub loop-state-smaller : goal.loop-state-smaller
loop-state-smaller c =
    let count : c.len.result ≡ length c.loop-state.terms.items = search rules in
    let step = at_step c.args.in_proof c.args.bytes.now c.args.at c.loop-state.terms.items c.loop-state.state c.loop-state.to
    c.loop-state.invariant.read c.next_lexeme-token.result c.in_ok-step.step c.next_lexeme-token.ensures.shown
    (ap (λ (n : ℕ). step_at c.args.bytes.now n c.loop-state.state c.next_lexeme-token.result) (sym count)
    ∙ sym c.in_ok-step.ensures) in
    omega (arith, step.1, c.next_lexeme-token.ensures.within)

pub loop-state-preserved : goal.loop-state-preserved
loop-state-preserved c =
    let count : c.len.result ≡ length c.loop-state.terms.items = search rules in
    let step = at_step c.args.in_proof c.args.bytes.now c.args.at c.loop-state.terms.items c.loop-state.state c.loop-state.to
    c.loop-state.invariant.read c.next_lexeme-token.result c.in_ok-step.step c.next_lexeme-token.ensures.shown
    (ap (λ (n : ℕ). step_at c.args.bytes.now n c.loop-state.state c.next_lexeme-token.result) (sym count)
    ∙ sym c.in_ok-step.ensures) in
    record {
      within = c.next_lexeme-token.ensures.within;
      read = subst (λ (terms : List FormTerm). IsRead c.args.in_proof c.args.bytes.now c.args.at terms
          c.in_ok-step.step.state c.next_lexeme-token.result.to) (sym c.in_ok-push_term.ensures) step.0;
    }
