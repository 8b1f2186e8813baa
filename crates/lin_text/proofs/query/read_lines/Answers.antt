use Rattle.std.proofs.Common.{ℕ, arith, subst, sym, ◌∙◌, ap}
use Rattle.lin_model.specs.Conditions.{PlainCondition, Fits}
use Rattle.lin_text.specs.Lines.{line_from}
use Rattle.lin_text.specs.Queries.{Spells}
use Rattle.lin_text.proofs.LinesRead.{ReadTo, read_none}
use Rattle.lin_text.proofs.QueryEnds.{in_range, spelled_at_end}
use Rattle.lin_text.proofs.QueryReads.{at_line, at_word, at_error}
use Rattle.lin_text.proofs.query.read_lines.Goals as goal

pub loop-at-init : goal.loop-at-init
loop-at-init c = record {
  within = c.first_line-at.ensures.within;
  read =
      subst (λ (at : ℕ). ReadTo c.args.in_proof c.args.bytes.now c.args.start at c.new-query.result)
      (sym c.first_line-at.ensures.start)
      (subst (λ (q : PlainCondition). ReadTo c.args.in_proof c.args.bytes.now c.args.start
      (line_from c.args.bytes.now c.args.start) q) (sym c.new-query.ensures)
      (read_none c.args.in_proof c.args.bytes.now c.args.start));
  starts = c.first_line-at.ensures.keeps;
}

pub into_condition-requires-clause-in_range : goal.into_condition-requires-clause-in_range
into_condition-requires-clause-in_range c =
    in_range c.args.in_proof c.args.bytes.now c.args.start c.loop-at.at c.loop-at.query c.loop-at.invariant.read

pub returns-then-is_word-clause-read : goal.returns-then-is_word-clause-read
returns-then-is_word-clause-read c =
    subst (λ (q : PlainCondition). Spells c.args.in_proof c.args.bytes.now c.args.start q c.loop-at.at)
    (sym c.into_condition.ensures.value)
    (at_word c.args.in_proof c.args.bytes.now c.args.start c.loop-at.at c.loop-at.query c.loop-at.invariant.read
    c.loop-at-test.true c.next_lexeme-first.result c.next_lexeme-first.ensures.shown (sym c.is_word.ensures
    ∙ c.if-is_word.true)
    (subst (λ (q : PlainCondition). Fits q.vars q.atoms) c.into_condition.ensures.value c.into_condition.ensures.fits))

pub returns-in_err-query-clause-fault : goal.returns-in_err-query-clause-fault
returns-in_err-query-clause-fault c =
    at_error c.args.in_proof c.args.bytes.now c.args.start c.loop-at.at c.loop-at.query c.loop-at.invariant.read
    c.loop-at-test.true c.next_lexeme-first.result c.next_lexeme-first.ensures.shown
    c.from_residual.result c.in_err-query.field-0.0 (sym c.is_word.ensures
    ∙ c.if-is_word.false) c.from_residual.ensures.1 c.in_err-query.ensures

pub loop-at-preserved : goal.loop-at-preserved
loop-at-preserved c = record {
  within = c.first_line-at-in-loop-at.ensures.within;
  read =
      subst (λ (at : ℕ). ReadTo c.args.in_proof c.args.bytes.now c.args.start at c.in_ok-query.query)
      (sym (c.first_line-at-in-loop-at.ensures.start ∙ ap (line_from c.args.bytes.now) c.line_below.ensures.start))
      (at_line c.args.in_proof c.args.bytes.now c.args.start c.loop-at.at c.loop-at.query c.loop-at.invariant.read
      c.loop-at-test.true c.next_lexeme-first.result c.next_lexeme-first.ensures.shown (sym c.is_word.ensures
      ∙ c.if-is_word.false) c.in_ok-query.query c.in_ok-query.ensures);
  starts = λ h. c.first_line-at-in-loop-at.ensures.keeps c.line_below.ensures.starts;
}

pub into_condition-requires-2-clause-in_range : goal.into_condition-requires-2-clause-in_range
into_condition-requires-2-clause-in_range c =
    in_range c.args.in_proof c.args.bytes.now c.args.start c.loop-at.at c.loop-at.query c.loop-at.invariant.read

pub returns-clause-read : goal.returns-clause-read
returns-clause-read c =
    subst (λ (q : PlainCondition). Spells c.args.in_proof c.args.bytes.now c.args.start q c.loop-at.at)
    (sym c.into_condition-2.ensures.value)
    (spelled_at_end c.args.in_proof c.args.bytes.now c.args.start c.loop-at.at c.loop-at.query c.loop-at.invariant.read
    (subst (λ (q : PlainCondition). Fits q.vars q.atoms) c.into_condition-2.ensures.value
    c.into_condition-2.ensures.fits)
    (omega (arith, c.loop-at.invariant.within, c.loop-at-test.false)))
