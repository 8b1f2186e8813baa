use Rattle.std.proofs.Common.{vec_len, arith, sym, ap, ◌∙◌}
use Rattle.std.specs.Prelude.{Ok, Err}
use Rattle.lin_text.specs.Reading.{side_from}
use Rattle.lin_text.proofs.SideLemmas.{Gives-fault, behind-fault, behind-last, behind-next, behind-full}
use Rattle.lin_text.proofs.side.read_side.Goals as goal

pub returns-in_err-term-clause-exact : goal.returns-in_err-term-clause-exact
unfolding side_from
returns-in_err-term-clause-exact g c =
    Gives-fault _ _ c.in_err-term.field-0.0 c.from_residual.ensures.1
    (sym c.loop-token.invariant.same ∙ behind-fault c.args.in_proof c.args.bytes.now
    (g.N.Numbering.number c.args.names.now)
    c.loop-token.subtracted c.loop-token.token c.loop-token.terms.items (vec_len c.loop-token.terms) _ (omega arith)
    (sym c.in_err-term.ensures.exact))

pub returns-then-not-is_joint-clause-exact : goal.returns-then-not-is_joint-clause-exact
unfolding side_from
returns-then-not-is_joint-clause-exact g c =
    sym c.loop-token.invariant.same
    ∙ behind-last c.args.in_proof c.args.bytes.now (g.N.Numbering.number c.args.names.now) c.loop-token.subtracted
    c.loop-token.token
    c.loop-token.terms.items (vec_len c.loop-token.terms) c.in_ok-term.term c.in_ok-term.to
    c.next_lexeme-joint.result (omega arith) (sym c.in_ok-term.ensures.exact) c.next_lexeme-joint.ensures.shown
    (sym c.is_joint.ensures ∙ c.if-not-is_joint.true)
    ∙ ap (λ ts. Ok (ts, c.in_ok-term.to)) (sym (c.new.ensures ∙ c.in_ok-push.ensures.items))

pub loop-token-preserved : goal.loop-token-preserved
loop-token-preserved g c = record {
  order = c.next_lexeme-token.ensures.order;
  within = c.next_lexeme-token.ensures.within;
  few = omega (arith, c.in_ok-push.ensures.len);
  same =
      behind-next c.args.in_proof c.args.bytes.now (g.N.Numbering.number c.args.names.now) c.loop-token.subtracted
      c.loop-token.token
      c.loop-token.terms.items _ (vec_len c.loop-token.terms) _ c.in_ok-term.term c.in_ok-term.to
      c.next_lexeme-joint.result c.next_lexeme-token.result _ (omega arith) (sym c.in_ok-term.ensures.exact)
      c.next_lexeme-joint.ensures.shown
      (sym c.is_joint.ensures ∙ c.if-not-is_joint.false) c.in_ok-push.ensures.items c.in_ok-push.ensures.len
      c.is_minus-subtracted.ensures c.next_lexeme-token.ensures.shown
      ∙ c.loop-token.invariant.same;
}

pub returns-clause-exact : goal.returns-clause-exact
unfolding side_from
returns-clause-exact g c =
    sym c.loop-token.invariant.same
    ∙ behind-full c.args.in_proof c.args.bytes.now (g.N.Numbering.number c.args.names.now) c.loop-token.subtracted
    c.loop-token.token
    c.loop-token.terms.items (vec_len c.loop-token.terms) (omega arith)
    ∙ ap Err (sym c.full_at.ensures)
