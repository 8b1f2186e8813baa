use Rattle.std.proofs.Common.{◌≡◌, ◌+◌, List, [], ◌∷◌, ◌++◌, false, refl, sym, subst, ◌∙◌}
use Rattle.std.proofs.lemmas.List.Elements.{All-push}
use Rattle.cert_check.specs.declared.reply.Reply.{Reply}
use Rattle.cert_check.specs.Replies.{has_core}
use Rattle.pipeline.specs.Answers.{NoneHasCore}
use Rattle.pipeline.proofs.AskLemmas.{asked_more, core_is_last, ends_with_core}
use Rattle.pipeline.proofs.AskLemmas.{ends_without, on_err, vain_at, vain_between}
use Rattle.pipeline.proofs.asking.ask_keys.Goals as goal

pub returns-in_err-reply-clause-in_vain : goal.returns-in_err-reply-clause-in_vain
returns-in_err-reply-clause-in_vain g c =
    on_err c.from_residual.result _
    (vain_at (g.O.SliceOracle.budget c.args.oracle.now) c.args.slices.now c.loop-slice.slice-index
    c.slice-item.result c.loop-slice.replies (g.O.SliceOracle.seat c.args.oracle.now)
    (g.O.SliceOracle.seat c.loop-slice.oracle) (g.O.SliceOracle.seat c.ask.new.self) c.loop-slice-test.true
    c.slice-item.is c.loop-slice.invariant.asks (c.in_err-reply.ensures {u = tt}).in_vain
    c.loop-slice.invariant.no_core)

pub returns-in_err-push-clause-in_vain : goal.returns-in_err-push-clause-in_vain
returns-in_err-push-clause-in_vain g c =
    on_err c.from_residual-in_err-push.result _
    (vain_between (g.O.SliceOracle.budget c.args.oracle.now) c.args.slices.now (c.loop-slice.slice-index + 1)
    (c.loop-slice.replies ++ c.in_ok-reply.reply ∷ []) (g.O.SliceOracle.seat c.args.oracle.now)
    (g.O.SliceOracle.seat c.ask.new.self)
    (core_is_last c.loop-slice.replies c.in_ok-reply.reply c.loop-slice.invariant.no_core)
    (asked_more c.asks_join.ensures (g.O.SliceOracle.budget c.args.oracle.now)
    (g.O.SliceOracle.budget c.loop-slice.oracle) c.args.slices.now c.loop-slice.slice-index c.slice-item.result
    c.loop-slice.replies c.in_ok-reply.reply (c.loop-slice.replies ++ c.in_ok-reply.reply ∷ [])
    (g.O.SliceOracle.seat c.args.oracle.now) (g.O.SliceOracle.seat c.loop-slice.oracle)
    (g.O.SliceOracle.seat c.ask.new.self) c.loop-slice.invariant.budget c.loop-slice-test.true c.slice-item.is
    refl c.loop-slice.invariant.asks (c.in_ok-reply.ensures {u = tt}).asks))

pub returns-then-has_core-clause-asks : goal.returns-then-has_core-clause-asks
returns-then-has_core-clause-asks g c =
    ends_with_core (g.O.SliceOracle.budget c.args.oracle.now) c.args.slices.now c.loop-slice.slice-index
    c.loop-slice.replies c.in_ok-reply.reply c.push.new.self (g.O.SliceOracle.seat c.args.oracle.now)
    (g.O.SliceOracle.seat c.ask.new.self) c.loop-slice-test.true (c.in_ok-push.ensures {u = tt}).ok
    (asked_more c.asks_join.ensures (g.O.SliceOracle.budget c.args.oracle.now)
    (g.O.SliceOracle.budget c.loop-slice.oracle) c.args.slices.now c.loop-slice.slice-index c.slice-item.result
    c.loop-slice.replies c.in_ok-reply.reply c.push.new.self
    (g.O.SliceOracle.seat c.args.oracle.now) (g.O.SliceOracle.seat c.loop-slice.oracle)
    (g.O.SliceOracle.seat c.ask.new.self) c.loop-slice.invariant.budget c.loop-slice-test.true c.slice-item.is
    (c.in_ok-push.ensures {u = tt}).ok c.loop-slice.invariant.asks (c.in_ok-reply.ensures {u = tt}).asks)
    c.loop-slice.invariant.no_core (sym c.has_core-has_core.ensures ∙ c.if-has_core.true)

pub loop-slice-preserved : goal.loop-slice-preserved
loop-slice-preserved g c = record {
  asks = asked_more c.asks_join.ensures (g.O.SliceOracle.budget c.args.oracle.now)
      (g.O.SliceOracle.budget c.loop-slice.oracle) c.args.slices.now c.loop-slice.slice-index c.slice-item.result
      c.loop-slice.replies c.in_ok-reply.reply c.push.new.self
      (g.O.SliceOracle.seat c.args.oracle.now) (g.O.SliceOracle.seat c.loop-slice.oracle)
      (g.O.SliceOracle.seat c.ask.new.self) c.loop-slice.invariant.budget c.loop-slice-test.true c.slice-item.is
      (c.in_ok-push.ensures {u = tt}).ok c.loop-slice.invariant.asks (c.in_ok-reply.ensures {u = tt}).asks;
  no_core = subst (λ (replies : List Reply). NoneHasCore replies) (sym (c.in_ok-push.ensures {u = tt}).ok)
      (All-push (λ reply. has_core reply ≡ false) c.loop-slice.replies c.in_ok-reply.reply
      c.loop-slice.invariant.no_core (sym c.has_core-has_core.ensures ∙ c.if-has_core.false));
  budget = c.ask.ensures.budget ∙ c.loop-slice.invariant.budget;
  origin = c.ask.ensures.origin ∙ c.loop-slice.invariant.origin;
}

pub returns-clause-asks : goal.returns-clause-asks
returns-clause-asks g c =
    ends_without (g.O.SliceOracle.budget c.args.oracle.now) c.args.slices.now c.loop-slice.slice-index
    c.loop-slice.replies (g.O.SliceOracle.seat c.args.oracle.now) (g.O.SliceOracle.seat c.loop-slice.oracle)
    c.loop-slice-test.false c.loop-slice.auto.slice-index-end c.loop-slice.invariant.asks
    c.loop-slice.invariant.no_core
