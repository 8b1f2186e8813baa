use Rattle.std.proofs.Common.{◌≡◌, ◌+◌, List, length, sym, subst, ap, ◌∙◌, arith}
use Rattle.std.specs.Prelude.{sum_by}
use Rattle.std.proofs.lemmas.List.{length_push}
use Rattle.std.proofs.lemmas.List.Sums.{sum_by_push}
use Rattle.lin_model.specs.Conditions.{PlainCondition}
use Rattle.session_text.specs.declared.refusal.Counts.{Counts}
use Rattle.session_text.specs.Sessions.{AreExecutors}
use Rattle.session_text.specs.Faults.{Seen, nothing_seen}
use Rattle.session_text.specs.Reading.{seen_with, part_after}
use Rattle.session_text.proofs.FirstFaults.{Leads}
use Rattle.session_text.proofs.WordLines.{Leads-executors}
use Rattle.session_text.proofs.Steps.{IsReadError-back, handed_up, between-is, AreExecutors-push, IsExecutor-ahead}
use Rattle.session_text.proofs.session.read_executors.Goals as goal

pub returns-in_err-script-clause-fault : goal.returns-in_err-script-clause-fault
returns-in_err-script-clause-fault c =
    let bytes = c.args.bytes.now in
    let before = c.loop-alloc.scripts.items in
    let i = c.loop-alloc.invariant in
    let leads = Leads-executors c.texts_are_lawful.ensures bytes 0 0 c.args.start c.loop-alloc.stop before
    (omega (arith, i.executors, i.few_executors)) (omega (arith, i.queries, i.few_queries)) i.read in
    handed_up c.from_residual.result c.in_err-script.field-0.0 bytes nothing_seen c.args.start c.from_residual.ensures.1
    (IsReadError-back bytes nothing_seen (seen_with
    (part_after c.loop-alloc.counts.executors) c.loop-alloc.counts) c.args.start c.loop-alloc.stop
    c.in_err-script.field-0.0
    (subst (λ (s : Seen). Leads bytes nothing_seen c.args.start s c.loop-alloc.stop)
    (between-is c.loop-alloc.counts before i.executors i.queries) leads)
    (c.in_err-script.ensures {u = tt}).fault)

pub loop-alloc-smaller : goal.loop-alloc-smaller
loop-alloc-smaller c =
    let a = IsExecutor-ahead c.texts_are_lawful.ensures.in_order c.args.bytes.now c.loop-alloc.stop
    c.in_ok-script.script c.in_ok-script.next (c.in_ok-script.ensures {u = tt}).read in
    omega (arith, a.0, a.1)

pub loop-alloc-preserved : goal.loop-alloc-preserved
loop-alloc-preserved c =
    let is = c.in_ok-script.ensures {u = tt} in
    let i = c.loop-alloc.invariant in
    let items = (c.in_ok-push.ensures {u = tt}).items in
    let counted = c.with_script-counts.ensures in
    let e : c.with_script-counts.result.executors
    ≡ c.loop-alloc.counts.executors + 1 = ap (λ (d : Counts). d.executors) counted in
    let n : c.with_script-counts.result.queries
    ≡ c.loop-alloc.counts.queries + length c.in_ok-script.script = ap (λ (d : Counts). d.queries) counted
    ∙ ap (λ (qs : List PlainCondition). c.loop-alloc.counts.queries + length qs) c.queries.ensures in
    let sum : sum_by length c.push.new.self.items
    ≡ sum_by length c.loop-alloc.scripts.items + length c.in_ok-script.script = ap (sum_by length) items
    ∙ sum_by_push length c.loop-alloc.scripts.items c.in_ok-script.script in
    record {
      starts = is.starts;
      read = subst (λ (es : List (List PlainCondition)). AreExecutors c.args.bytes.now c.args.start es
          c.in_ok-script.next) (sym items) (AreExecutors-push c.args.bytes.now c.args.start c.loop-alloc.stop
          c.in_ok-script.next c.loop-alloc.scripts.items c.in_ok-script.script i.read is.read);
      executors =
          omega (arith, e, i.executors, ap length items, length_push c.loop-alloc.scripts.items c.in_ok-script.script);
      queries = omega (arith, n, i.queries, sum);
      few_executors = omega (arith, e, i.few_executors, is.few_executors);
      few_queries = omega (arith, n, is.few_queries);
      no_query = λ w. absurd (is.ends w);
    }
