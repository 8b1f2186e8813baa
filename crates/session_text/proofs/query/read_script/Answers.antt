use Rattle.std.proofs.Common.{List, length, refl, sym, subst, ap, ◌∙◌, arith}
use Rattle.std.proofs.lemmas.List.{length_push}
use Rattle.std.proofs.lemmas.Bool.{false≢true}
use Rattle.lin_model.specs.Conditions.{PlainCondition}
use Rattle.session_text.specs.declared.refusal.Counts.{Counts}
use Rattle.session_text.specs.Sessions.{AreQueries}
use Rattle.session_text.specs.Faults.{Seen, executor}
use Rattle.session_text.specs.Reading.{seen_with}
use Rattle.session_text.proofs.WordLemmas.{class-query, query-class}
use Rattle.session_text.proofs.FirstFaults.{Leads}
use Rattle.session_text.proofs.WordLines.{Leads-queries}
use Rattle.session_text.proofs.Steps.{IsReadError-back, handed_up, asked-is, AreQueries-push, IsQuery-ahead}
use Rattle.session_text.proofs.query.read_script.Goals as goal

pub loop-alloc-init : goal.loop-alloc-init
loop-alloc-init c = record {
  starts = c.requires.starts;
  read = subst (λ (qs : List PlainCondition). AreQueries c.args.bytes.now c.args.start qs c.args.start)
      (sym c.new-queries.ensures.items) refl;
  executors = refl;
  queries = omega (arith, ap length c.new-queries.ensures.items);
  few = c.requires.few;
}

pub read_query-requires-clause-begins : goal.read_query-requires-clause-begins
read_query-requires-clause-begins c = class-query _ (c.begins_with.ensures.0 c.loop-alloc-test.true)

pub returns-in_err-query-clause-fault : goal.returns-in_err-query-clause-fault
returns-in_err-query-clause-fault c =
    let bytes = c.args.bytes.now in
    let asked_before = c.loop-alloc.queries.items in
    let i = c.loop-alloc.invariant in
    let leads = Leads-queries c.texts_are_lawful.ensures bytes c.args.counts.executors c.args.counts.queries
    c.args.start c.loop-alloc.at asked_before (omega (arith, i.queries, i.few)) i.read in
    handed_up c.from_residual.result c.in_err-query.field-0.0 bytes
    (seen_with executor c.args.counts) c.args.start c.from_residual.ensures.1
    (IsReadError-back bytes (seen_with executor c.args.counts)
    (seen_with executor c.loop-alloc.so_far) c.args.start c.loop-alloc.at c.in_err-query.field-0.0
    (subst (λ (s : Seen). Leads bytes (seen_with executor c.args.counts) c.args.start s c.loop-alloc.at)
    (asked-is c.args.counts c.loop-alloc.so_far (length asked_before) i.executors i.queries) leads)
    (c.in_err-query.ensures {u = tt}).fault)

pub loop-alloc-smaller : goal.loop-alloc-smaller
loop-alloc-smaller c =
    let a = IsQuery-ahead c.texts_are_lawful.ensures.in_order c.args.bytes.now c.loop-alloc.at c.in_ok-query.query
    c.in_ok-query.stop (c.in_ok-query.ensures {u = tt}).read in
    omega (arith, a.0, a.1)

pub loop-alloc-preserved : goal.loop-alloc-preserved
loop-alloc-preserved c =
    let is = c.in_ok-query.ensures {u = tt} in
    let i = c.loop-alloc.invariant in
    let items = (c.in_ok-push.ensures {u = tt}).items in
    let counted = c.with_query-so_far.ensures in
    let n = ap (λ (d : Counts). d.queries) counted in
    record {
      starts = is.starts;
      read = subst (λ (qs : List PlainCondition). AreQueries c.args.bytes.now c.args.start qs c.in_ok-query.stop)
          (sym items) (AreQueries-push c.args.bytes.now c.args.start c.loop-alloc.at c.in_ok-query.stop
          c.loop-alloc.queries.items c.in_ok-query.query i.read is.read);
      executors = ap (λ (d : Counts). d.executors) counted ∙ i.executors;
      queries = omega (
        arith,
        n,
        i.queries,
        ap length items,
        length_push c.loop-alloc.queries.items c.in_ok-query.query,
      );
      few = omega (arith, n, i.few, is.few);
    }

pub returns-clause-ends : goal.returns-clause-ends
returns-clause-ends c = λ is. false≢true (sym c.loop-alloc-test.false ∙ c.begins_with.ensures.1 (query-class _ is))
