use Rattle.std.proofs.Common.{false, [], subst}
use Rattle.lin_text.specs.declared.fault.TextKind.{TextKind}
use Rattle.lin_text.specs.declared.refusal.ReadError.{ReadError}
use Rattle.lin_text.specs.Answers.{IsReadError}
use Rattle.session_text.specs.Words.{token_at}
use Rattle.session_text.specs.Classes.{class_of, query_refusal}
use Rattle.session_text.specs.Faults.{query}
use Rattle.session_text.specs.Reading.{seen_with}
use Rattle.session_text.proofs.ReadFaults.{query_fault, fault-within, fault-from}
use Rattle.session_text.proofs.Steps.{fault_is}
use Rattle.session_text.proofs.query.read_body.Goals as goal

pub query_fault-requires : goal.query_fault-requires
query_fault-requires c =
    let f = c.in-Err-Fault.fault in
    let h = subst (λ (x : ReadError TextKind). IsReadError false c.args.bytes.now c.args.at x) c.in-Err-Fault.field-0-is
    (c.in-Err-Fault.ensures {u = tt}).fault in
    fault-within c.lines_are_in_order.ensures c.words_stand_in_no_line.ensures c.args.bytes.now c.args.at f.kind f.at h
    c.args.counts.executors c.args.counts.queries

pub returns-in-Err-Fault-clause-fault : goal.returns-in-Err-Fault-clause-fault
returns-in-Err-Fault-clause-fault c =
    let f = c.in-Err-Fault.fault in
    let bytes = c.args.bytes.now in
    let h = subst (λ (x : ReadError TextKind). IsReadError false bytes c.args.at x) c.in-Err-Fault.field-0-is
    (c.in-Err-Fault.ensures {u = tt}).fault in
    fault_is c.query_fault.result bytes (seen_with (query []) c.args.counts) c.args.at
    (query_refusal f.kind (class_of (token_at bytes f.at).piece) c.args.counts.executors c.args.counts.queries) f.at
    c.query_fault.ensures.kind
    (c.query_fault.ensures.place (fault-from c.lines_are_in_order.ensures c.words_stand_in_no_line.ensures bytes
    c.args.at f.kind f.at h c.args.counts.executors c.args.counts.queries))
    (query_fault c.lines_are_in_order.ensures c.words_stand_in_no_line.ensures bytes c.args.at f.kind f.at h
    c.args.counts.executors c.args.counts.queries)
